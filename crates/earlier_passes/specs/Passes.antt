-- Passes over a plane, forward and back, and what they ask of their buffers.
--
--   line_transform undo k == the transform of a line by kernel k, or the way back
--   part_step p t         == of a line whose numbers lie t apart: how far apart those of one part lie, evens or odds where p, else lows or highs
--   part_at p t m         == and where its second part begins, the odds or the highs
--   Liftable undo n a b   == the first n numbers of the parts a and b are taken within 32 bits
--   LiftedStrips undo k m c a b a' b'
--                         == a' and b' are the strips a and b with each line transformed, or taken back
--   Takes undo w X        == a line of w numbers that it takes within 32 bits
--   Area stride w h l a b == an upper left area of w by h, both even, in a buffer l of rows of `stride` numbers, with working memory a and b
--
-- Assumes nothing: these are definitions.
use Rattle.std.specs.Prelude.{◌≡◌, Bool, true, false, List, ℕ, ◌*◌, ◌/◌, ◌%◌, ◌^◌, ◌<◌, ◌≤◌, ℤ, length}
use Rattle.kernel.specs.declared.Kernel.{Kernel}
use Rattle.line.specs.Cells.{Line, behind}
use Rattle.line.specs.Inner.{AllWithin}
use Rattle.line.specs.Transform.{forward, back}
use Rattle.grid.specs.Picture.{Transform}
use Rattle.earlier_passes.specs.Lines.{Samples, Coefficients, Forward, Back}

abbrev pub line_transform : Bool → Kernel → Transform ℤ
line_transform false k = forward k
line_transform true k = back k

abbrev pub part_step : Bool → ℕ → ℕ
part_step true t = 2 * t
part_step false t = t

abbrev pub part_at : Bool → ℕ → ℕ → ℕ
part_at true t m = t
part_at false t m = m * t

abbrev pub Liftable : Bool → ℕ → List ℤ → List ℤ → Type 0
Liftable false n a b = Samples n a b
Liftable true n a b = Coefficients n a b

abbrev pub LiftedStrips : Bool → Kernel → ℕ → ℕ → List ℤ → List ℤ → List ℤ → List ℤ → Type 0
LiftedStrips false k m c a b a' b' = Forward k m c a b a' b'
LiftedStrips true k m c a b a' b' = Back k m c a b a' b'

abbrev pub TakesOf : Bool → ℕ → Line ℤ → Type 0
TakesOf false w X = AllWithin (2 ^ 29) w X
TakesOf true w X = AllWithin (2 ^ 30) (w / 2) X × AllWithin (2 ^ 24) (w / 2) (behind (w / 2) X)

pub record Takes (undo : Bool) (w : ℕ) (X : Line ℤ) : Type 0 where
  pub takes : TakesOf undo w X

pub record Area (stride w h : ℕ) (l a b : List ℤ) : Type 0 where
  pub some_w : 0 < w
  pub some_h : 0 < h
  pub even_w : w % 2 ≡ 0
  pub even_h : h % 2 ≡ 0
  pub w_most : w ≤ 4096
  pub h_most : h ≤ 4096
  pub wide : w ≤ stride
  pub fits : h * stride ≤ length l
  pub a_room : 32768 ≤ length a
  pub b_room : 32768 ≤ length b
