-- Pairs of rows that a level places and ends: on the way in two rows of samples, on the way back a low one and the high one behind it.
-- The last pair of an odd number of rows has no high row.
--
--   PairsIn k s w h a b l l'    == l' is l with the rows of pairs a up to b of the h rows of samples s transformed, row 2n in row n and row 2n + 1 behind the
--                                  rows of lows
--   PairsPlaced W S w h a b p u u'
--                               == u' is u with pairs a up to b of h rows, from the plane p of rows of W: the right part of the low row, and the high row
--   ended_row high k M K s t l  == the row at s, or the one t behind it, after the first step of its columns is undone, of which M lows and K highs are left
--   PairBack k M K s t w l l'   == l' is l with both rows of w numbers after that taken back, or with K = 0 the first alone
--
-- Assumes nothing: these are definitions.
use Rattle.std.specs.Prelude.{◌≡◌, Bool, true, false, List, ℕ, ◌+◌, ◌*◌, ◌/◌, ◌<◌, ◌≤◌, ℤ, length}
use Rattle.kernel.specs.declared.Kernel.{Kernel}
use Rattle.line.specs.Cells.{Line, cell, low_side}
use Rattle.line.specs.Transform.{forward, back}
use Rattle.lifting.specs.Parts.{lane}
use Rattle.lifting.specs.Lines.{first_lows, first_highs}
use Rattle.passes.specs.Passes.{pictured}

abbrev pub ended_row : Bool → Kernel → ℕ → ℕ → ℕ → ℕ → List ℤ → Line ℤ
ended_row false k M K s t l x = first_lows true k K (lane s (2 * t) l x) (lane (s + t) (2 * t) l x) 0
ended_row true k M K s t l x = first_highs true k M (lane s (2 * t) l x) (lane (s + t) (2 * t) l x) 0

pub record PairBack (k : Kernel) (M K s t w : ℕ) (l l' : List ℤ) : Type 0 where
  pub size : length l' ≡ length l
  pub low : (x : ℕ) → x < w → cell l' (s + x) ≡ back k w (ended_row false k M K s t l) x
  pub high : (x : ℕ) → 0 < K → x < w → cell l' (s + t + x) ≡ back k w (ended_row true k M K s t l) x
  pub off : (i : ℕ) → ((x : ℕ) → x < w → i ≡ s + x → ⊥) → ((x : ℕ) → 0 < K → x < w → i ≡ s + t + x → ⊥) → cell l' i ≡ cell l i

pub record PairsPlaced (W S w h a b : ℕ) (p u u' : List ℤ) : Type 0 where
  pub size : length u' ≡ length u
  pub low : (i x : ℕ) → a ≤ i → i < b → low_side w ≤ x → x < w → cell u' (2 * i * S + x) ≡ cell p (i * W + x)
  pub high : (i x : ℕ) → a ≤ i → i < b → i < h / 2 → x < w → cell u' (2 * i * S + S + x) ≡ cell p ((low_side h + i) * W + x)
  pub off : (j : ℕ) → ((i x : ℕ) → a ≤ i → i < b → low_side w ≤ x → x < w → j ≡ 2 * i * S + x → ⊥)
      → ((i x : ℕ) → a ≤ i → i < b → i < h / 2 → x < w → j ≡ 2 * i * S + S + x → ⊥)
      → cell u' j ≡ cell u j

pub record PairsIn (k : Kernel) (s : List ℕ) (w h a b : ℕ) (l l' : List ℤ) : Type 0 where
  pub size : length l' ≡ length l
  pub low : (i x : ℕ) → a ≤ i → i < b → x < w → cell l' (i * w + x) ≡ forward k w (pictured w s (2 * i)) x
  pub high : (i x : ℕ) → a ≤ i → i < b → i < h / 2 → x < w → cell l' ((low_side h + i) * w + x) ≡ forward k w (pictured w s (2 * i + 1)) x
  pub off : (j : ℕ) → ((i x : ℕ) → a ≤ i → i < b → x < w → j ≡ i * w + x → ⊥) → ((i x : ℕ) → a ≤ i → i < b → i < h / 2 → x < w → j ≡ (low_side h + i) * w + x → ⊥)
      → cell l' j ≡ cell l j
