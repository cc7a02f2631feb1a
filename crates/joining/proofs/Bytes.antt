-- Buffers of marks joined: byte by byte, as regions, and as what calls fill. Assumes nothing.
use mathlib.Core.Path.{◌≡◌, refl, sym, ap, ap₂, ◌∙◌, fun_ext}
use mathlib.Core.Bool.{Bool, true, false, ◌||◌}
use mathlib.Core.List.{List}
use Prim.Native.Nat.{ℕ, ◌+◌, ◌*◌, ◌<◌, ◌≤◌}
use native.Mathlib.Omega.{arith}
use lib.Bits.{bit_or}
use lib.Dec.{ltb}
use lib.ListN.{length, get_or, get_or-eq_default}
use borrow.Author.Tests.{eq-eqb, eqb-true}
use Rattle.line.specs.Cells.{Line, choose}
use Rattle.line.specs.Mask.{marked, byte_of}
use Rattle.line.proofs.Cells.{by_lt}
use Rattle.line.proofs.Lists.{listed-length, listed_cell, is_listed}
use Rattle.line.proofs.Marks.{mark_of, byte_of-marked, or_byte}
use Rattle.grid.specs.Picture.{picture}
use Rattle.plane.specs.Plane.{join, Inside}
use Rattle.picture_mask.specs.Masks.{region_of}
use Rattle.joining.specs.Join.{join_byte}
use Rattle.joining.specs.Laws.{filled}

-- what the loop writes
pub or_bytes : (a b : ℕ) → a ≤ 1 → b ≤ 1 → bit_or a b ≡ byte_of (marked a || marked b)
or_bytes a b p q = ap₂ bit_or (sym (byte_of-marked a p)) (sym (byte_of-marked b q)) ∙ or_byte (marked a) (marked b)

-- marks that are filled in are there
mark_filled : (W H : ℕ) (F : Line Bool) (i : ℕ) → i < W * H → marked (get_or (filled W H (λ i. byte_of (F i))) i 0) ≡ F i
mark_filled W H F i h = ap marked (listed_cell (W * H) (λ i. byte_of (F i)) 0 i h) ∙ mark_of (F i)

-- ---- the region that joined bytes hold
module _ (W H : ℕ) (a b : List ℕ) (p : length a ≡ W * H) (q : length b ≡ W * H) where
  pub mark_joined : (i : ℕ) → marked (get_or (filled W H (join_byte a b)) i 0) ≡ (marked (get_or a i 0) || marked (get_or b i 0))
  mark_joined i = by_lt i (W * H)
      (mark_filled W H (λ i. marked (get_or a i 0) || marked (get_or b i 0)) i)
      (λ ge. ap marked (get_or-eq_default (filled W H (join_byte a b)) 0 (omega (arith, listed-length (W * H) (join_byte a b))))
      ∙ sym (ap₂ (λ (m n : ℕ). marked m || marked n) (get_or-eq_default a 0 (omega arith)) (get_or-eq_default b 0 (omega arith))))

  pub region_joined : region_of W (filled W H (join_byte a b)) ≡ join (region_of W a) (region_of W b)
  unfolding picture
  region_joined = fun_ext λ y. fun_ext λ x. row (ltb x W) (y * W + x)
    where
      row : (t : Bool) (i : ℕ) → let at : List ℕ → Bool = λ l. marked (choose t (get_or l i 0) 0) in at (filled W H (join_byte a b)) ≡ (at a || at b)
      row true i = mark_joined i
      row false i = refl

-- ---- the region whose bytes are 1 where those of another are
pub region_inside : (W : ℕ) (a b : List ℕ) → ((i : ℕ) → get_or a i 0 ≡ 1 → get_or b i 0 ≡ 1) → Inside (region_of W a) (region_of W b)
unfolding picture
region_inside W a b h y x = row (ltb x W) (y * W + x)
  where
    row : (t : Bool) (i : ℕ) → marked (choose t (get_or a i 0) 0) ≡ true → marked (choose t (get_or b i 0) 0) ≡ true
    row true i e = eq-eqb (get_or b i 0) 1 (h i (eqb-true (get_or a i 0) 1 e))
    row false i e = e

pub byte_inside : (m n : Bool) → (m ≡ true → n ≡ true) → byte_of m ≡ 1 → byte_of n ≡ 1
byte_inside true n h e = ap byte_of (h refl)
byte_inside false n h e = absurd (omega arith)

-- ---- marks that are filled in and joined
module _ (W H : ℕ) (F G : Line Bool) where
  pub joined_filled : filled W H (λ i. byte_of (F i || G i)) ≡ filled W H (join_byte (filled W H (λ i. byte_of (F i))) (filled W H (λ i. byte_of (G i))))
  joined_filled = is_listed (W * H) _ 0 _ (listed-length (W * H) _) (λ i h.
      listed_cell (W * H) _ 0 i h ∙ ap byte_of (sym (ap₂ ◌||◌ (mark_filled W H F i h) (mark_filled W H G i h))))
