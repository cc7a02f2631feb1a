-- What stands behind a complete body. Assumes nothing.
use mathlib.Core.Path.{◌≡◌, refl, sym, ap, ◌∙◌}
use mathlib.Core.Bool.{Bool, true, false, not}
use mathlib.Core.List.{List}
use Prim.Native.Nat.{ℕ, ◌+◌, ◌*◌, ◌-◌, ◌<◌, ◌≤◌}
use native.Mathlib.Omega.{arith}
use native.Mathlib.Numerals.{add-one}
use lib.Dec.{ltb, eqb}
use lib.ListN.{length}
use borrow.Author.Tests.{lt-ltb, le-ltb, le-leb, lt-leb, eq-eqb, ne_eqb}
use Rattle.line.specs.Mask.{any_below}
use Rattle.line.proofs.Cells.{by_lt}
use Rattle.line.proofs.Marks.{any_intro, or_right}
use Rattle.bitplane.specs.Bits.{bit_at, bytes}
use Rattle.bitplane.specs.Reader.{received, bad_filling}
use Rattle.reader.specs.Reads.{stopped}
use Rattle.reader.proofs.Passes.{stopped_in, stopped_past}

module _ (l : List ℕ) (p : ℕ) where
  abbrev set : ℕ → Bool
  set k = not (eqb (bit_at l (p + k)) 0)

  -- the first k bits behind the body are 0
  pub record Clean (k : ℕ) : Type 0 where
    pub few : k ≤ 8 * length l - p
    pub none : any_below k set ≡ false

  pub clean_start : Clean 0
  unfolding any_below
  clean_start = record { few = omega arith; none = refl }

  pub clean_more : {k b : ℕ} → Clean k → k < 8 * length l - p → b ≡ bit_at l (p + k) → b ≡ 0 → Clean (k + 1)
  unfolding any_below
  clean_more {k} c h e z = record { few = omega arith; none = rw (add-one k, c.none, eq-eqb (bit_at l (p + k)) 0 (sym e ∙ z)) }

  pub bad_cut : 8 * length l < p → false ≡ bad_filling l p
  unfolding bad_filling
  bad_cut h = rw (lt-leb p (8 * length l) h)

  module _ (whole : p ≤ 8 * length l) where
    pub bad_further : bytes p < length l → true ≡ bad_filling l p
    unfolding bad_filling
    bad_further h = rw (le-leb p (8 * length l) whole, lt-ltb (bytes p) (length l) h)

    pub bad_bit : {k b : ℕ} → k < 8 * length l - p → b ≡ bit_at l (p + k) → (b ≡ 0 → ⊥) → true ≡ bad_filling l p
    unfolding bad_filling
    bad_bit {k} h e n = rw (le-leb p (8 * length l) whole) (sym (or_right (ltb (bytes p) (length l)) (any_below (8 * length l - p) set) (any_intro (8 * length l - p) set k h (ap not (ne_eqb (bit_at l (p + k)) 0 (λ z. n (e ∙ z)))))))

    pub bad_none : {k : ℕ} → length l ≤ bytes p → 8 * length l - p ≤ k → Clean k → false ≡ bad_filling l p
    unfolding bad_filling
    bad_none {k} h g c = let e : k ≡ 8 * length l - p = omega (arith, c.few) in rw (le-leb p (8 * length l) whole, le-ltb (bytes p) (length l) h, ← e, c.none)

-- a stopped place is as complete as the place itself
pub filling_stopped : (l : List ℕ) (p : ℕ) → bad_filling l (stopped (received l) p) ≡ bad_filling l p
filling_stopped l p = by_lt (8 * length l) p
    (λ lt. sym (bad_cut l (stopped (received l) p) (omega (arith, stopped_past (received l) lt))) ∙ bad_cut l p lt)
    (λ ge. ap (bad_filling l) (stopped_in (received l) ge))
