-- The bytes of a body are filled with zeros, and no byte follows them. Assumes nothing.
use mathlib.Core.Path.{◌≡◌, ap, ◌∙◌}
use mathlib.Core.Bool.{Bool, false, not}
use mathlib.Core.List.{List}
use Prim.Native.Nat.{ℕ, ◌+◌, ◌*◌, ◌-◌, ◌<◌}
use native.Mathlib.Omega.{arith}
use borrow.Author.Tests.{le-leb, le-ltb, eq-eqb}
use lib.Dec.{eqb}
use lib.ListN.{length, get_or-eq_default}
use Rattle.line.specs.Mask.{any_below}
use Rattle.line.proofs.Cells.{by_bool, never}
use Rattle.line.proofs.Marks.{any_elim}
use Rattle.bitplane.specs.Bits.{bit_at, bytes}
use Rattle.bitplane.specs.Reader.{bad_filling}
use Rattle.bitplane.proofs.Bytes.{Binary, Holds, holds_bit}

module _ (l m : List ℕ) (binary : Binary l) (holds : Holds l m) (size : length m ≡ bytes (length l)) where
  filling_bit : (k : ℕ) → k < 8 * length m - length l → not (eqb (bit_at m (length l + k)) 0) ≡ false
  filling_bit k h =
      let p = length l + k in
      let z : bit_at m p ≡ 0 = holds_bit l m binary holds p (omega arith) ∙ get_or-eq_default l 0 (omega arith) in
      ap not (eq-eqb (bit_at m p) 0 z)

  pub good_filling : bad_filling m (length l) ≡ false
  unfolding bad_filling
  good_filling =
      let f : ℕ → Bool = λ k. not (eqb (bit_at m (length l + k)) 0) in
      let n = 8 * length m - length l in
      let z : any_below n f ≡ false = by_bool (any_below n f) (λ t. any_elim n f t (λ k h q. absurd (never q (filling_bit k h)))) (λ q. q) in
      rw (le-leb (length l) (8 * length m) (omega arith), le-ltb (bytes (length l)) (length m) (omega arith)) z
