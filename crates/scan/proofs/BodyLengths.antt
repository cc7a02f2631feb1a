-- The lengths of a body in closed form, from what the scans find: T bits for each coefficient, and a sign for each that is not 0.
--
--   part c == the bits of the coefficients of class c: part 1 the marked, part 0 the unmarked
--
-- Assumes nothing.
use mathlib.Core.Path.{◌≡◌, sym, ap, ◌∙◌}
use mathlib.Core.Bool.{not}
use mathlib.Core.List.{List, ◌++◌}
use Prim.Native.Nat.{ℕ, ◌+◌, ◌*◌, ◌^◌, ◌<◌}
use native.Mathlib.Nat.{mul-add}
use native.Mathlib.Omega.{arith}
use lib.Dec.{ltb}
use lib.IntN.{ℤ, nat_abs}
use lib.ListN.{length, get_or, length-append}
use Rattle.line.specs.Cells.{count, cell}
use Rattle.line.proofs.Counts.{count_parted, count_parted_on}
use Rattle.bitplane.specs.Inner.{nonzero}
use Rattle.bitplane.specs.Body.{class, planes, body}
use Rattle.bitplane.proofs.Classes.{classes_apart}
use Rattle.bitplane.proofs.Lengths.{class_length}
use Rattle.scan.specs.Inner.{sign_count}
use Rattle.scan.specs.Scan.{largest, plane_count}
use Rattle.scan.proofs.PlaneCounts.{plane_count_lem}

module _ (l : List ℤ) (mask : List ℕ) (size : length mask ≡ length l) (small : largest l < 2 ^ 32) where
  abbrev part : ℕ → List ℕ
  part c = body (planes (class mask c) (plane_count l)) (cell l) (length l)

  part_length : (c : ℕ) → length (part c) ≡ plane_count l * count (length l) (class mask c) + count (length l) (nonzero (class mask c) (cell l))
  part_length c = class_length (class mask c) (cell l) (plane_count l) (length l) (plane_count_lem l small).each

  module _ (bytes : (i : ℕ) → i < length mask → get_or mask i 2 < 2) where
    apart : (i : ℕ) → i < length l → class mask 0 i ≡ not (class mask 1 i)
    apart i h = classes_apart mask i (bytes i (omega arith))

    pub whole_length : length (part 1 ++ part 0) ≡ plane_count l * length l + sign_count l
    unfolding sign_count
    whole_length =
        let T = plane_count l in
        let n = length l in
        let each : T * count n (class mask 1) + T * count n (class mask 0) ≡ T * n =
        sym (mul-add T (count n (class mask 1)) (count n (class mask 0))) ∙ ap (λ (k : ℕ). T * k) (count_parted (class mask 1) (class mask 0) n apart) in
        omega (arith, length-append (part 1) (part 0), part_length 1, part_length 0, count_parted_on (class mask 1) (class mask 0) (λ i. ltb 0 (nat_abs (cell l i))) n apart)
