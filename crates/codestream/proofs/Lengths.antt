-- The lengths of the parts of a body in closed form: T bits for each coefficient, and a sign for each that is not 0. Assumes nothing.
use mathlib.Core.Path.{◌≡◌, ◌∙◌}
use mathlib.Core.List.{List}
use Prim.Native.Nat.{ℕ, ◌+◌, ◌*◌, ◌<◌, ◌≤◌}
use native.Mathlib.Nat.{mul-le-mul}
use native.Mathlib.Omega.{arith}
use lib.Dec.{ltb}
use lib.IntN.{ℤ, nat_abs}
use lib.ListN.{length, get_or}
use Rattle.kernel.specs.Kernels.{the_kernel}
use Rattle.line.specs.Cells.{count, cell}
use Rattle.line.proofs.Counts.{count-le}
use Rattle.bitplane.specs.Inner.{nonzero}
use Rattle.bitplane.specs.Body.{class}
use Rattle.bitplane.proofs.Lengths.{class_length}
use Rattle.refusal.proofs.Passed.{area_most}
use Rattle.scan.specs.Inner.{sign_count}
use Rattle.scan.proofs.BodyLengths.{whole_length}
use Rattle.header.specs.Fields.{Shot}
use Rattle.shot.specs.Shots.{shot_mask, marks}
use Rattle.shot.proofs.Masks.{mask_length, mask_binary}
use Rattle.codestream.specs.Stream.{area, marked_part, body_bits, total_length}
use Rattle.codestream.proofs.Accepted.{Writable, setting_of, rectangles_of, plane_small, planes_most, each_small}

-- ---- the mask of a shot
module _ (s : Shot) where
  pub shot_mask_length : length (shot_mask s) ≡ area s
  shot_mask_length = mask_length (the_kernel s.kernel) s.levels s.width s.height s.rectangles

  pub shot_mask_binary : (i : ℕ) → i < length (shot_mask s) → get_or (shot_mask s) i 2 < 2
  shot_mask_binary i h = mask_binary (the_kernel s.kernel) s.levels s.width s.height s.rectangles i (omega (arith, shot_mask_length))

module _ {s : Shot} {l : List ℤ} (w : Writable s l) where
  pub marked_part_length : length (marked_part s l) ≡ s.planes * marks s + count (area s) (nonzero (class (shot_mask s) 1) (cell l))
  marked_part_length = class_length (class (shot_mask s) 1) (cell l) s.planes (area s) (each_small w)

  pub body_length : length (body_bits s l) ≡ s.planes * area s + sign_count l
  body_length = rw (w.planes, ← w.full) (whole_length l (shot_mask s) (shot_mask_length s ∙ (rw w.full)) (omega (arith, plane_small w)) (shot_mask_binary s))

  -- ---- no stream is longer than its length field can say
  pub small_area : area s ≤ 16777216
  small_area = area_most (setting_of w).sides

  pub total_most : total_length s l < 4294967296
  unfolding sign_count
  total_most =
      let b : s.planes * area s ≤ 22 * 16777216 = mul-le-mul (planes_most w) small_area in
      omega (arith, body_length, w.full, small_area, count-le (length l) (λ i. ltb 0 (nat_abs (cell l i))), (rectangles_of w).few)
