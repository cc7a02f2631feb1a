-- The header of an accepted call has room for each of its values. Assumes nothing.
use mathlib.Core.Path.{◌≡◌}
use mathlib.Core.List.{List}
use Prim.Native.Nat.{ℕ, ◌+◌, ◌*◌, ◌/◌, ◌%◌, ◌<◌, ◌≤◌}
use native.Mathlib.Omega.{arith}
use lib.IntN.{ℤ}
use lib.ListN.{length, get_or, get_or-eq_default}
use Rattle.line.proofs.Cells.{by_lt}
use Rattle.header.specs.Fields.{Shot}
use Rattle.header.proofs.Fields.{Held}
use Rattle.region.proofs.Painted.{each_inside}
use Rattle.codestream.specs.Stream.{total_length}
use Rattle.codestream.proofs.Accepted.{Rectangles, Writable, setting_of, rectangles_of, planes_most}
use Rattle.codestream.proofs.Lengths.{total_most}

-- number i is one of the four of rectangle i / 4
rectangle_small : (W H : ℕ) (rs : List ℕ) → W ≤ 4096 → H ≤ 4096 → Rectangles W H rs → (i : ℕ) → get_or rs i 0 < 65536
rectangle_small W H rs a b p i = by_lt i (length rs)
    (λ lt. let r = i / 4 in let q = each_inside W H rs p.inside r (omega (arith, p.fours)) in
    by_lt (i % 4) 2
    (λ low. by_lt (i % 4) 1
    (λ x. let e : i ≡ 4 * r = omega arith in rw e (omega arith))
    (λ y. let e : i ≡ 4 * r + 1 = omega arith in rw e (omega arith)))
    (λ high. by_lt (i % 4) 3
    (λ w. let e : i ≡ 4 * r + 2 = omega arith in rw e (omega arith))
    (λ h. let e : i ≡ 4 * r + 3 = omega arith in rw e (omega arith))))
    (λ ge. let z : get_or rs i 0 ≡ 0 = get_or-eq_default rs 0 ge in omega arith)

pub held : {s : Shot} {l : List ℤ} → Writable s l → Held s (total_length s l)
held {s} {l} w =
    let p = setting_of w in
    let r = rectangles_of w in
    record {
      kernel = omega (arith, p.kernel);
      levels = omega (arith, p.levels.1);
      depth = omega (arith, p.depth.1);
      width = omega (arith, p.sides.width.1);
      height = omega (arith, p.sides.height.1);
      planes = omega (arith, planes_most w);
      rectangle = rectangle_small s.width s.height s.rectangles p.sides.width.1 p.sides.height.1 r;
      fours = omega (arith, r.fours);
      few = omega (arith, r.few);
      all = omega (arith, total_most w);
    }
