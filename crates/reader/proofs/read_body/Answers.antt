-- `reader::read_body` reads the marked part of a body, and then the unmarked. Assumes nothing.
use mathlib.Core.Path.{◌≡◌, sym, ◌∙◌}
use Prim.Native.Nat.{◌+◌}
use native.Mathlib.Omega.{arith}
use lib.ListN.{length}
use Rattle.line.specs.Cells.{count}
use Rattle.bitplane.specs.Body.{class}
use Rattle.bitplane.proofs.Empty.{classes_count}
use Rattle.reader.proofs.Bodies.{marked_near, unmarked_zero, body_read}
use Rattle.reader.proofs.read_body.Goals as goal

pub overflow_sub-others : goal.overflow_sub-others
overflow_sub-others c = let both : let m = c.args.mask.now in count (length m) (class m 0) + count (length m) (class m 1) ≡ length m = classes_count c.args.mask.now c.requires.by_index (length c.args.mask.now) (omega arith) in
    let size : length c.read_class-first.new.plane ≡ length c.args.plane.now = c.read_class-first.auto.plane ∙ c.clear.auto.plane in
    omega (arith, both, c.requires.top_bound.1, c.requires.marks_value, size)

pub read_class-second-requires : goal.read_class-second-requires
read_class-second-requires c = let both : let m = c.args.mask.now in count (length m) (class m 0) + count (length m) (class m 1) ≡ length m = classes_count c.args.mask.now c.requires.by_index (length c.args.mask.now) (omega arith) in
    let size : length c.read_class-first.new.plane ≡ length c.args.plane.now = c.read_class-first.auto.plane ∙ c.clear.auto.plane in
    let k = c.clear in record {
      top_bound = (
        c.requires.top_bound.0,
        record { class = omega arith; sizes = c.requires.top_bound.1 ∙ sym size; few = omega (arith, c.requires.top_bound.2, size); place = omega (arith, marked_near _ _ _ _ k.new.plane _ k.auto.plane k.ensures c.read_class-first.ensures); small = c.requires.top_bound.3 },
        unmarked_zero _ _ _ _ k.new.plane _ k.auto.plane k.ensures c.read_class-first.ensures,
      );
      members_value = omega (arith, both, c.requires.top_bound.1, c.requires.marks_value, size);
    }

pub returns : goal.returns
returns c = let size : length c.read_class-first.new.plane ≡ length c.args.plane.now = c.read_class-first.auto.plane ∙ c.clear.auto.plane in
    let k = c.clear in body_read _ _ _ _ k.new.plane _ k.auto.plane k.ensures c.read_class-first.ensures size c.read_class-second.ensures
