-- `interface::body_values` gives the numbers of the body's part. Assumes nothing.
use mathlib.Core.Path.{◌≡◌, sym, ap, ◌∙◌}
use native.Mathlib.Omega.{arith}
use Rattle.refusal.specs.Numbers.{answer_number, first}
use Rattle.header.specs.Header.{body_tests}
use Rattle.header.proofs.Parts.{good_long, good_front}
use Rattle.interface.proofs.Values.{body_good}
use Rattle.interface.proofs.body_values.Goals as goal

pub front_length-start-requires : goal.front_length-start-requires
front_length-start-requires c = let none : first (body_tests c.args.stream.now) ≡ 0 = sym c.requires ∙ ap answer_number c.in-Ok.is in
    good_long c.args.stream.now (body_good c.args.stream.now none)

pub overflow_sub-result : goal.overflow_sub-result
overflow_sub-result c = let none : first (body_tests c.args.stream.now) ≡ 0 = sym c.requires ∙ ap answer_number c.in-Ok.is in
    omega (arith, c.front_length-start.ensures, good_front c.args.stream.now (body_good c.args.stream.now none))
