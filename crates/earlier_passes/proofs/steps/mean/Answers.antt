-- `steps::mean` is floor ((a + b) / 2), which fits as a and b do. Assumes nothing.
use mathlib.Core.Path.{◌≡◌, ◌∙◌}
use borrow.Author.Rules.{sfits_of}
use mir.Syntax.{w32, w64}
use mir.Val.{SFits}
use Rattle.whole.proofs.Run.{wide, var, ◌⊕◌, Run}
use Rattle.line.specs.Formulas as formula
use Rattle.earlier_passes.proofs.Wide.{sum, mean_fits, floored, asks32, gives32}
use Rattle.earlier_passes.proofs.steps.mean.Goals as goal

pub overflow_cast-result : goal.overflow_cast-result
overflow_cast-result c = let run : Run w64 (wide c.args.a ⊕ wide c.args.b) = sum c.ranges.a c.ranges.b in
    let plain : c.floor2.result ≡ formula.mean c.args.a c.args.b = floored 2 run c.floor2.ensures in
    let fits : SFits w32 c.floor2.result = rw plain (mean_fits c.ranges.a c.ranges.b) in
    let read : Run w64 (var c.floor2.result) = record { fit = sfits_of c.floor2.type_inv } in
    asks32 read fits

pub returns : goal.returns
returns c = let run : Run w64 (wide c.args.a ⊕ wide c.args.b) = sum c.ranges.a c.ranges.b in
    let plain : c.floor2.result ≡ formula.mean c.args.a c.args.b = floored 2 run c.floor2.ensures in
    let fits : SFits w32 c.floor2.result = rw plain (mean_fits c.ranges.a c.ranges.b) in
    let read : Run w64 (var c.floor2.result) = record { fit = sfits_of c.floor2.type_inv } in
    gives32 read fits ∙ plain
