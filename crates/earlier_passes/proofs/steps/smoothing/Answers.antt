-- `steps::smoothing` is floor ((before + here + 2) / 4). Assumes nothing.
use mathlib.Core.Path.{◌∙◌}
use native.Mathlib.Omega.{arith}
use borrow.Author.Rules.{sfits_of}
use mir.Facts.{to_z-of_z}
use mir.Syntax.{w64}
use Rattle.whole.proofs.Linear.{ι_split, lin, size}
use Rattle.whole.proofs.Run.{wide, lit, ◌⊕◌, Run}
use Rattle.earlier_passes.proofs.Wide.{sum, floored}
use Rattle.earlier_passes.proofs.steps.smoothing.Goals as goal

pub returns : goal.returns
returns c = let run : Run w64 (wide c.args.before ⊕ wide c.args.here ⊕ lit 2) = let a = c.args.before in let b = c.args.here in
    record { fit = ((sum c.ranges.before c.ranges.here).fit, tt, rw (ι_split a, ι_split b) (simp lin (omega (arith, size a, size b)))) } in
    to_z-of_z {w = w64} (sfits_of c.floor4.type_inv) ∙ floored 4 run c.floor4.ensures
