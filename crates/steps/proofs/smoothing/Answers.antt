-- `steps::smoothing` is floor ((before + here + 2) / 4). Assumes nothing.
use mathlib.Core.Path.{◌∙◌}
use native.Mathlib.Omega.{arith}
use borrow.Author.Rules.{sfits_of}
use mir.Syntax.{w32}
use mir.Facts.{to_z-of_z}
use Rattle.whole.proofs.Linear.{ι_split, lin}
use Rattle.whole.proofs.Run.{var, lit, ◌⊕◌, Run}
use Rattle.steps.proofs.Sums.{sum, floored}
use Rattle.steps.proofs.smoothing.Goals as goal

pub returns : goal.returns
returns c = let run : Run w32 (var c.args.before ⊕ var c.args.here ⊕ lit 2) = let a = c.args.before in let b = c.args.here in
    record { fit = ((sum c.requires.0 c.requires.1 (omega arith)).fit, tt, rw (ι_split a, ι_split b) (simp lin (omega arith))) } in
    to_z-of_z {w = w32} (sfits_of c.floor4.type_inv) ∙ floored 4 run c.floor4.ensures
