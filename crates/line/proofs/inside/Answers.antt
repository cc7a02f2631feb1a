-- `line::inside` is the border rule. Assumes nothing.
use native.Mathlib.Omega.{arith}
use mathlib.Core.Path.{◌≡◌}
use Rattle.line.specs.Transform.{upward}
use Rattle.line.proofs.Border.{turned_here, turned_down}
use Rattle.line.proofs.inside.Goals.{then-u-d, else-u-d}
use Rattle.line.proofs.inside.Goals as goal

pub returns-then-i-m : goal.returns-then-i-m
returns-then-i-m c = let turned : upward c.args.u c.args.d ≡ c.if-u-d.i = elim c.if-u-d.branch [ then-u-d w ↦ omega arith | else-u-d w ↦ omega arith ] in
    omega (arith, turned_here c.args.m _ _ _ turned (omega arith))

pub returns-else-i-m : goal.returns-else-i-m
returns-else-i-m c = let turned : upward c.args.u c.args.d ≡ c.if-u-d.i = elim c.if-u-d.branch [ then-u-d w ↦ omega arith | else-u-d w ↦ omega arith ] in
    omega (arith, c.least.ensures, turned_down c.args.m _ _ _ turned (omega arith))
