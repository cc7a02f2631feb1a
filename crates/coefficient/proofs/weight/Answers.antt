-- `coefficient::weight` is what a bit of a plane counts. Assumes nothing.
use native.Mathlib.Omega.{arith}
use mir.Syntax.{w32}
use mir.Facts.{to_z_pos}
use lib.Pow.{pow-lt}
use Rattle.cursor.proofs.Windows.{one_shifted}
use Rattle.coefficient.proofs.weight.Goals as goal

pub overflow_cast-result : goal.overflow_cast-result
overflow_cast-result c = let h = c.requires in rw (one_shifted c.args.t (omega arith)) (record { sfits = omega (arith, pow-lt h) })

pub returns : goal.returns
returns c = let h = c.requires in rw (one_shifted c.args.t (omega arith)) (to_z_pos w32 (omega (arith, pow-lt h)))
