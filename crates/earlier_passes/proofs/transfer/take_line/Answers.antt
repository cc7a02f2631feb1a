use native.Mathlib.Omega.{arith}
use mir.Facts.{to_z-of_z}
use borrow.Author.Rules.{rules, sfits_of}
use Rattle.earlier_passes.proofs.Transfers.{moving_cell}
use mir.Syntax.{w32}
use Rattle.earlier_passes.proofs.transfer.take_line.Goals as goal

pub loop-n-preserved : goal.loop-n-preserved
loop-n-preserved c = moving_cell c.loop-n.invariant c.loop-n-test.true (omega arith) (omega arith) (to_z-of_z {w = w32} (sfits_of (search rules)))
