use mathlib.Core.Path.{◌∙◌}
use native.Mathlib.Omega.{arith}
use borrow.Author.Rules.{rules, sfits_of}
use mir.Facts.{to_z-of_z}
use Rattle.earlier_passes.proofs.Pairs.{pairing_more}
use mir.Syntax.{w32}
use Rattle.earlier_passes.proofs.runs.join_pairs.Goals as goal

pub loop-k-preserved : goal.loop-k-preserved
loop-k-preserved c = pairing_more c.loop-k.invariant (search rules) (search rules) (omega arith) c.first_of-x.type_inv c.difference.type_inv c.first_of-x.ensures (c.difference.ensures ∙ rw (to_z-of_z {w = w32} (sfits_of c.first_of-x.type_inv), c.first_of-x.ensures))
