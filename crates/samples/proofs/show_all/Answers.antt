use mathlib.Core.Path.{◌≡◌, ◌∙◌}
use native.Mathlib.Omega.{arith}
use lib.IntN.{pos}
use lib.ListN.{get_or}
use borrow.Author.Rules.{sfits_of}
use mir.Syntax.{w32}
use mir.Facts.{to_z-of_z}
use Rattle.refusal.proofs.Made.{made_more}
use Rattle.samples.specs.Samples.{in_range}
use Rattle.samples.proofs.Planes.{in_range_parts}
use Rattle.samples.proofs.show_all.Goals as goal

pub loop-i-preserved : goal.loop-i-preserved
loop-i-preserved c = let shown_one : let a = c.args in c.in_range.result ≡ in_range a.depth (get_or a.undone.now c.loop-i.i (pos 0)) = c.in_range.ensures ∙ rw (to_z-of_z {w = w32} (sfits_of {w = w32} c.in_range-arg-1.given), c.power.ensures) (in_range_parts _ _) in
    (omega arith, made_more c.loop-i.invariant.1 (omega arith) (omega arith) shown_one)
