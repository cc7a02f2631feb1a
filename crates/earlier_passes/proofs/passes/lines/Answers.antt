-- `passes::lines` transforms lines in place, or takes them back. Assumes nothing.
use mathlib.Core.Path.{◌∙◌}
use mathlib.Core.Bool.{not}
use Rattle.earlier_passes.proofs.Places.{part_in, second_in, in_same}
use Rattle.earlier_passes.proofs.Taking.{parts_taken, lifted_sizes, lines_done}
use Rattle.earlier_passes.proofs.passes.lines.Goals as goal

pub take-requires : goal.take-requires
take-requires c = record { in_buffer = rw c.part_step-from.ensures (part_in c.requires.in_buffer (not c.args.undo)); lanes_in_bounds = c.requires.strips.evens }

pub take-requires-2 : goal.take-requires-2
take-requires-2 c = record { in_buffer = rw (c.part_step-from.ensures, c.second_part-from_second.ensures) (second_in c.requires.in_buffer (not c.args.undo)); lanes_in_bounds = c.requires.strips.odds }

pub lift-requires : goal.lift-requires
lift-requires c = let a = c.args in let t = c.requires.strips in let p = c.take.ensures in let q = c.take-2.ensures in record {
  strips = record { some = t.some; few = t.few; small = t.small; evens = rw p.size t.evens; odds = rw q.size t.odds };
  liftable = parts_taken a.buf.now a.start a.step a.m a.lanes _ _ _ _ a.undo (rw c.part_step-from.ensures at p)
      (rw (c.part_step-from.ensures, c.second_part-from_second.ensures) at q) c.requires.by_index;
}

pub put-requires : goal.put-requires
put-requires c = let a = c.args in record {
  in_buffer = rw c.part_step-to.ensures (part_in c.requires.in_buffer a.undo);
  lanes_in_bounds = rw ((lifted_sizes a.undo a.kernel a.m a.lanes _ _ _ _ c.lift.ensures).0 ∙ c.take.ensures.size) c.requires.strips.evens;
}

pub put-requires-2 : goal.put-requires-2
put-requires-2 c = let a = c.args in record {
  in_buffer = rw (c.part_step-to.ensures, c.second_part-to_second.ensures) (in_same _ (second_in c.requires.in_buffer a.undo) c.put.ensures.size);
  lanes_in_bounds = rw ((lifted_sizes a.undo a.kernel a.m a.lanes _ _ _ _ c.lift.ensures).1 ∙ c.take-2.ensures.size) c.requires.strips.odds;
}

pub returns : goal.returns
returns c = let a = c.args in let e = c.part_step-from.ensures in let f = c.second_part-from_second.ensures in
    let g = c.part_step-to.ensures in let h = c.second_part-to_second.ensures in
    lines_done a.undo a.kernel a.buf.now a.start a.step a.m a.lanes _ _ _ _ _ _ _ _ c.requires.in_buffer
    (rw e at c.take.ensures) (rw (e, f) at c.take-2.ensures) c.lift.ensures
    (rw g at c.put.ensures) (rw (g, h) at c.put-2.ensures)
