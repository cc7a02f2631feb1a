-- `writer::write_body` writes a body. Assumes nothing.
use native.Mathlib.Omega.{arith}
use Rattle.writer.proofs.Body.{class_ready, others, unmarked_room, body_written}
use Rattle.writer.proofs.write_body.Goals as goal

pub overflow_sub-others : goal.overflow_sub-others
overflow_sub-others c = omega (arith, others c.requires)

pub write_class-requires : goal.write_class-requires
write_class-requires c = let b = c.requires in let w = c.write_class-p in
    record { top_bound = (b.few, class_ready b 0 (omega arith)); members_value = omega (arith, others b); room = unmarked_room b w.ensures w.auto.out }

pub returns : goal.returns
returns c = body_written c.write_class-p.ensures c.write_class.ensures (λ j. omega (arith, c.type_inv.out j))
