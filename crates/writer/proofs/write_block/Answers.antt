-- `writer::write_block` writes what 16 coefficients give to a plane. Assumes nothing.
use mathlib.Core.Path.{sym, ◌∙◌}
use native.Mathlib.Omega.{arith}
use Rattle.line.specs.Cells.{behind}
use Rattle.line.proofs.Counts.{count-le}
use Rattle.bitplane.specs.Body.{class}
use Rattle.bitplane.proofs.Empty.{count_none}
use Rattle.writer.specs.Written.{Digits}
use Rattle.writer.specs.Passes.{stretch}
use Rattle.writer.proofs.Passes.{puts_sends}
use Rattle.writer.proofs.Runs.{sends_off, run_binary, run_fits, run-zero}
use Rattle.writer.proofs.write_block.Goals as goal

pub returns-then-members-eq0 : goal.returns-then-members-eq0
returns-then-members-eq0 c = sends_off _ _ _ 16 _ (count_none 16 _ (sym c.among-members.ensures ∙ c.if-members-eq0.true))

pub overflow_cast-zeros : goal.overflow_cast-zeros
overflow_cast-zeros c = let s = c.args.pass.now in omega (arith, c.among-members.ensures, count-le 16 (behind c.args.i (class s.mask.now s.class)))

pub send-requires : goal.send-requires
send-requires c = let s = c.args.pass.now in
    let zeros : Digits (stretch s c.args.i 16) 0 c.among-members.result = run-zero _ _ _ 16 c.among-members.ensures (c.idle.ensures c.if-idle.true) in
    run_fits _ _ _ c.among-members.ensures c.if-members-eq0.false zeros c.requires.room

pub returns-then-idle : goal.returns-then-idle
returns-then-idle c = let s = c.args.pass.now in
    let zeros : Digits (stretch s c.args.i 16) 0 c.among-members.result = run-zero _ _ _ 16 c.among-members.ensures (c.idle.ensures c.if-idle.true) in
    rw c.send.ensures.place (puts_sends (run_binary _ _ _ 16) zeros c.send.ensures.puts)

pub send-requires-2 : goal.send-requires-2
send-requires-2 c = run_fits _ _ _ c.among-members.ensures c.if-members-eq0.false c.gather.ensures c.requires.room

pub returns : goal.returns
returns c = rw c.send-2.ensures.place (puts_sends (run_binary _ _ _ 16) c.gather.ensures c.send-2.ensures.puts)
