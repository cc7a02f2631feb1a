-- `cutter::cut` reads a stream and copies it, cut to the wanted length, or refuses. Assumes nothing.
use borrow.Author.Rules.{rules}
use Rattle.cutter.proofs.Answered.{reader_refused, read_so, cut_so}
use Rattle.cutter.proofs.cut.Goals as goal

pub cut_read-requires : goal.cut_read-requires
cut_read-requires c = read_so c.args.stream.now _ _ c.read.ensures.outcome_value _ c.in_ok-reading.was

pub returns-in_err-reading : goal.returns-in_err-reading
returns-in_err-reading c = let z = c.args in let e = c.read.ensures in
    let a = reader_refused z.stream.now _ _ e.outcome_value {c = z.wanted} {out = z.out.now} _ c.in_err-reading.was in
    record { result_value = (let n = a.numbers in search rules); plane_after = e.plane_after; mask_after = e.mask_after; out_after = a.held }

pub returns : goal.returns
returns c = let z = c.args in let e = c.read.ensures in
    let a = cut_so z.stream.now _ _ e.outcome_value _ c.in_ok-reading.was c.cut_read.ensures in
    record { result_value = a.numbers; plane_after = e.plane_after; mask_after = e.mask_after; out_after = a.held }
