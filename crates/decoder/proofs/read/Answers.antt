-- `decoder::read` reads a stream into the lent plane and mask, or refuses. Assumes nothing.
use mathlib.Core.Path.{sym}
use borrow.Author.Rules.{rules}
use Rattle.decoder.proofs.Answered.{header_refused, headed_answer}
use Rattle.decoder.proofs.read.Goals as goal

pub returns-in_err-headed : goal.returns-in_err-headed
returns-in_err-headed c = let a = header_refused {l = c.args.stream.now} {plane = c.args.plane.now} {mask = c.args.mask.now} _ c.in_err-headed.ensures.number in
    record { outcome_value = (let n = a.numbers in search rules); header_value = search rules; plane_after = a.plane_held; mask_after = a.mask_held }

pub returns : goal.returns
returns c = let a = headed_answer (sym c.in_ok-headed.ensures.number) c.read_headed.ensures in
    record { outcome_value = a.numbers; header_value = a.header; plane_after = a.plane_held; mask_after = a.mask_held }
