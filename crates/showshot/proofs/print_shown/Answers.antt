-- `showshot::print_shown` prints what a stream shows. Assumes nothing.
use Rattle.std.proofs.Common.{ap, sym, ◌∙◌}
use Rattle.decoder.specs.Answers.{numbers_of}
use Rattle.showing_limited.proofs.Shows.{columns, rows_fit}
use Rattle.showshot.proofs.print_shown.Goals as goal

pub print_rows-requires : goal.print_rows-requires
print_rows-requires g c =
    let r = c.show_limited in
    let accepted = ap (λ n. n.refusal) (sym (ap numbers_of c.in-Ok.is) ∙ r.ensures.outcome_value) in
    record {
      columns = columns c.args.stream.now _ c.in-Ok.ensures.header_value accepted;
      inside = rw r.auto.shown (rows_fit c.args.stream.now 4096 accepted c.in-Ok.ensures.header_value);
    }
