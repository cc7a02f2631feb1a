-- `interface::give_reading` gives the numbers of a reading. Assumes nothing.
use mathlib.Core.Path.{◌∙◌}
use Rattle.decoder.specs.Answers.{numbers_of}
use Rattle.interface.proofs.Values.{read, read_values}
use Rattle.interface.proofs.give_reading.Goals as goal

pub returns : goal.returns
returns c = let a = c.args.answer.now in
    record { value = c.answer_number.ensures ∙ read a; given = (λ s e. read_values (numbers_of a) s c.read_values.ensures c.give.ensures (c.give_header.ensures s (c.header_read-header.ensures ∙ e))) }
