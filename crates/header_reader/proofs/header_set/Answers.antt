-- `header_reader::header_set` tests what stands behind the setting. Assumes nothing.
use mathlib.Core.Path.{refl, ap, ◌∙◌}
use borrow.Author.Rules.{rules}
use borrow.Author.Tests.{ltb-false}
use Rattle.kernel.specs.Kernels.{the_kernel}
use Rattle.refusal.specs.Numbers.{first}
use Rattle.header_reader.proofs.Tests.{numbers_tested}
use Rattle.header_reader.proofs.Answered.{header_is, rectangles_tested}
use Rattle.header_reader.proofs.header_set.Goals as goal

pub returns-in_err-refuse-clause-number : goal.returns-in_err-refuse-clause-number
unfolding first
returns-in_err-refuse-clause-number c = let many = numbers_tested c.args.stream.now c.one_byte-count.ensures.value in search rules

pub returns-in_err-refuse-2-clause-number : goal.returns-in_err-refuse-2-clause-number
unfolding first
returns-in_err-refuse-2-clause-number c = let L = c.args.stream.now in let count = c.one_byte-count.ensures.value in
    let many = numbers_tested L count in
    let outside = rectangles_tested L count c.rectangle_numbers-rectangles.ensures (ltb-false 32 _ c.in_ok-refuse.ensures) refl c.requires.width c.requires.height in search rules

pub returns-in_err-refuse-3-clause-number : goal.returns-in_err-refuse-3-clause-number
unfolding first
returns-in_err-refuse-3-clause-number c = let L = c.args.stream.now in let count = c.one_byte-count.ensures.value in
    let many = numbers_tested L count in
    let outside = rectangles_tested L count c.rectangle_numbers-rectangles.ensures (ltb-false 32 _ c.in_ok-refuse.ensures) refl c.requires.width c.requires.height in search rules

pub returns-clause-number : goal.returns-clause-number
unfolding first
returns-clause-number c = let L = c.args.stream.now in let count = c.one_byte-count.ensures.value in
    let many = numbers_tested L count in
    let outside = rectangles_tested L count c.rectangle_numbers-rectangles.ensures (ltb-false 32 _ c.in_ok-refuse.ensures) refl c.requires.width c.requires.height in search rules

pub returns-clause-headed : goal.returns-clause-headed
returns-clause-headed c = let p = c.requires in
    let header = header_is c.args.stream.now c.one_byte-count.ensures.value c.rectangle_numbers-rectangles.ensures p.kernel p.levels p.depth p.width p.height c.one_byte-planes.ensures.value in
    let kernel = p.chosen_is ∙ ap the_kernel p.kernel in
    λ i. record { kernel = kernel i; header = header i }
