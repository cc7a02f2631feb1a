-- `encoder::write` writes a stream, or refuses. Assumes nothing.
use mathlib.Core.Path.{sym, ap, ◌∙◌}
use borrow.Author.Rules.{rules}
use Rattle.kernel.specs.declared.Kernel.{Kernel}
use Rattle.shot.specs.Shots.{mask_bytes}
use Rattle.codestream.specs.Writing.{shot_for}
use Rattle.encoder.proofs.Outcomes.{behind, drawing_passed, others_passed, setting_taken, large}
use Rattle.encoder.proofs.write.Goals as goal

pub returns : goal.returns
returns c = let z = c.args in
    let s = shot_for z.setting.kernel z.setting.levels z.setting.depth z.setting.width z.setting.height z.numbers.now z.plane.now in
    let drawn = drawing_passed s.width s.height z.numbers.now (sym c.bad_numbers.ensures ∙ c.in_ok-refuse.ensures) (sym c.bad_rectangles.ensures ∙ c.in_ok-refuse-2.ensures) in
    let mask_is = c.draw_mask.ensures ∙ ap (λ (k : Kernel). mask_bytes k s.levels s.width s.height z.numbers.now) c.in_ok-chosen.ensures.chosen in
    let a = setting_taken s z.plane.now _ _ c.in_ok-chosen.ensures.number
    (behind (others_passed s z.plane.now _ _ drawn (search rules) (search rules) (large z.plane.now ∙ search rules)) mask_is c.write_masked.ensures) in
    record { result_value = a.numbers; mask_after = a.mask_held; stream_after = a.stream_held }
