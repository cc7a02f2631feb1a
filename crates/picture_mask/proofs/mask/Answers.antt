-- `picture_mask::mask` fills a mask from its region, or refuses. Assumes nothing.
use mathlib.Core.Path.{◌≡◌, sym, ◌∙◌}
use mathlib.Core.Bool.{false}
use borrow.Author.Rules.{rules}
use Rattle.refusal.specs.Numbers.{first}
use Rattle.refusal.specs.Tests.{bad_levels, bad_size, bad_mark}
use Rattle.refusal.proofs.Passed.{inside, sides}
use Rattle.picture_mask.proofs.Entry.{region_binary, placed_marks, mask_of_placed}
use Rattle.picture_mask.proofs.mask.Goals as goal

pub mask_levels-requires : goal.mask_levels-requires
mask_levels-requires c = let a = c.args in
    let size : bad_size a.w a.h ≡ false = search rules in
    let few : bad_levels a.levels ≡ false = search rules in
    let marks : bad_mark a.region.now ≡ false = search rules in
    let binary = region_binary a.region.now marks in record {
      levels = (inside 1 5 a.levels few).0;
      size = size;
      full = c.place.auto.dst ∙ search rules;
      marks = placed_marks a.w a.h a.region.now _ (sides a.w a.h size).width.0 binary c.place.ensures;
    }

pub returns-clause-fact : goal.returns-clause-fact
unfolding first
returns-clause-fact c = let a = c.args in
    let marks : bad_mark a.region.now ≡ false = search rules in
    let binary = region_binary a.region.now marks in
    let made = mask_of_placed a.kernel a.levels a.w a.h _ a.region.now a.mask.now _ c.in_ok-chosen.ensures.1 binary (sym c.place.auto.dst) c.place.ensures c.mask_levels.ensures in
    search rules
