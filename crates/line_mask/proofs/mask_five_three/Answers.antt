-- `line_mask::mask_five_three` makes the lows' and highs' marks of kernel 3. Assumes nothing.
use Rattle.line_mask.proofs.Masks.{five_three_mask}
use Rattle.line_mask.proofs.mask_five_three.Goals as goal

pub returns : goal.returns
returns c = five_three_mask c.requires c.join_marks.ensures c.join_marks-2.ensures c.join_marks-3.ensures c.join_marks-4.ensures
