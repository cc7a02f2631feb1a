-- `wavelet::transform_all` transforms an accepted picture. Assumes nothing.
use mathlib.Core.Path.{refl, sym, ap, ◌∙◌}
use Prim.Native.Nat.{◌-◌}
use native.Mathlib.Nat.{mul_comm}
use native.Mathlib.Omega.{arith}
use borrow.Author.Rules.{rules}
use Rattle.line.specs.Transform.{forward}
use Rattle.line.proofs.Bounds.{within_more}
use Rattle.line.specs.Cells.{low_side}
use Rattle.grid.specs.Picture.{walk}
use Rattle.grid.proofs.Levels.{walk_more}
use Rattle.line.proofs.Cells.{low_left}
use Rattle.wavelet.specs.Wavelet.{samples_of}
use Rattle.wavelet.proofs.Walking.{level_area, levels_more, first_take, first_below}
use Rattle.wavelet.proofs.Entries.{filled, sized_levels, area_below}
use Rattle.wavelet.proofs.transform_all.Goals as goal

pub level_in-requires : goal.level_in-requires
level_in-requires c = let a = c.args in let z = c.requires.sized in record {
  area = level_area (sized_levels z refl);
  l_len = (omega (arith, z.to, mul_comm a.w a.h), omega (arith, z.from, mul_comm a.w a.h));
  by_index = λ y p x q. within_more (c.requires.below.each y x p q) (omega arith);
  by_index_2 = first_take a.kernel z.some z.few (area_below z.few c.requires.below refl);
}

pub rows-requires : goal.rows-requires
rows-requires c = let a = c.args in let z = c.requires.sized in let d = c.level_in in
    rw (low_left a.w, low_left a.h) record {
      levels = levels_more (sized_levels z d.auto.l) z.some;
      in_bounds = search rules;
      below = first_below a.kernel z.some z.few (area_below z.few c.requires.below refl) d.ensures;
    }

pub returns : goal.returns
returns c = let a = c.args in let z = c.requires.sized in let d = c.level_in in let u = c.rows in let T = forward a.kernel in
    filled a.w a.h a.plane.now _ _ (u.auto.l ∙ d.auto.l) z.to
    (rw (low_left a.w, low_left a.h) at u.ensures ∙ ap (walk T (a.levels - 1) (low_side a.w) (low_side a.h)) d.ensures ∙ sym (walk_more T a.levels a.w a.h (samples_of a.w a.samples.now) z.some))
