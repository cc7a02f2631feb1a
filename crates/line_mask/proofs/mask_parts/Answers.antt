-- `line_mask::mask_parts` makes the masks of lines side by side, by any kernel. Assumes nothing.
use mathlib.Core.Path.{◌≡◌, refl}
use mathlib.Core.Bool.{Bool, ◌||◌}
use mathlib.Core.Logic.{◌⊎◌, inl, inr}
use Prim.Native.Nat.{ℕ, ◌*◌}
use Rattle.kernel.specs.declared.Kernel.{Kernel}
use Rattle.kernel.specs.declared.Kernel.TheVariants.{S, SPlusP, TT, FiveThree}
use Rattle.kernel.specs.Kernels.{reach}
use Rattle.line.specs.Cells.{Line}
use Rattle.line.specs.Mask.{pair_mark, reach_mark, low_mark, high_mark}
use Rattle.line_mask.proofs.Strips.{marks_as}
use Rattle.line_mask.proofs.mask_parts.Goals as goal

-- kernels 0 to 2
module _ (M K : ℕ) (B : Line Bool) (n : ℕ) where
  pair_kernel : (k : Kernel) → (k ≡ S) ⊎ (k ≡ SPlusP) ⊎ (k ≡ TT) → (reach_mark (reach k) K B n || B (2 * n) ≡ low_mark k M K B n) × (pair_mark B n ≡ high_mark k M K B n)
  unfolding low_mark high_mark
  pair_kernel S h = (refl, refl)
  pair_kernel SPlusP h = (refl, refl)
  pair_kernel TT h = (refl, refl)
  pair_kernel FiveThree h = elim h [ inl e ↦ (cc, cc) | inr o ↦ elim o [ inl e ↦ (cc, cc) | inr e ↦ (cc, cc) ] ]

pub returns-in-S : goal.returns-in-S
returns-in-S c = let g = c.args in let k = c.in-S.is in
    marks_as (rw c.reach.ensures at c.mask_pairs.ensures) (λ n j h. (pair_kernel g.lows g.highs _ n c.args.kernel k).0) (λ n j h. (pair_kernel g.lows g.highs _ n c.args.kernel k).1)
