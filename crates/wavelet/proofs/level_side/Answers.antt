-- `wavelet::level_side` finds the side in one step. Assumes nothing.
use mathlib.Core.Path.{sym, ap, ◌∙◌}
use Prim.Native.Nat.{ℕ, ◌+◌, ◌-◌, ◌/◌, ◌^◌}
use Rattle.grid.proofs.Levels.{side_is}
use Rattle.wavelet.proofs.level_side.Goals as goal

pub returns : goal.returns
returns c = let r = c.args.r in let w = c.args.w in ap (λ (n : ℕ). (w + n - 1) / 2 ^ r) c.power.ensures ∙ sym (side_is r w)
