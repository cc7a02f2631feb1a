-- A setting's refusals are 1 to 4. Assumes nothing.
use mathlib.Core.Path.{refl}
use Prim.Native.Nat.{ℕ, ◌≤◌}
use Rattle.refusal.specs.Numbers.{first}
use Rattle.refusal.proofs.Ordered.{upto, first-upto}
use Rattle.shot.specs.Shots.{setting_tests}

pub setting_most : (k J D W H : ℕ) → first (setting_tests k J D W H) ≤ 4
unfolding upto
setting_most k J D W H = first-upto 4 (setting_tests k J D W H) refl
