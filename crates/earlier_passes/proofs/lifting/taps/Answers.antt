-- `lifting::taps` gives where row n and the rows around it begin. Assumes nothing.
use native.Mathlib.Omega.{arith}
use mathlib.Core.Path.{◌≡◌}
use Prim.Native.Nat.{ℕ, ◌<◌, ◌≤◌}
use Rattle.line.specs.Transform as line
use Rattle.line.proofs.Border.{inside_in}
use Rattle.earlier_passes.proofs.Lifts.{place_fits}
use Rattle.earlier_passes.proofs.lifting.taps.Goals as goal

-- a row that the border rule gives
row : {m r : ℕ} (u d : ℕ) → r ≡ line.inside m u d → 0 < m → r ≤ m
row {m} u d e h = rw e (let l = inside_in m u d h in omega arith)

pub overflow_mul-result-2 : goal.overflow_mul-result-2
overflow_mul-result-2 c = place_fits c.args.m c.args.lanes _ (row _ _ c.inside-before2.ensures (omega (arith, c.requires.0))) c.requires.2

pub overflow_mul-result-3 : goal.overflow_mul-result-3
overflow_mul-result-3 c = place_fits c.args.m c.args.lanes _ (row _ _ c.inside-before.ensures (omega (arith, c.requires.0))) c.requires.2

pub overflow_mul-result-4 : goal.overflow_mul-result-4
overflow_mul-result-4 c = place_fits c.args.m c.args.lanes _ (row _ _ c.inside-after.ensures (omega (arith, c.requires.0))) c.requires.2

pub overflow_mul-result-5 : goal.overflow_mul-result-5
overflow_mul-result-5 c = place_fits c.args.m c.args.lanes _ (row _ _ c.inside-after2.ensures (omega (arith, c.requires.0))) c.requires.2
