-- Lifting steps on a run of n numbers: each is moved by an amount that is computed from numbers of another buffer.
--
--   Step               == the step of kernel 1, that of kernel 2, and the two of kernel 3, for its highs and for its lows
--   Taps               == where the run begins, and where the numbers two before, one before, one after and two after begin
--   amount_at s x p k  == the amount at the k-th number of the run
--   moved_at s t x p k == that number, moved
--   Room p n t x       == the run is in t, and its neighbours are in x
--   Stays s t x p n    == the moved numbers fit 32 bits
--
-- Assumes nothing: these are definitions.
use Rattle.std.specs.Prelude.{Bool, List, ℕ, ◌+◌, ◌<◌, ◌≤◌, ℤ, length}
use Rattle.std.specs.Int.{w32}
use Rattle.std.proofs.Common.{SFits}
use Rattle.line.specs.Cells.{cell}
use Rattle.line.specs.Formulas.{slope_a, slope_tt, between, smoothing}
use Rattle.earlier_passes.specs.Moved.{moved}
use Rattle.earlier_passes.specs.declared.runs.Step.{Step}
use Rattle.earlier_passes.specs.declared.runs.Step.TheVariants.{SPlusP, TT, High, Low}
use Rattle.earlier_passes.specs.declared.runs.Taps.{Taps}

abbrev pub amount_at : Step → List ℤ → Taps → ℕ → ℤ
amount_at SPlusP x p k = slope_a (cell x (p.before + k)) (cell x (p.after + k))
amount_at TT x p k = slope_tt (cell x (p.before2 + k)) (cell x (p.before + k)) (cell x (p.after + k)) (cell x (p.after2 + k))
amount_at High x p k = between (cell x (p.here + k)) (cell x (p.after + k))
amount_at Low x p k = smoothing (cell x (p.before + k)) (cell x (p.here + k))

abbrev pub moved_at : Step → Bool → List ℤ → List ℤ → Taps → ℕ → ℤ
moved_at s add t x p k = moved add (cell t (p.here + k)) (amount_at s x p k)

pub record Room (p : Taps) (n : ℕ) (t x : List ℤ) : Type 0 where
  pub target : p.here + n ≤ length t
  pub here : p.here + n ≤ length x
  pub before2 : p.before2 + n ≤ length x
  pub before : p.before + n ≤ length x
  pub after : p.after + n ≤ length x
  pub after2 : p.after2 + n ≤ length x

pub record Stays (s : Step) (add : Bool) (t x : List ℤ) (p : Taps) (n : ℕ) : Type 0 where
  pub fits : (k : ℕ) → k < n → SFits w32 (moved_at s add t x p k)
