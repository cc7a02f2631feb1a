-- Lifting steps on a run of n numbers of a buffer: each is moved by an amount that is computed from other numbers of the buffer.
--
--   Taps                 == where the run begins, and where the numbers that it is moved from begin: those of the same place in their part,
--                           two before, one before, one after and two after
--   look_back s          == how many rows back step s looks
--   look_ahead s         == how many rows ahead
--   formula s x          == what step s moves a number by, from the numbers x around it
--   around l p k         == the numbers around the k-th number of the run
--   amount_at s l p k    == the amount at that number
--   moved_at s add l p k == that number, moved
--   Apart t q n          == none of the n places from t on is among the n from q on
--   Room p n l           == the run and the numbers around it are in l, and apart
--   tap_bound s          == the largest magnitude that step s takes, of the numbers that it computes the amount from
--   NearBy s x           == the numbers x are within it
--   Near s l p n         == those around the numbers of the run are within it
--   Stays s add l p n    == the moved numbers fit 32 bits
--
-- Assumes nothing: these are definitions.
use Rattle.std.specs.Prelude.{◌≡◌, Bool, List, ℕ, ◌+◌, ◌^◌, ◌<◌, ◌≤◌, ℤ, length}
use Rattle.std.specs.Int.{w32}
use Rattle.std.proofs.Common.{SFits}
use Rattle.whole.specs.Within.{Within}
use Rattle.line.specs.Cells.{cell}
use Rattle.line.specs.Formulas.{slope_a, slope_tt, between, smoothing}
use Rattle.steps.specs.Moved.{moved}
use Rattle.runs.specs.Step.{Step, SPlusP, TT, High, Low}
use Rattle.runs.specs.declared.Around.{Around}
use Rattle.runs.specs.declared.Taps.{Taps}

abbrev pub look_back : Step → ℕ
look_back SPlusP = 1
look_back TT = 2
look_back High = 0
look_back Low = 1

abbrev pub look_ahead : Step → ℕ
look_ahead SPlusP = 1
look_ahead TT = 2
look_ahead High = 1
look_ahead Low = 0

abbrev pub formula : Step → Around → ℤ
formula SPlusP x = slope_a x.before x.after
formula TT x = slope_tt x.before2 x.before x.after x.after2
formula High x = between x.here x.after
formula Low x = smoothing x.before x.here

abbrev pub around : List ℤ → Taps → ℕ → Around
around l p k = record {
  here = cell l (p.here + k);
  before2 = cell l (p.before2 + k);
  before = cell l (p.before + k);
  after = cell l (p.after + k);
  after2 = cell l (p.after2 + k);
}

abbrev pub amount_at : Step → List ℤ → Taps → ℕ → ℤ
amount_at s l p k = formula s (around l p k)

abbrev pub moved_at : Step → Bool → List ℤ → Taps → ℕ → ℤ
moved_at s add l p k = moved add (cell l (p.at + k)) (amount_at s l p k)

abbrev pub Apart : ℕ → ℕ → ℕ → Type 0
Apart t q n = (i k : ℕ) → i < n → k < n → t + i ≡ q + k → ⊥

pub record Room (p : Taps) (n : ℕ) (l : List ℤ) : Type 0 where
  pub target : p.at + n ≤ length l
  pub here : p.here + n ≤ length l
  pub before2 : p.before2 + n ≤ length l
  pub before : p.before + n ≤ length l
  pub after : p.after + n ≤ length l
  pub after2 : p.after2 + n ≤ length l
  pub here_apart : Apart p.at p.here n
  pub before2_apart : Apart p.at p.before2 n
  pub before_apart : Apart p.at p.before n
  pub after_apart : Apart p.at p.after n
  pub after2_apart : Apart p.at p.after2 n

abbrev pub tap_bound : Step → ℕ
tap_bound SPlusP = 2 ^ 29
tap_bound TT = 2 ^ 28
tap_bound High = 2 ^ 29
tap_bound Low = 2 ^ 29

pub record NearBy (s : Step) (x : Around) : Type 0 where
  pub here : Within (tap_bound s) x.here
  pub before2 : Within (tap_bound s) x.before2
  pub before : Within (tap_bound s) x.before
  pub after : Within (tap_bound s) x.after
  pub after2 : Within (tap_bound s) x.after2

pub record Near (s : Step) (l : List ℤ) (p : Taps) (n : ℕ) : Type 0 where
  pub each : (k : ℕ) → k < n → NearBy s (around l p k)

pub record Stays (s : Step) (add : Bool) (l : List ℤ) (p : Taps) (n : ℕ) : Type 0 where
  pub fits : (k : ℕ) → k < n → SFits w32 (moved_at s add l p k)
