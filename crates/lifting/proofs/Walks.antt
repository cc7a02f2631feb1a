-- The laws of stages on rows: some rows done, and then more. Assumes nothing.
use mathlib.Core.Path.{◌≡◌}
use mathlib.Core.Bool.{Bool}
use mathlib.Core.List.{List}
use Prim.Native.Nat.{ℕ, ◌+◌, ◌-◌, ◌^◌, ◌<◌, ◌≤◌, min}
use native.Mathlib.Omega.{arith}
use lib.Dec.{T, ltb}
use lib.IntN.{ℤ}
use lib.ListN.{length}
use Rattle.runs.specs.Step.{Step, SPlusP, TT, High, Low}
use Rattle.runs.specs.Steps.{tap_bound}
use Rattle.lifting.specs.declared.TwoParts.{TwoParts}
use Rattle.lifting.specs.Parts.{Parts, Bounded}
use Rattle.lifting.specs.Steps.{movable}
use Rattle.lifting.specs.Lines.{RowsWithin}
use Rattle.lifting.specs.Stages.{MovesAble, MovesDone, PairsAble, PairsDone, Stage, Paired, Moved, stage_back, stage_ahead, Alike, Takes, Makes}
use Rattle.lifting.proofs.Rows.{parts_as, parts_fewer, parts_swap, bounded_more, within_some}
use Rattle.lifting.proofs.Lifts.{straight_one, straight_between, parts_more, bounded_other, lift_none, lift_join, fit_more, fit_part}
use Rattle.lifting.proofs.Stages.{rows_fit, pair_none, pair_join, pairable_more, pairable_part}

module _ (s : Step) (add : Bool) (p : TwoParts) where
  moves_part : (d e u v : ℕ) (l : List ℤ) → MovesAble s add p d e l → d ≤ u → v ≤ e → MovesAble s add p u v l
  moves_part d e u v l x low high = record {
    some = x.some;
    top = omega (arith, x.top);
    parts = parts_fewer v p.lows x.parts high (omega arith);
    bounded = x.bounded;
    fit = fit_part u v x.fit low high;
  }

  moves_more : (d e f : ℕ) (l l' : List ℤ) → MovesAble s add p d f l → d ≤ e → e ≤ f → MovesDone s add p d e l l' → MovesAble s add p e f l'
  moves_more d e f l l' x low high y = record {
    some = x.some;
    top = x.top;
    parts = parts_more x.parts high y;
    bounded = bounded_other x.parts high y x.bounded;
    fit = fit_more x.parts high y e f (omega arith) x.top (fit_part e f x.fit low (omega arith));
  }

-- what a step takes to move the highs d up to e, as far as there are, from lows within r
movable_all : (s : Step) (M : ℕ) → M ≤ movable s M
movable_all SPlusP M = omega arith
movable_all TT M = omega arith
movable_all High M = omega arith
movable_all Low M = omega arith

pub moves_highs : (s : Step) (add : Bool) (p : TwoParts) (d e : ℕ) {r : ℕ} {l : List ℤ} → e ≤ p.lows → 0 < p.lows → Parts p.a p.b p.step p.lows p.highs p.lanes (length l)
    → Bounded r p.a p.step p.lows p.lanes l → r ≤ tap_bound s → RowsWithin (2 ^ 29) p.b p.step p.lanes d (min e p.highs) l → T (ltb (2 ^ 29 + (r + 1)) (2 ^ 31))
    → MovesAble s add p (min d p.highs) (min e p.highs) l
moves_highs s add p d e top some g lows tap highs fits = record {
  some = some;
  top = omega (arith, movable_all s p.lows);
  parts = parts_fewer _ _ (parts_swap g) (omega arith) (omega arith);
  bounded = bounded_more lows tap;
  fit = rows_fit s add (omega (arith, movable_all s p.lows)) (within_some d e p.highs highs) lows fits;
}

module _ (join : Bool) (p : TwoParts) where
  pairs_part : (d e u v : ℕ) (l : List ℤ) → PairsAble join p d e l → d ≤ u → v ≤ e → PairsAble join p u v l
  pairs_part d e u v l x low high = record { parts = parts_fewer v v x.parts high high; pairable = pairable_part join u v x.pairable low high }

  pairs_more : (d e f : ℕ) (l l' : List ℤ) → PairsAble join p d f l → d ≤ e → e ≤ f → PairsDone join p d e l l' → PairsAble join p e f l'
  pairs_more d e f l l' x low high y = record {
    parts = parts_as x.parts y.size;
    pairable = pairable_more join x.parts high y e f (omega arith) (omega arith) (pairable_part join e f x.pairable low (omega arith));
  }

-- ---- of any stage
pub alike_one : (k : Stage) (M n : ℕ) → Alike k M n 1
alike_one Paired M n = tt
alike_one (Moved s) M n = straight_one s M n

alike_between : (k : Stage) (M n r : ℕ) → stage_back k ≤ n → n + r + stage_ahead k ≤ M → Alike k M n r
alike_between Paired M n r low high = tt
alike_between (Moved s) M n r low high = straight_between s M n r low high

pub takes_part : (k : Stage) (undo : Bool) (p : TwoParts) (d e u v : ℕ) (l : List ℤ) → Takes k undo p d e l → d ≤ u → v ≤ e → Takes k undo p u v l
takes_part Paired undo p d e u v l x low high = pairs_part undo p d e u v l x low high
takes_part (Moved s) undo p d e u v l x low high = moves_part s undo p d e u v l x low high

pub takes_more : (k : Stage) (undo : Bool) (p : TwoParts) (d e f : ℕ) (l l' : List ℤ) → Takes k undo p d f l → d ≤ e → e ≤ f → Makes k undo p d e l l' → Takes k undo p e f l'
takes_more Paired undo p d e f l l' x low high y = pairs_more undo p d e f l l' x low high y
takes_more (Moved s) undo p d e f l l' x low high y = moves_more s undo p d e f l l' x low high y

pub makes_none : (k : Stage) (undo : Bool) (p : TwoParts) (d : ℕ) (l : List ℤ) → Makes k undo p d d l l
makes_none Paired undo p d l = pair_none undo p.a p.b p.step p.lanes d l
makes_none (Moved s) undo p d l = lift_none s undo p.lows p.lanes d p.b p.a p.step l

pub makes_join : (k : Stage) (undo : Bool) (p : TwoParts) (d e f : ℕ) (l l' l'' : List ℤ) → Takes k undo p d f l → d ≤ e → e ≤ f → Makes k undo p d e l l' → Makes k undo p e f l' l'' → Makes k undo p d f l l''
makes_join Paired undo p d e f l l' l'' x low high y z = pair_join undo x.parts high y f low high (omega arith) z
makes_join (Moved s) undo p d e f l l' l'' x low high y z = lift_join x.parts high y f low high x.top z

-- ---- rows d up to f, then as one run up to h, where no row outside is looked at, and then up to e
module _ (k : Stage) (undo : Bool) (p : TwoParts) (d e : ℕ) (l : List ℤ) (x : Takes k undo p d e l) (ahead f seen : ℕ)
    (low : d ≤ f) (some : f + ahead < seen) (reach : seen ≤ e + ahead) where
  high : seen - ahead ≤ e
  high = omega (arith, reach)

  run_rows : f + (seen - ahead - f) ≡ seen - ahead
  run_rows = omega arith

  pub alike_run : {back : ℕ} → back ≡ stage_back k → ahead ≡ stage_ahead k → back ≤ f → seen ≤ p.lows → Alike k p.lows f (seen - ahead - f)
  alike_run b a back inside = alike_between k p.lows f (seen - ahead - f) (omega (arith, b)) (omega (arith, a, inside))

  pub takes_first : Takes k undo p d f l
  takes_first = takes_part k undo p d e d f l x (omega arith) (omega (arith, high))

  module _ (l1 : List ℤ) (y : Makes k undo p d f l l1) where
    takes_rest : Takes k undo p f e l1
    takes_rest = takes_more k undo p d f e l l1 x low (omega (arith, high)) y

    pub takes_run : Takes k undo p f (f + (seen - ahead - f)) l1
    takes_run = takes_part k undo p f e f (f + (seen - ahead - f)) l1 takes_rest (omega arith) (omega (arith, high))

    module _ (l2 : List ℤ) (z : Makes k undo p f (f + (seen - ahead - f)) l1 l2) where
      run_made : Makes k undo p f (seen - ahead) l1 l2
      run_made = rw run_rows at z

      pub takes_last : Takes k undo p (seen - ahead) e l2
      takes_last = takes_more k undo p f (seen - ahead) e l1 l2 takes_rest (omega arith) high run_made

      pub makes_all : (l3 : List ℤ) → Makes k undo p (seen - ahead) e l2 l3 → Makes k undo p d e l l3
      makes_all l3 w = makes_join k undo p d f e l l1 l3 x low (omega (arith, high)) y (makes_join k undo p f (seen - ahead) e l1 l2 l3 takes_rest (omega arith) high run_made w)
