-- The stages of a kernel on rows of two parts: what each takes, on the rows d up to e, and what it makes of them.
--
--   Stage                    == pairs become means and differences, or rows of the second part are moved by a lifting step
--   stage_back k             == how many rows back stage k looks
--   stage_ahead k            == how many rows ahead
--   Alike k M n r            == of the r rows from n on, it does with each what it does with row n, from the rows around it in a part of M
--   Takes k undo p d e l     == what it takes, done or undone
--   Makes k undo p d e l l'  == what it makes
--   MovesAble s add p d e l  == what lifting step s takes, to move rows of the second part from the first
--   MovesDone s add p d e l l'
--                            == l' is l with those rows moved
--   PairsAble join p d e l   == what makes the pairs of the rows fit, as means and differences or again as pairs
--   PairsDone join p d e l l'
--                            == l' is l with what becomes of the pairs
--
-- Assumes nothing: these are definitions.
use Rattle.std.specs.Prelude.{Bool, List, ℕ, ◌<◌, ◌≤◌, ℤ, length}
use Rattle.runs.specs.Step.{Step}
use Rattle.runs.specs.Steps.{tap_bound, look_back, look_ahead}
use Rattle.lifting.specs.declared.TwoParts.{TwoParts}
use Rattle.lifting.specs.Parts.{Parts, Bounded, Both}
use Rattle.lifting.specs.Steps.{movable, Straight, Fit, Lifted}
use Rattle.lifting.specs.Lines.{firsts, seconds, Pairable}

pub record MovesAble (s : Step) (add : Bool) (p : TwoParts) (d e : ℕ) (l : List ℤ) : Type 0 where
  pub some : 0 < p.lows
  pub top : e ≤ movable s p.lows
  pub parts : Parts p.b p.a p.step e p.lows p.lanes (length l)
  pub bounded : Bounded (tap_bound s) p.a p.step p.lows p.lanes l
  pub fit : Fit s add p.lows p.lanes d e p.b p.a p.step l

abbrev pub MovesDone : Step → Bool → TwoParts → ℕ → ℕ → List ℤ → List ℤ → Type 0
MovesDone s add p d e l l' = Lifted s add p.lows p.lanes d e p.b p.a p.step l l'

pub record PairsAble (join : Bool) (p : TwoParts) (d e : ℕ) (l : List ℤ) : Type 0 where
  pub parts : Parts p.a p.b p.step e e p.lanes (length l)
  pub pairable : Pairable join p.a p.b p.step p.lanes d e l

abbrev pub PairsDone : Bool → TwoParts → ℕ → ℕ → List ℤ → List ℤ → Type 0
PairsDone join p d e l l' = Both (firsts join) (seconds join) p.a p.b p.step p.lanes d e e l l'

pub data Stage : Type 0 where
  Paired : Stage
  Moved : Step → Stage

abbrev pub stage_back : Stage → ℕ
stage_back Paired = 0
stage_back (Moved s) = look_back s

abbrev pub stage_ahead : Stage → ℕ
stage_ahead Paired = 0
stage_ahead (Moved s) = look_ahead s

abbrev pub Alike : Stage → ℕ → ℕ → ℕ → Type 0
Alike Paired M n r = Unit
Alike (Moved s) M n r = Straight s M n r

abbrev pub Takes : Stage → Bool → TwoParts → ℕ → ℕ → List ℤ → Type 0
Takes Paired undo p d e l = PairsAble undo p d e l
Takes (Moved s) undo p d e l = MovesAble s undo p d e l

abbrev pub Makes : Stage → Bool → TwoParts → ℕ → ℕ → List ℤ → List ℤ → Type 0
Makes Paired undo p d e l l' = PairsDone undo p d e l l'
Makes (Moved s) undo p d e l l' = MovesDone s undo p d e l l'
