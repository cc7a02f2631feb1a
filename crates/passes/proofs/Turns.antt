-- One turn of a level's way back: pairs are placed and begun ahead, which undoes the second step of their columns, and a pair is ended, which undoes
-- the first. Assumes nothing.
use mathlib.Core.Path.{◌≡◌}
use mathlib.Core.Bool.{Bool, true, false}
use mathlib.Core.List.{List}
use Prim.Native.Nat.{ℕ, ◌+◌, ◌*◌, ◌-◌, ◌/◌, ◌^◌, ◌<◌, ◌≤◌, min}
use native.Mathlib.Omega.{arith}
use lib.IntN.{ℤ}
use lib.ListN.{length}
use Rattle.kernel.specs.declared.Kernel.{Kernel}
use Rattle.line.specs.Cells.{low_side}
use Rattle.line.specs.Inner.{AllWithin}
use Rattle.line.specs.Transform.{back}
use Rattle.grid.specs.Picture.{Picture, turned, col_pass}
use Rattle.lifting.specs.Parts.{Bounded, Both}
use Rattle.lifting.specs.Lines.{second_lows, second_highs, SecondTakes}
use Rattle.passes.specs.Passes.{Takes, Area}
use Rattle.passes.specs.Pairs.{ended_row, PairBack, PairsPlaced}
use Rattle.passes.specs.Levels.{level_of}
use Rattle.passes.proofs.PairPlaces.{at}
use Rattle.passes.proofs.Swept.{counts, Apart, place_more, begin_more, end_more, Ahead, begun_to, placed_to, ahead_more, more_begun, more_placed, begin_ahead, end_ahead, far_back}
use Rattle.passes.proofs.Rolling.{Rolled, ended_at, pairs_apart, begun_changed, begun_new, ended_changed, ended_is, ended_new, ended_takes, highs_near, lows_near, placed_changed, placed_new, rows_begin}

-- ---- one turn: pairs are placed up to g, begun up to f, and pair n is ended, which has e high rows
module _ (k : Kernel) (W S w h : ℕ) (p u : List ℤ) (y : Area W w h (length p)) (z : Area S w h (length u))
    (cols : (x : ℕ) → x < w → Takes true h (turned (level_of W S w h p u) x)) (rows : (v : ℕ) → v < h → Takes true w (col_pass (back k) w h (level_of W S w h p u) v))
    {n b q f g : ℕ} (lt : n < low_side h) (s : Ahead (low_side h) n b q) (x : f ≡ begun_to (low_side h) n) (v : g ≡ placed_to (low_side h) n) where
  abbrev M : ℕ
  M = low_side h

  abbrev K : ℕ
  K = h / 2

  le : K ≤ M
  le = omega arith

  fit : M ≤ K + 1
  fit = omega arith

  nk : n ≤ K
  nk = omega arith

  abbrev R : Picture ℤ
  R = level_of W S w h p u

  lows : (j : ℕ) → j < w → AllWithin (2 ^ 28) M (λ i. R i j)
  lows j a = (cols j a).takes.0

  highs : (j : ℕ) → j < w → AllWithin (2 ^ 24) K (λ i. R (M + i) j)
  highs j a = (cols j a).takes.1

  separate : Apart (at S) (counts M K) w
  separate = pairs_apart S w (counts M K) z.wide

  module _ {l l₁ : List ℤ} (r : Rolled k R M K S w u n b q l) (t : PairsPlaced W S w h q g p l l₁) where
    after_place : Rolled k R M K S w u n b g l₁
    after_place = let a = ahead_more lt s x v in
        record { swept = place_more separate r.swept s.near s.order (more_placed lt s x v) (placed_changed p u l l₁ y z.wide a.top r t) (placed_new p u l l₁ y z.wide a.top r t) }

    pub begin_asks : {c : ℕ} → c ≡ min g K → SecondTakes k (at S false n) (at S true n) (2 * S) (g - n) (c - n) w (b - n) (f - n) l₁
    begin_asks rows_of_lem = let a = ahead_more lt s x v in rw rows_of_lem (rows_begin u l₁ le fit s.near (more_begun lt s x v) a.order a.top after_place nk lows highs)

    module _ {c : ℕ} {l₂ : List ℤ} (rows_of_lem : c ≡ min g K)
        (undone : Both (second_lows true k (c - n)) (second_highs true k (g - n)) (at S false n) (at S true n) (2 * S) w (b - n) (f - n) (min (f - n) (c - n)) l₁ l₂) where
      t₂ : Both (second_lows true k (min g K - n)) (second_highs true k (g - n)) (at S false n) (at S true n) (2 * S) w (b - n) (f - n) (min (f - n) (min g K - n)) l₁ l₂
      t₂ = rw rows_of_lem at undone

      after_begin : Rolled k R M K S w u n f g l₂
      after_begin = let a = ahead_more lt s x v in let bf = more_begun lt s x v in let far = far_back lt s x v in let near = begin_ahead lt s x v in
          record {
            swept = begin_more separate after_place.swept s.near bf a.order
                (begun_changed u l₁ le fit s.near bf a.order a.top after_place far near nk t₂) (begun_new u l₁ le fit s.near bf a.order a.top after_place far near nk t₂);
          }

      some : n < f
      some = omega (arith, (ahead_more lt s x v).near)

      module _ {e : ℕ} (pair : e ≡ min (n + 1) K - n) where
        ended : (c : Bool) → n < counts M K c → (j : ℕ) → j < w → ended_row c k (f - n) e (at S false n) S l₂ j ≡ ended_at k R M K c n j
        ended c m j a = let o = ahead_more lt s x v in ended_is u l₂ le fit some o.order o.top (end_ahead lt s x v) after_begin pair c j m a

        pub end_asks : Bounded (2 ^ 29) (at S false n) (2 * S) (f - n) w l₂ × Bounded (2 ^ 29) (at S true n) (2 * S) e w l₂
            × Takes true w (ended_row false k (f - n) e (at S false n) S l₂) × (0 < e → Takes true w (ended_row true k (f - n) e (at S false n) S l₂))
        end_asks = let a = ahead_more lt s x v in let near = end_ahead lt s x v in (
          lows_near u l₂ le fit some a.order a.top near after_begin pair lows highs,
          highs_near u l₂ le fit some a.order a.top near after_begin pair lows highs,
          ended_takes w h k R false n lt (ended false lt) rows,
          (λ high. let m : n < K = omega (arith, pair) in ended_takes w h k R true n m (ended true m) rows),
        )

        pub after_end : {l₃ : List ℤ} → PairBack k (f - n) e (at S false n) S w l₂ l₃ → Rolled k R M K S w u (n + 1) f g l₃
        after_end t₃ = let a = ahead_more lt s x v in let near = end_ahead lt s x v in
            record { swept = end_more separate after_begin.swept some a.order (ended_changed u l₂ le fit some a.order a.top near after_begin pair t₃) (ended_new u l₂ le fit some a.order a.top near after_begin pair t₃) }
