-- One pair of rows of a level's way back: its columns ended, and each of its rows taken back. Assumes nothing.
use mathlib.Core.Path.{◌≡◌, sym, ap, ◌∙◌}
use mathlib.Core.Bool.{true, false}
use mathlib.Core.List.{List}
use Prim.Native.Nat.{ℕ, ◌+◌, ◌*◌, ◌<◌, ◌≤◌, min}
use native.Mathlib.Omega.{arith}
use lib.IntN.{ℤ, pos}
use lib.ListN.{length}
use Rattle.kernel.specs.declared.Kernel.{Kernel}
use Rattle.line.specs.Cells.{cell}
use Rattle.line.specs.Inner.{Agree}
use Rattle.line.specs.Transform.{back}
use Rattle.line.proofs.Local.{back_local}
use Rattle.grid.specs.Buffer.{strided, InBuffer, Lines}
use Rattle.lifting.specs.Parts.{Parts, Both}
use Rattle.lifting.specs.Lines.{first_lows, first_highs}
use Rattle.passes.specs.Passes.{Takes}
use Rattle.passes.specs.Pairs.{ended_row, PairBack}
use Rattle.passes.proofs.Running.{takes_agree}

module _ (k : Kernel) (M K s t w : ℕ) {l l₁ : List ℤ} (some : 0 < M) (g : Parts s (s + t) (2 * t) M K w (length l)) (wide : w ≤ t)
    (f : Both (first_lows true k K) (first_highs true k M) s (s + t) (2 * t) w 0 1 (min 1 K) l l₁) where
  ended_low : (x : ℕ) → x < w → cell l₁ (s + x) ≡ ended_row false k M K s t l x
  ended_low x h = ap (cell l₁) (omega arith) ∙ f.first 0 x (omega arith) (omega arith) h

  ended_high : (x : ℕ) → 0 < K → x < w → cell l₁ (s + t + x) ≡ ended_row true k M K s t l x
  ended_high x high h = ap (cell l₁) (omega arith) ∙ f.second 0 x (omega arith) (omega arith) h

  low_line : Agree w (strided (pos 0) l₁ (s + 0) 1) (ended_row false k M K s t l)
  low_line x h = ap (cell l₁) (omega arith) ∙ ended_low x h

  pub low_inside : InBuffer l₁ s 1 w 1
  low_inside = record { some = omega arith; apart = omega arith; place = λ n j h r. omega (arith, f.size, g.first.place 0 n some h) }

  pub low_takes : Takes true w (ended_row false k M K s t l) → Takes true w (strided (pos 0) l₁ (s + 0) 1)
  low_takes all = takes_agree true w (ended_row false k M K s t l) _ (λ x h. sym (low_line x h)) all

  -- a low row alone
  pub low_back : {l₂ : List ℤ} → K ≤ 0 → Lines (back k) (pos 0) s 1 w 1 l₁ l₂ → PairBack k M K s t w l l₂
  low_back {l₂} none p = record {
    size = p.size ∙ f.size;
    low = λ x h. ap (cell l₂) (omega arith) ∙ p.on x 0 h (omega arith) ∙ back_local k w _ _ low_line x h;
    high = λ x high h. absurd (omega arith);
    off = λ i a b. p.off i (λ n j r z y. a n r (omega arith))
        ∙ f.off i (λ n j u v z y. let o : n ≡ 0 = omega arith in let y' = rw o at y in a j z (omega arith)) (λ n j u v z y. absurd (omega arith));
  }

  module _ {l₂ : List ℤ} (high : 0 < K) (p : Lines (back k) (pos 0) s 1 w 1 l₁ l₂) where
    high_line : Agree w (strided (pos 0) l₂ (s + t + 0) 1) (ended_row true k M K s t l)
    high_line x h = p.off (s + t + 0 + x * 1) (λ n j r q e. omega arith) ∙ ap (cell l₁) (omega arith) ∙ ended_high x high h

    pub high_inside : InBuffer l₂ (s + t) 1 w 1
    high_inside = record { some = omega arith; apart = omega arith; place = λ n j h r. omega (arith, p.size, f.size, g.second.place 0 n high h) }

    pub high_takes : Takes true w (ended_row true k M K s t l) → Takes true w (strided (pos 0) l₂ (s + t + 0) 1)
    high_takes all = takes_agree true w (ended_row true k M K s t l) _ (λ x h. sym (high_line x h)) all

    pub pair_back : {l₃ : List ℤ} → Lines (back k) (pos 0) (s + t) 1 w 1 l₂ l₃ → PairBack k M K s t w l l₃
    pair_back {l₃} q = record {
      size = q.size ∙ p.size ∙ f.size;
      low = λ x h. q.off (s + x) (λ n j r i z. omega arith) ∙ ap (cell l₂) (omega arith) ∙ p.on x 0 h (omega arith) ∙ back_local k w _ _ low_line x h;
      high = λ x o h. ap (cell l₃) (omega arith) ∙ q.on x 0 h (omega arith) ∙ back_local k w _ _ high_line x h;
      off = λ i a b. q.off i (λ n j r z y. b n high r (omega arith)) ∙ p.off i (λ n j r z y. a n r (omega arith))
          ∙ f.off i (λ n j u v z y. let o : n ≡ 0 = omega arith in let y' = rw o at y in a j z (omega arith)) (λ n j u v z y. let o : n ≡ 0 = omega arith in let y' = rw o at y in b j high z (omega arith));
    }
