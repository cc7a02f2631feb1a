-- The lines that a transform of two parts makes, the second part behind the first. Assumes nothing.
use mathlib.Core.Path.{◌≡◌, refl, sym, ap, ◌∙◌}
use mathlib.Core.List.{List}
use Prim.Native.Nat.{ℕ, ◌+◌, ◌*◌, ◌-◌, ◌/◌, ◌<◌}
use native.Mathlib.Nat.{add-mul}
use native.Mathlib.Omega.{arith}
use lib.IntN.{ℤ, pos}
use lib.ListN.{get_or}
use Rattle.kernel.specs.declared.Kernel.{Kernel}
use Rattle.line.specs.Inner.{Agree}
use Rattle.line.specs.Cells.{Line, joined, paired, behind, low_side}
use Rattle.line.specs.Transform.{low, high, undone_evens, undone_odds, forward, back}
use Rattle.line.proofs.Cells.{by_lt, by_parity, joined_low, joined_high, paired_even, paired_odd}
use Rattle.line.proofs.Local.{low_local, high_local, first_local, second_local}
use Rattle.grid.specs.Buffer.{strided, Lines}
use Rattle.grid.specs.Placed.{parted, woven, on_woven}
use Rattle.grid.proofs.Parted.{parted_even, parted_odd, woven_even, woven_odd}
use Rattle.lifting.specs.Parts.{lane, Both}
use Rattle.lifting.specs.Lines.{lows_of, highs_of}
use Rattle.passes.proofs.Places.{high_place}

pub forward-joined : (k : Kernel) (w : ℕ) (X : Line ℤ) → forward k w X ≡ joined (low_side w) (low k (low_side w) (w / 2) X) (high k (low_side w) (w / 2) X)
unfolding forward
forward-joined k w X = refl

back-paired : (k : Kernel) (w : ℕ) (Y : Line ℤ) → back k w Y ≡ paired (undone_evens k (low_side w) (w / 2) Y (behind (low_side w) Y)) (undone_odds k (low_side w) (w / 2) Y (behind (low_side w) Y))
unfolding back
back-paired k w Y = refl

module _ (k : Kernel) (w c : ℕ) (l l' : List ℤ) where
  -- ---- the second part behind the first, t apart
  module _ (s t : ℕ) where
    line : ℕ → Line ℤ
    line j = strided (pos 0) l (s + j) t

    first_in : (j n : ℕ) → lane s t l j n ≡ line j n
    unfolding line
    first_in j n = ap (λ (i : ℕ). get_or l i (pos 0)) (omega arith)

    second_in : (j n : ℕ) → lane (s + low_side w * t) t l j n ≡ line j (low_side w + n)
    unfolding line
    second_in j n = ap (λ (i : ℕ). get_or l i (pos 0)) (omega (arith, add-mul (low_side w) n t))

    pub forward_form : Both (lows_of k (low_side w) (w / 2)) (highs_of k (low_side w) (w / 2)) s (s + low_side w * t) t c 0 (low_side w) (w / 2) l l' → Lines (on_woven (forward k)) (pos 0) s t w c l l'
    unfolding line
    forward_form f = record {
      size = f.size;
      on = λ n j h r. by_lt n (low_side w)
          (λ lt. f.first n j (omega arith) lt r ∙ low_local (low_side w) (w / 2) (parts j) (woven w (line j)) (omega arith) (omega arith) (agree j) k n lt
          ∙ sym (ap (λ (X : Line ℤ). X n) (forward-joined k w (woven w (line j))) ∙ joined_low (low_side w) _ _ n lt))
          (λ ge. let i : ℕ = n - low_side w in let e : low_side w + i ≡ n = omega arith in
          let q : get_or l' (s + (low_side w + i) * t + j) (pos 0) ≡ on_woven (forward k) w (line j) (low_side w + i)
          = ap (λ (x : ℕ). get_or l' x (pos 0)) (sym (high_place s t i j (low_side w))) ∙ f.second i j (omega arith) (omega arith) r
          ∙ high_local (low_side w) (w / 2) (parts j) (woven w (line j)) (omega arith) (omega arith) (agree j) k i (omega arith)
          ∙ sym (ap (λ (X : Line ℤ). X (low_side w + i)) (forward-joined k w (woven w (line j))) ∙ joined_high (low_side w) _ _ i) in
          rw e at q);
      off = λ i no. f.off i (λ n j o h r e. no n j (omega arith) r e) (λ n j o h r e. no (low_side w + n) j (omega arith) r (e ∙ high_place s t n j (low_side w)));
    }
      where
        parts : ℕ → Line ℤ
        parts j = paired (lane s t l j) (lane (s + low_side w * t) t l j)

        agree : (j : ℕ) → Agree (low_side w + w / 2) (paired (lane s t l j) (lane (s + low_side w * t) t l j)) (woven w (line j))
        agree j = by_parity (λ x. x < low_side w + w / 2 → paired (lane s t l j) (lane (s + low_side w * t) t l j) x ≡ woven w (line j) x)
            (λ n h. paired_even _ _ n ∙ first_in j n ∙ sym (woven_even w n (line j)))
            (λ n h. paired_odd _ _ n ∙ second_in j n ∙ sym (woven_odd w n (line j)))

    -- the way back, its evens in front and its odds behind
    pub back_form : Both (undone_evens k (low_side w) (w / 2)) (undone_odds k (low_side w) (w / 2)) s (s + low_side w * t) t c 0 (low_side w) (w / 2) l l' → Lines (λ n Y. parted n (back k n Y)) (pos 0) s t w c l l'
    unfolding line
    back_form f = record {
      size = f.size;
      on = λ n j h r. by_lt n (low_side w)
          (λ lt. f.first n j (omega arith) lt r ∙ first_local (low_side w) (w / 2) _ _ (line j) (behind (low_side w) (line j)) (omega arith) (λ i q. first_in j i) (λ i q. second_in j i) k n lt
          ∙ sym (parted_even w n (back k w (line j)) lt ∙ ap (λ (X : Line ℤ). X (2 * n)) (back-paired k w (line j)) ∙ paired_even _ _ n))
          (λ ge. let i : ℕ = n - low_side w in let e : low_side w + i ≡ n = omega arith in
          let q : get_or l' (s + (low_side w + i) * t + j) (pos 0) ≡ parted w (back k w (line j)) (low_side w + i)
          = ap (λ (x : ℕ). get_or l' x (pos 0)) (sym (high_place s t i j (low_side w))) ∙ f.second i j (omega arith) (omega arith) r
          ∙ second_local (low_side w) (w / 2) _ _ (line j) (behind (low_side w) (line j)) (omega arith) (λ i q. first_in j i) (λ i q. second_in j i) k i (omega arith)
          ∙ sym (parted_odd w i (back k w (line j)) ∙ ap (λ (X : Line ℤ). X (2 * i + 1)) (back-paired k w (line j)) ∙ paired_odd _ _ i) in
          rw e at q);
      off = λ i no. f.off i (λ n j o h r e. no n j (omega arith) r e) (λ n j o h r e. no (low_side w + n) j (omega arith) r (e ∙ high_place s t n j (low_side w)));
    }
