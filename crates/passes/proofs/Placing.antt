-- Rows of samples that are transformed and stored where they end. Assumes nothing.
use mathlib.Core.Path.{◌≡◌, refl, sym, ap, subst, ◌∙◌}
use mathlib.Core.List.{List}
use Prim.Native.Nat.{ℕ, ◌+◌, ◌*◌, ◌-◌, ◌/◌, ◌^◌, ◌<◌, ◌≤◌}
use native.Mathlib.Omega.{arith}
use lib.Arith.{digits_lt}
use lib.IntN.{ℤ, pos}
use lib.ListN.{get_or}
use Rattle.kernel.specs.declared.Kernel.{Kernel}
use Rattle.line.specs.Inner.{Agree, AllWithin}
use Rattle.line.specs.Cells.{Line, low_side}
use Rattle.line.specs.Transform.{forward}
use Rattle.line.proofs.Cells.{by_lt, by_parity}
use Rattle.line.proofs.Local.{forward_local}
use Rattle.grid.specs.Placed.{woven}
use Rattle.grid.proofs.Passes.{cell, row_of}
use Rattle.grid.proofs.Parted.{woven_even, woven_odd}
use Rattle.runs.specs.Cells.{Written}
use Rattle.transfer.specs.Moved.{Twofold}
use Rattle.lifting.specs.Parts.{lane, Parts, Bounded, Both}
use Rattle.lifting.specs.Lines.{lows_of, highs_of}
use Rattle.passes.specs.Passes.{pictured}
use Rattle.passes.specs.Pairs.{PairsIn}
use Rattle.passes.proofs.Forms.{forward_form}

-- ---- one row, parted in place
pub row_parts : (at w size : ℕ) → w < 2 ^ 32 → at + w ≤ size → Parts at (at + low_side w) 1 (low_side w) (w / 2) 1 size
row_parts at w size few room = record {
  few = (omega arith, omega arith);
  lines = omega arith;
  wide = omega arith;
  first = record { place = λ n j h k. omega arith };
  second = record { place = λ n j h k. omega arith };
  apart = λ n j n' j' h k h' k' e. omega arith;
}

module _ (X : Line ℤ) (at w : ℕ) {l l₁ : List ℤ} (p : Twofold (pos 0) (λ k. X (2 * k)) (λ k. X (2 * k + 1)) (λ k. at + k) (λ k. at + low_side w + k) (low_side w) (w / 2) l l₁) where
  front : (n j : ℕ) → n < low_side w → j < 1 → lane at 1 l₁ j n ≡ X (2 * n)
  front n j h k = ap (λ (i : ℕ). get_or l₁ i (pos 0)) (omega arith) ∙ p.first n h

  rear : (n j : ℕ) → n < w / 2 → j < 1 → lane (at + low_side w) 1 l₁ j n ≡ X (2 * n + 1)
  rear n j h k = ap (λ (i : ℕ). get_or l₁ i (pos 0)) (omega arith) ∙ p.second n h

  module _ (all : AllWithin (5 * 2 ^ 22) w X) where
    pub front_bounded : Bounded (5 * 2 ^ 22) at 1 (low_side w) 1 l₁
    front_bounded = record { each = λ j k n h. rw (front n j h k) (all (2 * n) (omega arith)) }

    pub rear_bounded : Bounded (5 * 2 ^ 22) (at + low_side w) 1 (w / 2) 1 l₁
    rear_bounded = record { each = λ j k n h. rw (rear n j h k) (all (2 * n + 1) (omega arith)) }

  pub row_stored : (k : Kernel) {l₂ : List ℤ} → Both (lows_of k (low_side w) (w / 2)) (highs_of k (low_side w) (w / 2)) at (at + low_side w) 1 1 0 (low_side w) (w / 2) l₁ l₂ → Written (forward k w X) at w l l₂
  row_stored k {l₂} f =
      let e : at + low_side w ≡ at + low_side w * 1 = omega arith in
      let g = forward_form k w 1 l₁ l₂ at 1 (subst (λ (b : ℕ). Both (lows_of k (low_side w) (w / 2)) (highs_of k (low_side w) (w / 2)) at b 1 1 0 (low_side w) (w / 2) l₁ l₂) e f) in
      record {
        size = f.size ∙ p.size;
        on = λ n h. ap (λ (i : ℕ). get_or l₂ i (pos 0)) (omega arith) ∙ g.on n 0 h (omega arith) ∙ forward_local k w _ X same n h;
        below = λ i h. g.off i (λ n j r q e. omega arith) ∙ p.off i (λ n r e. omega arith) (λ n r e. omega arith);
        above = λ i h. g.off i (λ n j r q e. omega arith) ∙ p.off i (λ n r e. omega arith) (λ n r e. omega arith);
      }
    where
      same : Agree w (woven w (λ n. get_or l₁ (at + 0 + n * 1) (pos 0))) X
      same = by_parity (λ x. x < w → woven w (λ n. get_or l₁ (at + 0 + n * 1) (pos 0)) x ≡ X x)
          (λ n r. woven_even w n _ ∙ ap (λ (i : ℕ). get_or l₁ i (pos 0)) (omega arith) ∙ front n 0 (omega arith) (omega arith))
          (λ n r. woven_odd w n _ ∙ ap (λ (i : ℕ). get_or l₁ i (pos 0)) (omega arith) ∙ rear n 0 (omega arith) (omega arith))

pub samples_parted : (s : List ℕ) (from at w : ℕ) {l l₁ : List ℤ}
    → Twofold (pos 0) (λ k. pos (get_or s (from + 2 * k) 0)) (λ k. pos (get_or s (from + 2 * k + 1) 0)) (λ k. at + k) (λ k. at + low_side w + k) (low_side w) (w / 2) l l₁
    → Twofold (pos 0) (λ k. pos (get_or s (from + 2 * k) 0)) (λ k. pos (get_or s (from + (2 * k + 1)) 0)) (λ k. at + k) (λ k. at + low_side w + k) (low_side w) (w / 2) l l₁
samples_parted s from at w p = record { size = p.size; first = p.first; second = λ k h. p.second k h ∙ ap (λ (i : ℕ). pos (get_or s i 0)) (omega arith); off = p.off }

-- ---- pair after pair of rows
-- a row of the picture, and its places
pub row_within : (r w y : ℕ) (s : List ℕ) → AllWithin r w (pictured w s y) → AllWithin r w (λ x. pos (get_or s (y * w + x) 0))
row_within r w y s all x h = let t = all x (omega arith) in rw (cell 0 w s y x (omega arith)) at t

pub row_ends : (w h y : ℕ) → 0 < w → y < h → y * w + w ≤ h * w
row_ends w h y some lt = omega (arith, digits_lt {q = y} {m = h} {r = w - 1} {c = w} lt (omega arith))

written_off : {g : ℕ → ℤ} {s n : ℕ} {l l' : List ℤ} → Written g s n l l' → (j : ℕ) → ((x : ℕ) → x < n → j ≡ s + x → ⊥) → get_or l' j (pos 0) ≡ get_or l j (pos 0)
written_off {s = s} {n = n} f j out = by_lt j s (λ lt. f.below j lt) (λ ge. by_lt j (s + n) (λ lt. absurd (out (j - s) (omega arith) (omega arith))) (λ far. f.above j far))

pub pairs_in_none : (k : Kernel) (s : List ℕ) (w h a : ℕ) (l : List ℤ) → PairsIn k s w h a a l l
pairs_in_none k s w h a l = record { size = refl; low = λ i x p q. absurd (omega arith); high = λ i x p q. absurd (omega arith); off = λ j x y. refl }

pictured_row : (k : Kernel) (w y x : ℕ) (s : List ℕ) → x < w → forward k w (λ v. pos (get_or s (y * w + v) 0)) x ≡ forward k w (pictured w s y) x
pictured_row k w y x s h = forward_local k w _ _ (λ v q. sym (ap pos (cell 0 w s y v q))) x h

-- one pair
module _ (k : Kernel) (s : List ℕ) (w h n : ℕ) {l l₁ : List ℤ} (nm : n < low_side h) (f : Written (forward k w (λ x. pos (get_or s (2 * n * w + x) 0))) (n * w) w l l₁) where
  low_stored : (x : ℕ) → x < w → get_or l₁ (n * w + x) (pos 0) ≡ forward k w (pictured w s (2 * n)) x
  low_stored x j = f.on x j ∙ pictured_row k w (2 * n) x s j

  -- without a high row
  pub pair_in_last : h / 2 ≤ n → PairsIn k s w h n (n + 1) l l₁
  pair_in_last none = record {
    size = f.size;
    low = λ i x u v j. let z : i ≡ n = omega arith in rw z (low_stored x j);
    high = λ i x u v t j. absurd (omega arith);
    off = λ j x y. written_off f j (λ v q e. x n v (omega arith) (omega arith) q e);
  }

  pub pair_in_both : {l₂ : List ℤ} → n < h / 2 → Written (forward k w (λ x. pos (get_or s ((2 * n + 1) * w + x) 0))) ((low_side h + n) * w) w l₁ l₂ → PairsIn k s w h n (n + 1) l l₂
  pair_in_both {l₂} some g = record {
    size = g.size ∙ f.size;
    low = λ i x u v j. let z : i ≡ n = omega arith in
        rw z (g.below (n * w + x) (digits_lt {q = n} {m = low_side h + n} {r = x} {c = w} (omega arith) j) ∙ low_stored x j);
    high = λ i x u v t j. let z : i ≡ n = omega arith in rw z (g.on x j ∙ pictured_row k w (2 * n + 1) x s j);
    off = λ j x y. written_off g j (λ v q e. y n v (omega arith) (omega arith) some q e) ∙ written_off f j (λ v q e. x n v (omega arith) (omega arith) q e);
  }

-- a pair more
module _ {k : Kernel} {s : List ℕ} {w h a n : ℕ} {l l' l'' : List ℤ} (top : n < low_side h) (p : PairsIn k s w h a n l l') (q : PairsIn k s w h n (n + 1) l' l'') where
  low_kept : (i x : ℕ) → i < n → x < w → get_or l'' (i * w + x) (pos 0) ≡ get_or l' (i * w + x) (pos 0)
  low_kept i x lt j = q.off (i * w + x)
      (λ i' x' u v j' e. omega (arith, row_of w i i' x x' j j' e)) (λ i' x' u v t j' e. omega (arith, row_of w i (low_side h + i') x x' j j' e))

  high_kept : (i x : ℕ) → i < n → x < w → get_or l'' ((low_side h + i) * w + x) (pos 0) ≡ get_or l' ((low_side h + i) * w + x) (pos 0)
  high_kept i x lt j = q.off ((low_side h + i) * w + x)
      (λ i' x' u v j' e. omega (arith, row_of w (low_side h + i) i' x x' j j' e)) (λ i' x' u v t j' e. omega (arith, row_of w (low_side h + i) (low_side h + i') x x' j j' e))

  pub pairs_in_more : a ≤ n → PairsIn k s w h a (n + 1) l l''
  pairs_in_more an = record {
    size = q.size ∙ p.size;
    low = λ i x u v j. by_lt i n (λ lt. low_kept i x lt j ∙ p.low i x u lt j) (λ ge. q.low i x ge v j);
    high = λ i x u v t j. by_lt i n (λ lt. high_kept i x lt j ∙ p.high i x u lt t j) (λ ge. q.high i x ge v t j);
    off = λ j x y. q.off j (λ i v u r. x i v (omega arith) r) (λ i v u r. y i v (omega arith) r) ∙ p.off j (λ i v u r. x i v u (omega arith)) (λ i v u r. y i v u (omega arith));
  }
