-- From buffers to pictures: what the entries lend and fill. Assumes nothing.
use mathlib.Core.Path.{◌≡◌, sym, ap, subst, ◌∙◌}
use mathlib.Core.Bool.{true}
use mathlib.Core.List.{List}
use Prim.Native.Nat.{ℕ, zero, suc, ◌+◌, ◌*◌, ◌-◌, ◌/◌, ◌%◌, ◌^◌, ◌<◌, ◌≤◌}
use native.Mathlib.Nat.{mul_comm, mod-lt, div-lt_iff_lt-mul, mul-le-mul_right}
use native.Mathlib.Omega.{arith}
use lib.Arith.{digits_lt}
use lib.IntN.{ℤ, pos, negsuc, nat_abs}
use lib.ListN.{length, get_or}
use lib.Pow.{pow_mono}
use Rattle.whole.specs.Within.{Within}
use Rattle.kernel.specs.declared.Kernel.{Kernel}
use Rattle.kernel.specs.Kernels.{the_kernel}
use Rattle.line.proofs.Bounds.{within_more}
use Rattle.grid.specs.Picture.{Picture}
use Rattle.grid.proofs.Passes.{cell, cell_of}
use Rattle.plane.specs.Inner.{Below}
use Rattle.plane.specs.Plane.{transformed, undone}
use Rattle.refusal.specs.Results.{Result}
use Rattle.refusal.proofs.Passed.{Sides}
use Rattle.wavelet.specs.Wavelet.{samples_of, coefficients_of, coefficient, undone_number}
use Rattle.wavelet.specs.Walks.{area_bound, Levels, Undone, Sized}

-- ---- an area undone, in rows of its own width
pub area_undone : (k : Kernel) (n W w h : ℕ) (p u u' : List ℤ) → 0 < w → length u ≡ w * h → Undone k n W w w h p u u' → Result (pos 0) true (λ i. undone k n w h (coefficients_of W p) (i / w) (i % w)) u u'
area_undone k n W w h p u u' some size t = record {
  size = t.size;
  cell = λ i lt. let y : i / w < h = (div-lt_iff_lt-mul some).1 (omega (arith, mul_comm w h)) in let x = mod-lt i some in
      cell_of (pos 0) w u' h i (omega (arith, mul_comm w h)) ∙ cell (pos 0) w u' (i / w) (i % w) x ∙ t.inside (i / w) (i % w) y x;
}

-- the filled buffer, cell by cell
pub filled : (W H : ℕ) (l l' : List ℤ) (P : Picture ℤ) → length l' ≡ length l → length l ≡ W * H → coefficients_of W l' ≡ P → Result (pos 0) true (λ i. P (i / W) (i % W)) l l'
filled W H l l' P same size e = record {
  size = same;
  cell = λ i h. cell_of (pos 0) W l' H i (omega (arith, mul_comm W H)) ∙ ap (λ (Q : Picture ℤ). Q (i / W) (i % W)) e;
}

-- ---- sizes and bounds
-- an area of w by h of a buffer of W by H
pub area_levels : {W H w h n size : ℕ} → n ≤ 5 → Sides W H → 0 < w → w ≤ W → 0 < h → h ≤ H → size ≡ W * H → Levels W w h n size
area_levels {W} {H} {w} {h} {n} few s some-w in-w some-h in-h e = record {
  few = few;
  some_w = some-w;
  some_h = some-h;
  w_most = omega (arith, s.width.1);
  h_most = omega (arith, s.height.1);
  wide = in-w;
  narrow = omega (arith, mul-le-mul_right {m = 2 ^ n} {n = 2 ^ 5} W (pow_mono few), s.width.1);
  fits = omega (arith, mul_comm W H, digits_lt {q = h - 1} {m = H} {r = w - 1} {c = W} (omega arith) (omega arith));
}

-- the whole of it
pub whole_levels : {W H n size : ℕ} → n ≤ 5 → Sides W H → size ≡ W * H → Levels W W H n size
whole_levels few s e = area_levels few s (omega (arith, s.width.0)) (omega arith) (omega (arith, s.height.0)) (omega arith) e

-- an area in a buffer of its own
pub own_levels : {W w h n size m : ℕ} → Levels W w h n size → m ≡ w * h → Levels w w h n m
own_levels z e = whole_levels z.few (record { width = (z.some_w, z.w_most); height = (z.some_h, z.h_most) }) e

pub sized_levels : {J W H m n size : ℕ} → Sized J W H m n → size ≡ n → Levels W W H J size
sized_levels z e = whole_levels z.few (record { width = (z.some_w, z.w_most); height = (z.some_h, z.h_most) }) (e ∙ z.to)

area_bound_least : (n : ℕ) → n ≤ 5 → 1023 ≤ area_bound n
unfolding area_bound
area_bound_least zero h = omega arith
area_bound_least (suc zero) h = omega arith
area_bound_least (suc (suc zero)) h = omega arith
area_bound_least (suc (suc (suc zero))) h = omega arith
area_bound_least (suc (suc (suc (suc zero)))) h = omega arith
area_bound_least (suc (suc (suc (suc (suc zero))))) h = omega arith
area_bound_least (suc (suc (suc (suc (suc (suc n)))))) h = absurd (omega arith)

pub area_below : {n w h : ℕ} {P Q : Picture ℤ} → n ≤ 5 → Below 1023 w h P → Q ≡ P → Below (area_bound n) w h Q
area_below {n} le all e = rw e (record { each = λ y x p q. within_more (all.each y x p q) (area_bound_least n le) })

-- samples up to 2^D − 1, and magnitudes below 2^22, place by place
pub samples_below : (W H D : ℕ) (s : List ℕ) → length s ≡ W * H → ((i : ℕ) → i < length s → get_or s i 0 ≤ 2 ^ D - 1) → 2 ^ D ≤ 1024 → Below 1023 W H (samples_of W s)
samples_below W H D s e all top = record {
  each = λ y x p q. rw (cell 0 W s y x q) (let h = all (y * W + x) (omega (arith, digits_lt p q, mul_comm W H)) in record { hi = omega arith; lo = omega arith });
}

abs_within : (z : ℤ) → nat_abs z < 2 ^ 22 → Within (2 ^ 22 - 1) z
abs_within (pos a) h = record { hi = omega arith; lo = omega arith }
abs_within (negsuc a) h = record { hi = omega arith; lo = omega arith }

pub plane_below : (W H : ℕ) (l : List ℤ) → length l ≡ W * H → ((i : ℕ) → i < length l → nat_abs (get_or l i (pos 0)) < 2 ^ 22) → Below (2 ^ 22 - 1) W H (coefficients_of W l)
plane_below W H l e all = record {
  each = λ y x p q. rw (cell (pos 0) W l y x q) (abs_within _ (all (y * W + x) (omega (arith, digits_lt p q, mul_comm W H))));
}

-- ---- the kernel of a number
module _ (n J W H : ℕ) (k : Kernel) (e : the_kernel n ≡ k) (l l' : List ℤ) where
  pub coefficients_written : (s : List ℕ) → Result (pos 0) true (λ i. transformed k J W H (samples_of W s) (i / W) (i % W)) l l' → Result (pos 0) true (coefficient n J W H s) l l'
  coefficients_written s r = subst (λ (j : Kernel). Result (pos 0) true (λ i. transformed j J W H (samples_of W s) (i / W) (i % W)) l l') (sym e) r

  pub undone_of : (p : List ℤ) → Result (pos 0) true (λ i. undone k J W H (coefficients_of W p) (i / W) (i % W)) l l' → Result (pos 0) true (undone_number n J W H p) l l'
  undone_of p r = subst (λ (j : Kernel). Result (pos 0) true (λ i. undone j J W H (coefficients_of W p) (i / W) (i % W)) l l') (sym e) r
