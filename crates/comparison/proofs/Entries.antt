-- From tested buffers to what one level asks, and from its picture to the filled buffer. Assumes nothing.
use mathlib.Core.Path.{◌≡◌, sym, ap, ◌∙◌}
use mathlib.Core.Bool.{true, false, not, ◌||◌}
use mathlib.Core.List.{List}
use Prim.Native.Nat.{ℕ, ◌*◌, ◌-◌, ◌+◌, ◌/◌, ◌%◌, ◌^◌, ◌<◌, ◌≤◌}
use native.Mathlib.Nat.{mul_comm}
use native.Mathlib.Omega.{arith}
use borrow.Author.Tests.{eqb-true, not-false}
use lib.Arith.{digits_lt}
use lib.Dec.{eqb}
use lib.IntN.{ℤ, pos, negsuc, nat_abs}
use lib.ListN.{length, get_or}
use Rattle.whole.specs.Within.{Within}
use Rattle.kernel.specs.declared.Kernel.{Kernel}
use Rattle.kernel.specs.Kernels.{the_kernel}
use Rattle.line.specs.Transform.{forward, back}
use Rattle.grid.specs.Picture.{Picture, row_pass, col_pass, walk, walk_back, picture}
use Rattle.grid.proofs.Passes.{cell, cell_of}
use Rattle.plane.specs.Inner.{Below}
use Rattle.refusal.specs.Results.{Result}
use Rattle.refusal.specs.Tests.{bad_size}
use Rattle.refusal.proofs.Passed.{neither, Sides, sides}
use Rattle.earlier_passes.specs.Level.{samples_of, OneLevel}
use Rattle.comparison.specs.Earlier.{bad_sides, coefficient, undone_number}

pub even_sides : (W H : ℕ) → bad_sides W H ≡ false → Sides W H × (W % 2 ≡ 0) × (H % 2 ≡ 0)
even_sides W H e =
    let p = neither (bad_size W H || not (eqb (W % 2) 0)) (not (eqb (H % 2) 0)) e in
    let q = neither (bad_size W H) (not (eqb (W % 2) 0)) p.0 in
    (sides W H q.0, eqb-true (W % 2) 0 (not-false _ q.1), eqb-true (H % 2) 0 (not-false _ p.1))

pub one_level : {W H m n : ℕ} → Sides W H → W % 2 ≡ 0 → H % 2 ≡ 0 → m ≡ W * H → n ≡ W * H → OneLevel W H m n
one_level s p q e f = record {
  some_w = omega (arith, s.width);
  some_h = omega (arith, s.height);
  even_w = p;
  even_h = q;
  w_most = s.width.1;
  h_most = s.height.1;
  from = e;
  to = f;
}

-- samples up to 1,023, and magnitudes below 2^22, place by place
pub samples_below : (W H : ℕ) (s : List ℕ) → length s ≡ W * H → ((i : ℕ) → i < length s → get_or s i 0 ≤ 2 ^ 10 - 1) → Below 1023 W H (samples_of W s)
samples_below W H s e all = record {
  each = λ y x p q. rw (cell 0 W s y x q) (let h = all (y * W + x) (omega (arith, digits_lt p q, mul_comm W H)) in record { hi = omega arith; lo = omega arith });
}

abs_within : (z : ℤ) → nat_abs z < 2 ^ 22 → Within (2 ^ 22 - 1) z
abs_within (pos a) h = record { hi = omega arith; lo = omega arith }
abs_within (negsuc a) h = record { hi = omega arith; lo = omega arith }

pub plane_below : (W H : ℕ) (l : List ℤ) → length l ≡ W * H → ((i : ℕ) → i < length l → nat_abs (get_or l i (pos 0)) < 2 ^ 22) → Below (2 ^ 22 - 1) W H (picture (pos 0) W l)
plane_below W H l e all = record {
  each = λ y x p q. rw (cell (pos 0) W l y x q) (abs_within _ (all (y * W + x) (omega (arith, digits_lt p q, mul_comm W H))));
}

-- ---- the filled buffer, cell by cell, by the kernel of a number
filled : (W H : ℕ) (l l' : List ℤ) (P : Picture ℤ) → length l' ≡ length l → length l ≡ W * H → picture (pos 0) W l' ≡ P → Result (pos 0) true (λ i. P (i / W) (i % W)) l l'
filled W H l l' P same size e = record {
  size = same;
  cell = λ i h. cell_of (pos 0) W l' H i (omega (arith, mul_comm W H)) ∙ ap (λ (Q : Picture ℤ). Q (i / W) (i % W)) e;
}

module _ (n W H : ℕ) (k : Kernel) (e : the_kernel n ≡ k) (l l' : List ℤ) (same : length l' ≡ length l) (size : length l ≡ W * H) where
  pub coefficients_written : (s : List ℕ) → picture (pos 0) W l' ≡ col_pass (forward k) W H (row_pass (forward k) W H (samples_of W s)) → Result (pos 0) true (coefficient n W H s) l l'
  unfolding walk
  coefficients_written s f = filled W H l l' _ same size (f ∙ ap (λ (j : Kernel). col_pass (forward j) W H (row_pass (forward j) W H (samples_of W s))) (sym e))

  pub undone_of : (p : List ℤ) → picture (pos 0) W l' ≡ row_pass (back k) W H (col_pass (back k) W H (picture (pos 0) W p)) → Result (pos 0) true (undone_number n W H p) l l'
  unfolding walk_back
  undone_of p f = filled W H l l' _ same size (f ∙ ap (λ (j : Kernel). row_pass (back j) W H (col_pass (back j) W H (picture (pos 0) W p))) (sym e))
