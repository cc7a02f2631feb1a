-- One level: its buffers, what they hold, and that each pass is handed numbers that it takes within 32 bits. Assumes nothing.
use mathlib.Core.Path.{◌≡◌, sym, ap, ◌∙◌, fun_ext}
use mathlib.Core.Bool.{true, false}
use mathlib.Core.List.{List}
use Prim.Native.Nat.{ℕ, ◌+◌, ◌*◌, ◌-◌, ◌/◌, ◌^◌, ◌<◌, ◌≤◌}
use native.Mathlib.Nat.{mul_comm}
use native.Mathlib.Omega.{arith}
use borrow.Author.Tests.{lt-ltb, le-ltb}
use lib.IntN.{ℤ, pos}
use lib.ListN.{length, get_or, get_or-eq_default}
use Rattle.kernel.specs.declared.Kernel.{Kernel}
use Rattle.line.specs.Cells.{low_side}
use Rattle.line.specs.Transform.{forward, back}
use Rattle.line.proofs.Cells.{by_lt}
use Rattle.line.proofs.Bounds.{within_more, back_within}
use Rattle.grid.specs.Picture.{Picture, row_pass, turned, col_pass, picture}
use Rattle.grid.specs.Buffer.{Taken}
use Rattle.grid.proofs.Passes.{line_in, pass_in}
use Rattle.plane.specs.Inner.{Below}
use Rattle.plane.proofs.Bounds.{row_all, undo_fits}
use Rattle.earlier_passes.specs.Written.{Written}
use Rattle.earlier_passes.specs.Passes.{Takes, Area}
use Rattle.earlier_passes.specs.Level.{samples_of, OneLevel}

pub level_area : {w h m n : ℕ} (l a b : List ℤ) → OneLevel w h m n → length l ≡ n → 32768 ≤ length a → 32768 ≤ length b → Area w w h l a b
level_area {w} {h} l a b z e p q = record {
  some_w = z.some_w;
  some_h = z.some_h;
  even_w = z.even_w;
  even_h = z.even_h;
  w_most = z.w_most;
  h_most = z.h_most;
  wide = omega arith;
  fits = omega (arith, mul_comm w h, z.to);
  a_room = p;
  b_room = q;
}

-- ---- buffers that hold the same
picture_same : (W : ℕ) (l : List ℤ) (P : Picture ℤ) → ((y x : ℕ) → x < W → get_or l (y * W + x) (pos 0) ≡ P y x) → ((y x : ℕ) → W ≤ x → pos 0 ≡ P y x) → picture (pos 0) W l ≡ P
unfolding picture
picture_same W l P inside right = fun_ext λ y. fun_ext λ x. by_lt x W
    (λ lt. simp (lt-ltb x W lt) (inside y x lt))
    (λ ge. simp (le-ltb x W ge) (right y x ge))

pub widened : (W : ℕ) (s : List ℕ) (l l' : List ℤ) → length s ≡ length l → Written (λ i. pos (get_or s i 0)) 0 (length l) l l' → picture (pos 0) W l' ≡ samples_of W s
unfolding picture
widened W s l l' e r = picture_same W l' (samples_of W s)
    (λ y x lt. simp (lt-ltb x W lt) (at (y * W + x)))
    (λ y x ge. simp (le-ltb x W ge))
  where
    at : (i : ℕ) → get_or l' i (pos 0) ≡ pos (get_or s i 0)
    at i = by_lt i (length l)
        (λ lt. ap (λ k. get_or l' k (pos 0)) (omega arith) ∙ r.on i lt)
        (λ ge. get_or-eq_default l' (pos 0) (rw r.size ge) ∙ ap pos (sym (get_or-eq_default s 0 (rw e ge))))

pub copied : (W n : ℕ) (p u u' : List ℤ) → length p ≡ n → length u ≡ n → Taken (pos 0) p 0 1 n 1 u u' → picture (pos 0) W u' ≡ picture (pos 0) W p
unfolding picture
copied W n p u u' e f t = picture_same W u' (picture (pos 0) W p)
    (λ y x lt. simp (lt-ltb x W lt) (at (y * W + x)))
    (λ y x ge. simp (le-ltb x W ge))
  where
    at : (i : ℕ) → get_or u' i (pos 0) ≡ get_or p i (pos 0)
    at i = by_lt i n
        (λ lt. ap (λ k. get_or u' k (pos 0)) (omega arith) ∙ t.on i 0 lt (omega arith) ∙ ap (λ k. get_or p k (pos 0)) (omega arith))
        (λ ge. get_or-eq_default u' (pos 0) (rw (t.size, f) ge) ∙ sym (get_or-eq_default p (pos 0) (rw e ge)))

-- ---- forward: samples within 1,023, and after the rows within 3,071
module _ {w h m n : ℕ} (k : Kernel) (z : OneLevel w h m n) {P : Picture ℤ} (all : Below 1023 w h P) where
  pub rows_take : {Q : Picture ℤ} → Q ≡ P → (y : ℕ) → y < h → Takes false w (Q y)
  rows_take e y p = rw e (record { takes = λ x q. within_more (all.each y x p q) (omega arith) })

  pub cols_take : {Q : Picture ℤ} → Q ≡ row_pass (forward k) w h P → (x : ℕ) → x < w → Takes false h (turned Q x)
  cols_take e x q = rw e (record { takes = λ y p. within_more ((row_all k w h 1023 P all).each y x p q) (omega arith) })

-- ---- back: coefficients within 2^22 − 1, and after the columns within 2^24
module _ {w h m n : ℕ} (k : Kernel) (z : OneLevel w h m n) {P : Picture ℤ} (all : Below (2 ^ 22 - 1) w h P) where
  pub cols_take_back : {Q : Picture ℤ} → Q ≡ P → (x : ℕ) → x < w → Takes true h (turned Q x)
  cols_take_back e x q = rw e (record {
    takes = ((λ y p. within_more (all.each y x (omega arith) q) (omega arith)), (λ y p. within_more (all.each (h / 2 + y) x (omega (arith, z.even_h)) q) (omega arith)));
  })

  cols_back : Below (2 ^ 24) w h (col_pass (back k) w h P)
  cols_back = record {
    each = λ y x p q. rw (pass_in (back k) h w x (turned P) q, line_in (back k) h (turned P x) y p)
        (within_more (back_within k h (2 ^ 22 - 1) (2 ^ 22 - 1) (turned P x) (λ i r. all.each i x (omega arith) q) (λ i r. all.each (low_side h + i) x (omega arith) q) y p) (undo_fits k 0 (omega arith)).2);
  }

  pub rows_take_back : {Q : Picture ℤ} → Q ≡ col_pass (back k) w h P → (y : ℕ) → y < h → Takes true w (Q y)
  rows_take_back e y p = rw e (record {
    takes = ((λ x q. within_more (cols_back.each y x p (omega arith)) (omega arith)), (λ x q. cols_back.each y (w / 2 + x) p (omega (arith, z.even_w))));
  })
