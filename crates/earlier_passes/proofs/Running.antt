-- The loops of the passes: what a strip of lines asks, and that its numbers are taken within 32 bits. Assumes nothing.
use mathlib.Core.Path.{◌≡◌, sym, ap, ◌∙◌}
use mathlib.Core.Bool.{Bool, true, false}
use mathlib.Core.List.{List}
use Prim.Native.Nat.{ℕ, ◌+◌, ◌*◌, ◌/◌, ◌%◌, ◌<◌, ◌≤◌}
use native.Mathlib.Nat.{mul-le-mul_left}
use native.Mathlib.Omega.{arith}
use lib.IntN.{ℤ, pos}
use lib.ListN.{length, get_or}
use Rattle.kernel.specs.declared.Kernel.{Kernel}
use Rattle.line.specs.Inner.{Agree}
use Rattle.line.specs.Cells.{Line}
use Rattle.line.proofs.Local.{forward_local, back_local}
use Rattle.grid.specs.Picture.{Picture, Transform, turned, picture}
use Rattle.grid.specs.Buffer.{strided, InBuffer}
use Rattle.grid.proofs.Passes.{Local, cell, pass_past}
use Rattle.grid.proofs.Running.{RowsPassed, ColsPassed, row_places, col_places, whole_rows}
use Rattle.earlier_passes.specs.Strip.{Strips}
use Rattle.earlier_passes.specs.Passes.{line_transform, Takes, Area}

pub line_local : (undo : Bool) (k : Kernel) → Local (line_transform undo k)
line_local false k = forward_local k
line_local true k = back_local k

takes_agree : (undo : Bool) (w : ℕ) (X Y : Line ℤ) → w % 2 ≡ 0 → Agree w X Y → Takes undo w X → Takes undo w Y
takes_agree false w X Y even a t = record { takes = λ i h. rw (← a i h) (t.takes i h) }
takes_agree true w X Y even a t = record {
  takes = ((λ i h. rw (← a i (omega arith)) (t.takes.0 i h)), (λ i h. rw (← a (w / 2 + i) (omega arith)) (t.takes.1 i h)));
}

pub area_same : {stride w h : ℕ} {l a b : List ℤ} (l' a' b' : List ℤ) → Area stride w h l a b → length l' ≡ length l → length a' ≡ length a → length b' ≡ length b → Area stride w h l' a' b'
area_same l' a' b' z p q r = record {
  some_w = z.some_w;
  some_h = z.some_h;
  even_w = z.even_w;
  even_h = z.even_h;
  w_most = z.w_most;
  h_most = z.h_most;
  wide = z.wide;
  fits = rw p z.fits;
  a_room = rw q z.a_room;
  b_room = rw r z.b_room;
}

-- ---- rows
module _ {stride w h : ℕ} {l a b : List ℤ} (z : Area stride w h l a b) where
  pub row_strips : Strips (w / 2) 1 a b
  row_strips = record {
    some = omega (arith, z.some_w, z.even_w);
    few = omega (arith, z.w_most);
    small = omega (arith, z.w_most);
    evens = omega (arith, z.w_most, z.a_room);
    odds = omega (arith, z.w_most, z.b_room);
  }

  pub row_in : (y : ℕ) → y < h → InBuffer l (y * stride) 1 (2 * (w / 2)) 1
  row_in y h = let e : 2 * (w / 2) ≡ w = omega (arith, z.even_w) in rw e (row_places l stride w _ z.wide (whole_rows z.wide z.fits) y h)

  pub col_strips : (c : ℕ) → c ≤ 16 → Strips (h / 2) c a b
  col_strips c le =
      let m : h / 2 * c ≤ h / 2 * 16 = mul-le-mul_left (h / 2) le in record {
        some = omega (arith, z.some_h, z.even_h);
        few = omega (arith, z.h_most);
        small = omega (arith, z.h_most);
        evens = omega (arith, z.h_most, z.a_room);
        odds = omega (arith, z.h_most, z.b_room);
      }

  pub col_in : (x c : ℕ) → 0 < c → x + c ≤ w → InBuffer l x stride (2 * (h / 2)) c
  col_in x c some le = let e : 2 * (h / 2) ≡ h = omega (arith, z.even_h) in rw e (col_places l stride w h z.wide (whole_rows z.wide z.fits) x c some le)

module _ {undo : Bool} {T : Transform ℤ} {stride w h y : ℕ} {l₀ a₀ b₀ l a b : List ℤ} (z : Area stride w h l₀ a₀ b₀) (p : RowsPassed (pos 0) T stride w h y l₀ a₀ b₀ l a b) where
  pub row_takes : ((v : ℕ) → v < h → Takes undo w (picture (pos 0) stride l₀ v)) → y < h → (j : ℕ) → j < 1 → Takes undo (2 * (w / 2)) (strided (pos 0) l (y * stride + j) 1)
  row_takes all lt j r =
      let e : 2 * (w / 2) ≡ w = omega (arith, z.even_w) in
      rw e (takes_agree undo w (picture (pos 0) stride l₀ y) _ z.even_w
      (λ i h. sym (ap (λ n. get_or l n (pos 0)) (omega arith) ∙ sym (cell (pos 0) stride l y i (omega (arith, z.wide)))
      ∙ ap (λ (P : Picture ℤ). P y i) p.passed ∙ ap (λ (X : Line ℤ). X i) (pass_past T w y y (picture (pos 0) stride l₀) (omega arith))))
      (all y lt))

module _ {undo : Bool} {T : Transform ℤ} {stride w h x : ℕ} {l₀ a₀ b₀ l a b : List ℤ} (z : Area stride w h l₀ a₀ b₀) (p : ColsPassed (pos 0) T stride w h x l₀ a₀ b₀ l a b) where
  pub col_takes : ((v : ℕ) → v < w → Takes undo h (turned (picture (pos 0) stride l₀) v)) → (c : ℕ) → x + c ≤ w → (j : ℕ) → j < c → Takes undo (2 * (h / 2)) (strided (pos 0) l (x + j) stride)
  col_takes all c le j r =
      let e : 2 * (h / 2) ≡ h = omega (arith, z.even_h) in
      rw e (takes_agree undo h (turned (picture (pos 0) stride l₀) (x + j)) _ z.even_h
      (λ i h. sym (ap (λ n. get_or l n (pos 0)) (omega arith) ∙ sym (cell (pos 0) stride l i (x + j) (omega (arith, z.wide)))
      ∙ ap (λ (P : Picture ℤ). P (x + j) i) p.passed ∙ ap (λ (X : Line ℤ). X i) (pass_past T _ x (x + j) (turned (picture (pos 0) stride l₀)) (omega arith))))
      (all (x + j) (omega arith)))
