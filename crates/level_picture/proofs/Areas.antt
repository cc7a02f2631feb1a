-- The area at a level: its buffers, and what they hold. Assumes nothing.
use mathlib.Core.Path.{◌≡◌, sym, ap, subst, ◌∙◌}
use mathlib.Core.Bool.{true, false}
use mathlib.Core.List.{List}
use Prim.Native.Nat.{ℕ, ◌*◌, ◌-◌, ◌^◌, ◌≤◌}
use native.Mathlib.Nat.{mul-le-mul}
use native.Mathlib.Omega.{arith}
use mir.Syntax.{w64}
use mir.Val.{Fits}
use borrow.Author.Tests.{eqb-true, not-false}
use lib.IntN.{ℤ, pos}
use lib.ListN.{length, get_or}
use Rattle.kernel.specs.declared.Kernel.{Kernel}
use Rattle.kernel.specs.Kernels.{the_kernel}
use Rattle.grid.specs.Picture.{side}
use Rattle.grid.proofs.Levels.{side-le, side_some}
use Rattle.plane.specs.Inner.{Below}
use Rattle.plane.proofs.Bounds.{below_part}
use Rattle.refusal.specs.Tests.{bad_length, bad_magnitude}
use Rattle.refusal.specs.Results.{Result}
use Rattle.refusal.proofs.Passed.{neither, magnitudes}
use Rattle.wavelet.specs.Walks.{Levels}
use Rattle.wavelet.specs.Wavelet.{coefficients_of}
use Rattle.wavelet.proofs.Entries.{area_levels, plane_below}
use Rattle.samples.specs.Samples.{in_range}
use Rattle.level_picture.specs.Level.{level_number, level_sample, bad_area}
use Rattle.level_picture.specs.Inner.{level_at, Lent}

-- ---- lengths
pub area_fits : (r W H : ℕ) → W ≤ 4096 → H ≤ 4096 → Fits w64 (side r W * side r H)
area_fits r W H p q = let a : side r W ≤ 4096 = omega (arith, side-le r W) in let b : side r H ≤ 4096 = omega (arith, side-le r H) in let h : side r W * side r H ≤ 4096 * 4096 = mul-le-mul a b in omega arith

pub good_area : (r W H n s : ℕ) → bad_area r W H n s ≡ false → (n ≡ side r W * side r H) × (s ≡ side r W * side r H)
good_area r W H n s e =
    let p = neither (bad_length (side r W) (side r H) n) (bad_length (side r W) (side r H) s) e in
    (eqb-true n (side r W * side r H) (not-false _ p.0), eqb-true s (side r W * side r H) (not-false _ p.1))

pub lent_levels : {J r D W H m n s k : ℕ} → Lent J r D W H m n s → k ≤ 5 → Levels W (side r W) (side r H) k m
lent_levels {J} {r} {D} {W} {H} z few = area_levels few (record { width = (z.some_w, z.w_most); height = (z.some_h, z.h_most) })
    (side_some r W z.some_w) (side-le r W) (side_some r H z.some_h) (side-le r H) z.plane

-- the area of an accepted plane
pub area_below : (r W H : ℕ) (l : List ℤ) → length l ≡ W * H → bad_magnitude l ≡ false → Below (2 ^ 22 - 1) (side r W) (side r H) (coefficients_of W l)
area_below r W H l full small = below_part (side r W) (side r H) (plane_below W H l full (magnitudes l small)) (side-le r W) (side-le r H)

-- ---- what is shown
-- numbers, brought into range
pub range_of : (D : ℕ) {f : ℕ → ℤ} {u u' : List ℤ} {s s' : List ℕ} → length s ≡ length u → Result (pos 0) true f u u'
    → Result 0 true (λ i. in_range D (get_or u' i (pos 0))) s s' → Result 0 true (λ i. in_range D (f i)) s s'
range_of D e p q = record { size = q.size; cell = λ i h. q.cell i h ∙ ap (in_range D) (p.cell i (omega arith)) }

-- the kernel of a number
module _ (n J r W H : ℕ) (k : Kernel) (e : the_kernel n ≡ k) (p : List ℤ) where
  pub numbers_of : {u u' : List ℤ} → Result (pos 0) true (level_at k J r W H p) u u' → Result (pos 0) true (level_number n J r W H p) u u'
  numbers_of {u} {u'} q = subst (λ (j : Kernel). Result (pos 0) true (level_at j J r W H p) u u') (sym e) q

  pub samples_of : (D : ℕ) {s s' : List ℕ} → Result 0 true (λ i. in_range D (level_at k J r W H p i)) s s' → Result 0 true (level_sample n J r D W H p) s s'
  samples_of D {s} {s'} q = subst (λ (j : Kernel). Result 0 true (λ i. in_range D (level_at j J r W H p i)) s s') (sym e) q
