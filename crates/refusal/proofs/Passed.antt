-- What a call knows once tests have passed.
--
--   Sides W H == W and H are 1 to 4,096
--
-- Assumes nothing.
use mathlib.Core.Path.{◌≡◌, sym, ◌∙◌}
use mathlib.Core.Bool.{Bool, false, false≢true}
use mathlib.Core.List.{List}
use Prim.Native.Nat.{ℕ, ◌+◌, ◌*◌, ◌-◌, ◌^◌, ◌<◌, ◌≤◌}
use native.Mathlib.Nat.{mul_comm, suc-mul, mul-le-mul, mul-le-mul_right}
use native.Mathlib.Omega.{arith}
use borrow.Author.Tests.{ltb-false, leb-false}
use lib.Dec.{ltb, leb}
use lib.IntN.{ℤ, pos, nat_abs}
use lib.ListN.{length, get_or}
use mir.Syntax.{w64}
use mir.Val.{Fits}
use Rattle.line.specs.Mask.{any_below}
use Rattle.line.proofs.Marks.{any_intro}
use Rattle.refusal.specs.Tests.{outside, bad_size, bad_sample, bad_mark, bad_magnitude}
-- ---- neither of two, none of many
pub use Rattle.std.proofs.lemmas.Bool.{or_parts as neither, false_from_ne_true as not_any}

pub none_of : (n : ℕ) (f : ℕ → Bool) → any_below n f ≡ false → (k : ℕ) → k < n → f k ≡ false
none_of n f e k h = not_any (f k) (λ t. false≢true (sym e ∙ any_intro n f k h t))

-- ---- numbers
pub inside : (low high n : ℕ) → outside low high n ≡ false → (low ≤ n) × (n ≤ high)
inside low high n e = let p = neither (ltb n low) (ltb high n) e in (ltb-false n low p.0, ltb-false high n p.1)

pub record Sides (W H : ℕ) : Type 0 where
  pub width : (1 ≤ W) × (W ≤ 4096)
  pub height : (1 ≤ H) × (H ≤ 4096)

pub sides : (W H : ℕ) → bad_size W H ≡ false → Sides W H
sides W H e = let p = neither (outside 1 4096 W) (outside 1 4096 H) e in record { width = inside 1 4096 W p.0; height = inside 1 4096 H p.1 }

pub area_most : {W H : ℕ} → Sides W H → W * H ≤ 16777216
area_most {W} {H} s = let h : W * H ≤ 4096 * 4096 = mul-le-mul s.width.1 s.height.1 in omega arith

pub area : {W H : ℕ} → Sides W H → Fits w64 (W * H)
area s = omega (arith, area_most s)

-- row y of h rows ends among the n cells of them all
pub row_fits : (y w h n : ℕ) → y < h → w * h ≤ n → y * w + w ≤ n
row_fits y w h n p q = omega (arith, mul-le-mul_right w p, suc-mul y w, mul_comm w h)

-- ---- cells
pub samples : (D : ℕ) (l : List ℕ) → bad_sample D l ≡ false → (i : ℕ) → i < length l → get_or l i 0 ≤ 2 ^ D - 1
unfolding bad_sample
samples D l e i h = ltb-false (2 ^ D - 1) (get_or l i 0) (none_of (length l) (λ i. ltb (2 ^ D - 1) (get_or l i 0)) e i h)

pub marks : (l : List ℕ) → bad_mark l ≡ false → (i : ℕ) → i < length l → get_or l i 0 ≤ 1
unfolding bad_mark
marks l e i h = ltb-false 1 (get_or l i 0) (none_of (length l) (λ i. ltb 1 (get_or l i 0)) e i h)

pub magnitudes : (l : List ℤ) → bad_magnitude l ≡ false → (i : ℕ) → i < length l → nat_abs (get_or l i (pos 0)) < 2 ^ 22
unfolding bad_magnitude
magnitudes l e i h = leb-false (2 ^ 22) (nat_abs (get_or l i (pos 0))) (none_of (length l) (λ i. leb (2 ^ 22) (nat_abs (get_or l i (pos 0)))) e i h)
