-- Sums and differences of two numbers of 32 bits, taken in 64 bits: they fit, and the mean fits 32 bits again. What the floor of a sum is.
-- Assumes nothing.
use mathlib.Core.Path.{◌≡◌, sym, ap, subst, ◌∙◌}
use Prim.Native.Nat.{ℕ}
use native.Mathlib.Omega.{arith}
use lib.IntN.{ℤ, ◌+ℤ◌}
use mir.Syntax.{w32, w64}
use mir.Facts.{to_z-of_z}
use mir.Val.{SFits, to_z, of_z}
use Rattle.whole.specs.Floor.{floor_div}
use Rattle.whole.proofs.Linear.{ι_split, lin, size, widen}
use Rattle.whole.proofs.Floored.{whole}
use Rattle.whole.proofs.Run.{Ex, wide, ◌⊕◌, ◌⊖◌, value, bits_of, Run, gives}

-- a number of 32 bits fits 64
pub cast : {z : ℤ} → SFits w32 z → SFits w32 z × SFits w64 z
cast f = (f, widen f)

module _ {a b : ℤ} (f : SFits w32 a) (g : SFits w32 b) where
  pub sum : Run w64 (wide a ⊕ wide b)
  sum = record { fit = (cast f, cast g, rw (ι_split a, ι_split b) (simp lin (omega (arith, size a, size b)))) }

  pub less : Run w64 (wide a ⊖ wide b)
  less = record { fit = (cast f, cast g, rw (ι_split a, ι_split b) (simp lin (omega (arith, size a, size b)))) }

  pub mean_fits : SFits w32 (floor_div (a +ℤ b) 2)
  mean_fits = rw (ι_split a, ι_split b) (simp whole (omega (arith, size a, size b)))

-- the floor of what the machine reads back is the floor of the expression's value
pub floored : {e : Ex} {z : ℤ} (d : ℕ) → Run w64 e → z ≡ floor_div (to_z w64 (bits_of w64 e)) d → z ≡ floor_div (value e) d
floored d run h = h ∙ ap (λ (k : ℤ). floor_div k d) (gives run)

-- the expression cast to `i32`
pub asks32 : {e : Ex} → Run w64 e → SFits w32 (value e) → SFits w32 (to_z w64 (bits_of w64 e))
asks32 s f = subst (SFits w32) (sym (gives s)) f

pub gives32 : {e : Ex} → Run w64 e → SFits w32 (value e) → to_z w32 (of_z w32 (to_z w64 (bits_of w64 e))) ≡ value e
gives32 s f = to_z-of_z (asks32 s f) ∙ gives s
