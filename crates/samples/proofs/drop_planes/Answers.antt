-- `samples::drop_planes` drops the lowest q planes of a number. Assumes nothing.
use mathlib.Core.Path.{◌≡◌, ◌∙◌}
use Prim.Native.Nat.{ℕ, ◌<◌, ◌≤◌, ◌^◌}
use native.Mathlib.Nat.{div-mul-le_self}
use native.Mathlib.Omega.{arith}
use lib.IntN.{ℤ, pos, ◌-ℤ◌, nat_abs}
use mir.Syntax.{w32}
use mir.Val.{SFits, to_z}
use mir.Facts.{to_z-of_z, to_z_pos}
use Rattle.whole.specs.Within.{up, dn, Within}
use Rattle.whole.proofs.Linear.{ι_split, lin, lt-true, lt_false}
use Rattle.samples.proofs.Planes.{kept, dropped_above, dropped_below}
use Rattle.samples.proofs.drop_planes.Goals as goal

minus : (x : ℤ) → Within 4194304 x → SFits w32 (pos 0 -ℤ x)
minus x h = rw (ι_split x) (simp lin (omega arith))

-- what is kept of a magnitude
module _ (q : ℕ) (z : ℤ) (r : ℕ) (b : nat_abs z < 2 ^ 22) (e : r ≡ kept q z) where
  small : r < 2 ^ 22
  small = omega (arith, div-mul-le_self (nat_abs z) (2 ^ q))

  kept_read : to_z w32 r ≡ pos r
  kept_read = to_z_pos w32 (omega (arith, small))

  minus_fits : SFits w32 (pos 0 -ℤ pos r)
  minus_fits = minus (pos r) (omega (arith, small))

pub returns-then-z-lt0 : goal.returns-then-z-lt0
returns-then-z-lt0 c = let a = c.args in
    let below : up a.z < dn a.z = let t = lt-true a.z (pos 0) (simp (to_z-of_z c.ranges.z) at c.if-z-lt0.true) in omega arith in
    let one : c.keep-m.result ≡ kept a.q a.z = c.keep-m.ensures ∙ rw (c.unsigned_abs.ensures.value, to_z-of_z c.ranges.z) in
    rw (kept_read _ a.z _ c.requires.1 one, to_z-of_z (minus_fits _ a.z _ c.requires.1 one), one) (dropped_below a.q a.z below)

pub returns-else-z-lt0 : goal.returns-else-z-lt0
returns-else-z-lt0 c = let a = c.args in
    let above : dn a.z ≤ up a.z = let t = lt_false a.z (pos 0) (simp (to_z-of_z c.ranges.z) at c.if-z-lt0.false) in omega arith in
    let one : c.keep-m.result ≡ kept a.q a.z = c.keep-m.ensures ∙ rw (c.unsigned_abs.ensures.value, to_z-of_z c.ranges.z) in
    rw (kept_read _ a.z _ c.requires.1 one, one) (dropped_above a.q a.z above)
