-- The coefficients that are read from T planes are below 2^T, whatever the bits. Assumes nothing.
use mathlib.Core.Path.{◌≡◌, refl, ap}
use mathlib.Core.Bool.{Bool, true, false}
use Prim.Native.Nat.{ℕ, zero, suc, ◌+◌, ◌*◌, ◌^◌, ◌<◌, ◌≤◌}
use native.Mathlib.Omega.{arith}
use native.Mathlib.Nat.{two-pow-succ}
use lib.Dec.{ltb}
use lib.IntN.{ℤ, pos, negsuc, nat_abs}
use Rattle.line.proofs.Cells.{by_bool}
use Rattle.bitplane.specs.Bits.{signed}
use Rattle.bitplane.specs.Body.{Pass, one_plane, planes}
use Rattle.bitplane.specs.Reader.{Received, Reading, grown, place, pass, read, start}
use Rattle.bitplane.proofs.Empty.{read_other}

-- ---- one plane
signed_size : (s m : ℕ) → nat_abs (signed s m) ≡ m
unfolding signed
signed_size zero m = refl
signed_size (suc s) zero = refl
signed_size (suc s) (suc m) = refl

at_most : (b k : ℕ) → b < 2 → b * k ≤ k
at_most zero k h = omega arith
at_most (suc zero) k h = omega arith
at_most (suc (suc b)) k h = absurd (omega arith)

grown_size : (t : ℕ) (a : Bool) (v : ℤ) (b s : ℕ) → b < 2 → nat_abs (grown t a v b s) ≤ nat_abs v + 2 ^ t
unfolding grown
grown_size t true (pos zero) b s h = rw signed_size (omega (arith, at_most b (2 ^ t) h))
grown_size t false (pos zero) b s h = omega arith
grown_size t a (pos (suc m)) b s h = omega (arith, at_most b (2 ^ t) h)
grown_size t a (negsuc m) b s h = omega (arith, at_most b (2 ^ t) h)

-- ---- the bits are 0 and 1
module _ (h : Received) (binary : (p : ℕ) → h.bit p < 2) (n : ℕ) where
  pub pass_size : (x : Pass) (r : Reading) (i : ℕ) → nat_abs ((pass h n x r).value i) ≤ nat_abs (r.value i) + 2 ^ x.plane
  pass_size x r i = let p = place h x r i in
      by_bool (x.on i) (λ o. rw o (grown_size x.plane (ltb (suc p) h.size) (r.value i) (h.bit p) (h.bit (suc p)) (binary p))) (λ o. rw o (omega arith))

  planes_size : (on : ℕ → Bool) (T : ℕ) (r : Reading) (i : ℕ) → nat_abs ((read h n (planes on T) r).value i) < nat_abs (r.value i) + 2 ^ T
  unfolding read planes
  planes_size on zero r i = omega arith
  planes_size on (suc t) r i = omega (arith, two-pow-succ t, pass_size (one_plane on t) r i, planes_size on t (pass h n (one_plane on t) r) i)

  -- a body: the planes of one class, and then those of another
  pub read_small : (marked unmarked : ℕ → Bool) → ((i : ℕ) → marked i ≡ true → unmarked i ≡ false) → (T i : ℕ)
      → nat_abs ((read h n (planes unmarked T) (read h n (planes marked T) start)).value i) < 2 ^ T
  read_small marked unmarked apart T i = let r = read h n (planes marked T) start in
      by_bool (marked i)
      (λ o. omega (arith, ap nat_abs (read_other h n unmarked T r i (apart i o)), planes_size marked T start i))
      (λ o. omega (arith, ap nat_abs (read_other h n marked T start i o), planes_size unmarked T r i))
