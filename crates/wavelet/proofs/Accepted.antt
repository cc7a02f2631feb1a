-- The plane of an accepted picture is accepted: each of its magnitudes is below 2^22. Assumes nothing.
use mathlib.Core.Path.{◌≡◌}
use mathlib.Core.Bool.{true}
use mathlib.Core.List.{List}
use Prim.Native.Nat.{ℕ, ◌*◌, ◌-◌, ◌/◌, ◌%◌, ◌^◌, ◌<◌}
use native.Mathlib.Nat.{mul_comm, mod-lt, div-lt_iff_lt-mul}
use native.Mathlib.Omega.{arith}
use borrow.Author.Tests.{eqb-true, not-false}
use lib.IntN.{ℤ, pos, negsuc, nat_abs}
use lib.ListN.{length}
use lib.Pow.{pow_mono}
use Rattle.whole.specs.Within.{Within}
use Rattle.kernel.specs.Kernels.{the_kernel}
use Rattle.plane.proofs.Bounds.{transform_accepted}
use Rattle.refusal.specs.Numbers.{accepted}
use Rattle.refusal.proofs.Ordered.{passes_test}
use Rattle.refusal.proofs.Passed.{inside, sides, samples}
use Rattle.wavelet.specs.Wavelet.{samples_of, coefficient, transform_tests}
use Rattle.wavelet.proofs.Entries.{samples_below}

within_abs : (z : ℤ) → Within (2 ^ 22 - 1) z → nat_abs z < 2 ^ 22
within_abs (pos a) p = omega (arith, p.hi)
within_abs (negsuc a) p = omega (arith, p.lo)

pub plane_accepted : (k J D W H : ℕ) (s : List ℕ) (n : ℕ) → accepted (transform_tests k J D W H s n) ≡ true → (i : ℕ) → i < W * H → nat_abs (coefficient k J W H s i) < 2 ^ 22
plane_accepted k J D W H s n ok i h =
    let t₁ = passes_test _ 0 _ ok in
    let t₂ = passes_test _ 1 _ t₁.1 in
    let t₃ = passes_test _ 2 _ t₂.1 in
    let t₄ = passes_test _ 3 _ t₃.1 in
    let t₅ = passes_test _ 4 _ t₄.1 in
    let t₆ = passes_test _ 4 _ t₅.1 in
    let t₇ = passes_test _ 5 _ t₆.1 in
    let m = sides W H t₄.0 in
    let full : length s ≡ W * H = eqb-true (length s) (W * H) (not-false _ t₅.0) in
    let all = samples_below W H D s full (samples D s t₇.0) (pow_mono {j = 10} (inside 1 10 D t₃.0).1) in
    let some = m.width.0 in
    within_abs (coefficient k J W H s i)
    ((transform_accepted (the_kernel k) J W H (samples_of W s) (inside 1 5 J t₂.0).1 all).each (i / W) (i % W)
    ((div-lt_iff_lt-mul some).1 (omega (arith, mul_comm W H))) (mod-lt i some))
