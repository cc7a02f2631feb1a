-- The header that is read, and its rectangles. Assumes nothing.
use mathlib.Core.Path.{◌≡◌, sym, ap, ◌∙◌}
use mathlib.Core.List.{List}
use Prim.Native.Nat.{ℕ, ◌*◌, ◌/◌, ◌≤◌}
use native.Mathlib.Omega.{arith}
use lib.ListN.{length, get_or, take}
use lib.Seq.{length-take-le}
use Rattle.line.proofs.Lists.{listed-length}
use Rattle.refusal.specs.Tests.{bad_rectangles}
use Rattle.header.specs.Header.{number}
use Rattle.header.specs.Fields.{numbers, shot_of}
use Rattle.header_reader.specs.declared.Header.{Header}
use Rattle.header_reader.specs.Answers.{header_for}
use Rattle.header_reader.specs.Inner.{rectangle_array}
use Rattle.header_reader.proofs.Arrays.{numbers-length, array_front}

-- ---- the header and its rectangles
module _ (l : List ℕ) {c : ℕ} {a : List ℕ} (count : c ≡ number 1 l 12) (array : a ≡ rectangle_array l c) where
  pub header_is : {k J D W H T : ℕ} → k ≡ (shot_of l).kernel → J ≡ (shot_of l).levels → D ≡ (shot_of l).depth → W ≡ (shot_of l).width → H ≡ (shot_of l).height → T ≡ (shot_of l).planes
      → ◌≡◌ {A = Header} (record { kernel = k; levels = J; depth = D; width = W; height = H; planes = T; count = c; rectangles = a }) (header_for (shot_of l))
  header_is {k} {J} {D} {W} {H} {T} p q r s t u =
      let n : c ≡ length (shot_of l).rectangles / 4 = omega (arith, numbers-length (4 * number 1 l 12) l 14) in
      let e : a ≡ rectangle_array l (number 1 l 12) = array ∙ ap (rectangle_array l) count in
      λ i. record { kernel = p i; levels = q i; depth = r i; width = s i; height = t i; planes = u i; count = n i; rectangles = e i }

  module _ {n : ℕ} (few : c ≤ 32) (four : n ≡ 4 * c) where
    pub front_length : n ≡ length (take n a)
    front_length = sym (length-take-le n a (rw array (omega (arith, listed-length 128 (λ i. get_or (numbers (4 * c) l 14) i 0)))))

    pub rectangles_tested : {W H : ℕ} → W ≡ (shot_of l).width → H ≡ (shot_of l).height → bad_rectangles W H (take n a) ≡ bad_rectangles (shot_of l).width (shot_of l).height (shot_of l).rectangles
    rectangles_tested s t = rw (s, t, array, ← count, array_front l c n few four)
