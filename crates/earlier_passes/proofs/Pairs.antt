-- A loop that turns the pairs of two runs into other pairs, one after the other.
--
--   Pairing f g n a b a' b' k == so far the first k of n pairs are what f and g say of them
--
-- Assumes nothing.
use mathlib.Core.Path.{◌≡◌, ◌∙◌}
use mathlib.Core.List.{List}
use Prim.Native.Nat.{ℕ, ◌+◌, ◌<◌, ◌≤◌, ◌^◌}
use native.Mathlib.Omega.{arith}
use lib.IntN.{ℤ}
use lib.ListN.{length, set}
use lib.Signed.{mag}
use mir.Syntax.{w32}
use mir.Val.{SFits, to_z, of_z, hbits}
use mir.Facts.{to_z-of_z}
use borrow.Author.Rules.{sfits_of}
use Rattle.line.specs.Cells.{cell}
use Rattle.earlier_passes.specs.Written.{Written}
use Rattle.earlier_passes.proofs.Writes.{written_none, written_more, written_all}

pub record Pairing (f g : ℤ → ℤ → ℤ) (n : ℕ) (a b a' b' : List ℤ) (k : ℕ) : Type 0 where
  pub room : (n ≤ length a) × (n ≤ length b)
  pub count : k ≤ n
  pub first : Written (λ i. f (cell a i) (cell b i)) 0 k a a'
  pub second : Written (λ i. g (cell a i) (cell b i)) 0 k b b'

pub pairing_none : {f g : ℤ → ℤ → ℤ} {n : ℕ} {a b : List ℤ} → (n ≤ length a) × (n ≤ length b) → Pairing f g n a b a b 0
pairing_none h = record { room = h; count = omega arith; first = written_none; second = written_none }

pub pairing_all : {f g : ℤ → ℤ → ℤ} {n k : ℕ} {a b a' b' : List ℤ} → Pairing f g n a b a' b' k → n ≤ k
    → Written (λ i. f (cell a i) (cell b i)) 0 n a a' × Written (λ i. g (cell a i) (cell b i)) 0 n b b'
pairing_all {n = n} m h = (written_all n m.first (omega (arith, m.count)), written_all n m.second (omega (arith, m.count)))

-- a turn takes the next pair, each number of it read back from its bits
module _ {f g : ℤ → ℤ → ℤ} {n k : ℕ} {a b a' b' : List ℤ}
    (m : Pairing f g n a b a' b' k) (p : mag (cell a' k) < 2 ^ hbits w32) (q : mag (cell b' k) < 2 ^ hbits w32) where
  read : (h : ℤ → ℤ → ℤ) → h (to_z w32 (of_z w32 (cell a' k))) (to_z w32 (of_z w32 (cell b' k))) ≡ h (cell a k) (cell b k)
  read h = rw (to_z-of_z {w = w32} (sfits_of p), to_z-of_z {w = w32} (sfits_of q), m.first.above k (omega arith), m.second.above k (omega arith))

  pub pair_fits : (h : ℤ → ℤ → ℤ) → SFits w32 (h (cell a k) (cell b k)) → SFits w32 (h (to_z w32 (of_z w32 (cell a' k))) (to_z w32 (of_z w32 (cell b' k))))
  pair_fits h fit = rw (read h) fit

  pub pairing_more : {v w : ℤ} → k < n → mag v < 2 ^ hbits w32 → mag w < 2 ^ hbits w32
      → v ≡ f (to_z w32 (of_z w32 (cell a' k))) (to_z w32 (of_z w32 (cell b' k))) → w ≡ g (to_z w32 (of_z w32 (cell a' k))) (to_z w32 (of_z w32 (cell b' k)))
      → Pairing f g n a b (set a' k (to_z w32 (of_z w32 v))) (set b' k (to_z w32 (of_z w32 w))) (k + 1)
  pairing_more h fv fw ev ew = record {
    room = m.room;
    count = omega arith;
    first = written_more k m.first (omega arith) (omega (arith, m.room)) (to_z-of_z {w = w32} (sfits_of fv) ∙ ev ∙ read f);
    second = written_more k m.second (omega arith) (omega (arith, m.room)) (to_z-of_z {w = w32} (sfits_of fw) ∙ ew ∙ read g);
  }
