-- Some coefficients at once: what they take, and what they become. Assumes nothing.
use mathlib.Core.Path.{◌≡◌, refl, ap, ◌∙◌}
use mathlib.Core.Bool.{Bool, true, false}
use mathlib.Core.List.{List}
use Prim.Native.Nat.{ℕ, zero, suc, ◌+◌, ◌*◌, ◌/◌, ◌%◌, ◌^◌, ◌<◌, ◌≤◌}
use native.Mathlib.Numerals.{add-one}
use native.Mathlib.Omega.{arith}
use lib.Dec.{eqb}
use lib.IntN.{ℤ, pos, nat_abs}
use lib.ListN.{length, get_or, set}
use lib.Seq.{get_or-set_same, get_or-set_other}
use borrow.Author.Count.{below_more}
use Rattle.line.specs.Cells.{choose, cell}
use Rattle.line.proofs.Cells.{by_bool}
use Rattle.bitplane.specs.Bits.{gathered}
use Rattle.bitplane.specs.Reader.{Received, Reading, used, grown, place}
use Rattle.bitplane.proofs.Past.{used_most}
use Rattle.coefficient.specs.Growth.{Takes, Small, Grown}

-- ---- what they become
module _ {t i : ℕ} {pairs : List ℕ} {l : List ℤ} where
  pub grown_start : Grown t i 0 pairs l l
  grown_start = record { below = λ k h. refl; each = λ k h. absurd (omega arith); rest = λ k h. refl }

  pub grown_more : {l' : List ℤ} {v w : ℤ} (k : ℕ) → i + k < length l' → v ≡ cell l' (i + k) → w ≡ grown t true v (get_or pairs k 0 / 2) (get_or pairs k 0 % 2) → Grown t i k pairs l l'
      → Grown t i (k + 1) pairs l (set l' (i + k) w)
  grown_more {l'} {v} {w} k h d e g = record {
    below = λ j j<. get_or-set_other l' (i + k) j w (pos 0) (omega arith) ∙ g.below j j<;
    each = below_more _ k
        (λ j j<. get_or-set_other l' (i + k) (i + j) w (pos 0) (omega arith) ∙ g.each j j<)
        (get_or-set_same l' (i + k) w (pos 0) h ∙ e ∙ ap (λ z. grown t true z (get_or pairs k 0 / 2) (get_or pairs k 0 % 2)) (d ∙ g.rest (i + k) (omega arith)));
    rest = λ j j>. get_or-set_other l' (i + k) j w (pos 0) (omega arith) ∙ g.rest j (omega arith);
  }

  pub small_at : {l' : List ℤ} {v : ℤ} (k : ℕ) → k < 16 → v ≡ cell l' (i + k) → Grown t i k pairs l l' → Small t l i pairs → 2 ≤ get_or pairs k 0 → nat_abs v + 2 ^ t ≤ 1073741824
  small_at k h d g s y = rw (d, g.rest (i + k) (omega arith)) (s.spare k h y)

-- ---- what they take
pub gathered_one : (b : ℕ → ℕ) (p : ℕ) → gathered b p 1 ≡ b p
unfolding gathered
gathered_one b p = let e : p + 0 ≡ p = omega arith in rw e (omega arith)

member_pair : (c : Bool) (m two : ℕ) → m ≡ choose c 1 0 → two * m ≡ choose c two 0
member_pair true m two e = rw e (omega arith)
member_pair false m two e = rw e (omega arith)

member_width : (c : Bool) (m u : ℕ) → m ≡ choose c 1 0 → choose (eqb m 1) u 0 ≡ choose c u 0
member_width true m u e = rw e
member_width false m u e = rw e

pub pair_small : (two m : ℕ) → two < 4 → m < 2 → two * m < 4
pair_small two zero h g = omega arith
pair_small two (suc zero) h g = omega arith
pair_small two (suc (suc m)) h g = absurd (omega arith)

pub width_few : {w b : ℕ} (m : ℕ) (v : ℤ) → w ≡ choose (eqb m 1) (used v b) 0 → b < 2 → w ≤ 2
width_few {b = b} m v e h = rw e (by_bool (eqb m 1) (λ y. rw y (used_most v b h)) (λ n. rw n (omega arith)))

module _ {h : Received} {on : ℕ → Bool} {r : Reading} where
  pub takes_start : {pairs : List ℕ} {q : ℕ} → q ≡ r.at → Takes h on r 0 pairs q
  unfolding place
  takes_start e = record { pair = λ k h. absurd (omega arith); at = e }

  -- one coefficient more; m is 1 for a member
  pub takes_more : {pairs : List ℕ} {q m two b w : ℕ} {v : ℤ} (k : ℕ) → k < length pairs → v ≡ r.value k → m ≡ choose (on k) 1 0 → two ≡ gathered h.bit q 2 → b ≡ h.bit q → w ≡ choose (eqb m 1) (used v b) 0
      → Takes h on r k pairs q → Takes h on r (k + 1) (set pairs k (two * m)) (q + w)
  unfolding place
  takes_more {pairs} {q} {m} {two} {b} {w} {v} k k< d e f g y s = record {
    pair = below_more _ k
        (λ j j<. get_or-set_other pairs k j (two * m) 0 (omega arith) ∙ s.pair j j<)
        (get_or-set_same pairs k (two * m) 0 k< ∙ member_pair (on k) m two e ∙ rw (f, s.at));
    at = rw (add-one k, y, member_width (on k) m (used v b) e, d, g, s.at);
  }
