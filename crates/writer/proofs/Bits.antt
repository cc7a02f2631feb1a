-- Bits in bytes: digits behind the bits of a buffer. Assumes nothing.
use mathlib.Core.Path.{◌≡◌, refl, sym, ap, ◌∙◌}
use mathlib.Core.List.{List, [], ◌++◌, append_assoc, append-nil}
use Prim.Native.Nat.{ℕ, suc, ◌+◌, ◌*◌, ◌-◌, ◌/◌, ◌%◌, ◌^◌, ◌<◌, ◌≤◌}
use native.Mathlib.Omega.{arith}
use lib.ListN.{length, get_or, drop, set, length-set, length-append, length-drop, get_or-append}
use lib.Seq.{get_or-set_same, get_or-set_other, get_or-drop, get_or-append-add, drop-append-le}
use Rattle.line.proofs.Cells.{by_lt}
use Rattle.bitplane.specs.Bits.{bit_of, bit_at}
use Rattle.bitplane.proofs.Bytes.{Binary}
use Rattle.writer.specs.Written.{Written, Appends, extended, Digits, Fits, Puts}
use Rattle.writer.proofs.Digits.{filled_digit, byte_bit, front_digits}

pub written_none : (o : List ℕ) → Written [] o o
written_none o = record { len = refl; bit = λ k h. absurd (omega arith); rest = λ j h. refl }

pub appends_both : {a b x y z : List ℕ} (p q : ℕ) → p + length a ≡ q → Appends a p x y → Appends b q y z → Appends (a ++ b) p x z
appends_both {a} {b} p q e f g l o n w = rw (← append_assoc l a b) (g (l ++ a) o (length-append l a ∙ omega arith) (f l o n w))

pub appends_none : {x : List ℕ} (p : ℕ) → Appends [] p x x
appends_none p l o n w = rw append-nil w

-- ---- the first j of the five bytes of a window x, stored from byte k on
pub record Stored (m : List ℕ) (k x j : ℕ) (now : List ℕ) : Type 0 where
  pub len : length now ≡ length m
  pub under : (i : ℕ) → i < k → get_or now i 0 ≡ get_or m i 0
  pub byte : (i : ℕ) → i < j → get_or now (k + i) 0 ≡ x / 2 ^ (32 - 8 * i) % 256
  pub over : (i : ℕ) → k + j ≤ i → get_or now i 0 ≡ get_or m i 0

pub stored_none : (m : List ℕ) (k x : ℕ) → Stored m k x 0 m
stored_none m k x = record { len = refl; under = λ i h. refl; byte = λ i h. absurd (omega arith); over = λ i h. refl }

pub stored_more : {m now : List ℕ} {k x : ℕ} (j a v : ℕ) → Stored m k x j now → k + j ≡ a → a < length m → v ≡ x / 2 ^ (32 - 8 * j) % 256 → Stored m k x (suc j) (set now a v)
stored_more {m} {now} {k} {x} j a v s e h d = record {
  len = length-set now a v ∙ s.len;
  under = λ i g. get_or-set_other now a i v 0 (omega arith) ∙ s.under i g;
  byte = λ i g. by_lt i j
      (λ lt. get_or-set_other now a (k + i) v 0 (omega arith) ∙ s.byte i lt)
      (λ ge. let f : i ≡ j = omega arith in rw (f, e) (get_or-set_same now a v 0 (omega (arith, s.len)) ∙ d));
  over = λ i g. get_or-set_other now a i v 0 (omega arith) ∙ s.over i (omega arith);
}

-- the first, the first two, and so on
module _ {m : List ℕ} {k x a : ℕ} (first : a ≡ x / 2 ^ 32 % 256) where
  pub stored_1 : k < length m → Stored m k x 1 (set m k a)
  stored_1 h = stored_more 0 k a (stored_none m k x) (omega arith) h first

  module _ {b : ℕ} (second : b ≡ x / 2 ^ 24 % 256) where
    pub stored_2 : k + 1 < length m → Stored m k x 2 (set (set m k a) (k + 1) b)
    stored_2 h = stored_more 1 (k + 1) b (stored_1 (omega arith)) refl h second

    module _ {d : ℕ} (third : d ≡ x / 2 ^ 16 % 256) where
      pub stored_3 : k + 2 < length m → Stored m k x 3 (set (set (set m k a) (k + 1) b) (k + 2) d)
      stored_3 h = stored_more 2 (k + 2) d (stored_2 (omega arith)) refl h third

      module _ {e : ℕ} (fourth : e ≡ x / 2 ^ 8 % 256) where
        pub stored_4 : k + 3 < length m → Stored m k x 4 (set (set (set (set m k a) (k + 1) b) (k + 2) d) (k + 3) e)
        stored_4 h = stored_more 3 (k + 3) e (stored_3 (omega arith)) refl h fourth

        pub stored_5 : {f : ℕ} → f ≡ x / 2 ^ 0 % 256 → k + 4 < length m → Stored m k x 5 (set (set (set (set (set m k a) (k + 1) b) (k + 2) d) (k + 3) e) (k + 4) f)
        stored_5 {f} fifth h = stored_more 4 (k + 4) f (stored_4 (omega arith)) refl h fifth

-- ---- what `put` stores
module _ (m : List ℕ) (p number n x : ℕ) (fits : Fits number n p m) (small : get_or m (p / 8) 0 < 256)
    (opened : x ≡ (get_or m (p / 8) 0 / 2 ^ (8 - p % 8) * 2 ^ n + number) * 2 ^ (40 - (p % 8 + n))) where
  module _ (new : List ℕ) (binary : Binary new) (d : Digits new number n) (l o : List ℕ) (place : length l ≡ p) (w : Written l o m) where
    -- the bits that share a byte with the first of the new ones
    abbrev shared : List ℕ
    shared = drop (8 * (p / 8)) l

    shared_many : length shared ≡ p % 8
    shared_many = length-drop (8 * (p / 8)) l ∙ omega arith

    shared_bit : (k : ℕ) → k < length shared → get_or shared k 0 ≡ bit_of (7 - k) (get_or m (p / 8) 0)
    unfolding bit_at
    shared_bit k h =
        let a : (8 * (p / 8) + k) / 8 ≡ p / 8 = omega (arith, shared_many) in let b : (8 * (p / 8) + k) % 8 ≡ k = omega (arith, shared_many) in
        get_or-drop (8 * (p / 8)) l k 0 ∙ sym (rw (a, b) at (w.bit (8 * (p / 8) + k) (omega (arith, shared_many))))

    window_binary : Binary (shared ++ new)
    window_binary k = by_lt k (length shared)
        (λ lt. omega (arith, get_or-append shared new 0 k lt, shared_bit k lt))
        (λ ge. let e : length shared + (k - length shared) ≡ k = omega arith in omega (arith, (rw e at (get_or-append-add shared new (k - length shared) 0)), binary (k - length shared)))

    window_digits : x ≡ extended 0 (shared ++ new) * 2 ^ (40 - (p % 8 + n))
    window_digits = opened ∙ ap (λ k. k * 2 ^ (40 - (p % 8 + n))) (rw (shared_many, ← d.many, ← d.value) at (front_digits (get_or m (p / 8) 0) shared new small (omega (arith, shared_many)) shared_bit))

    window_bit : (i e : ℕ) → i < 5 → e < 8 → bit_of e (x / 2 ^ (32 - 8 * i) % 256) ≡ get_or (l ++ new) (8 * (p / 8) + (8 * i + (7 - e))) 0
    window_bit i e h g =
        rw window_digits (byte_bit (extended 0 (shared ++ new) * 2 ^ (40 - (p % 8 + n))) (32 - 8 * i) e g
        ∙ filled_digit (shared ++ new) (40 - (p % 8 + n)) (8 * i + (7 - e)) (32 - 8 * i + e) window_binary (omega (arith, length-append shared new, shared_many, d.many, fits.most)))
        ∙ ap (λ s. get_or s (8 * i + (7 - e)) 0) (sym (drop-append-le (8 * (p / 8)) l new (omega arith))) ∙ get_or-drop (8 * (p / 8)) (l ++ new) (8 * i + (7 - e)) 0

    put_written : {now : List ℕ} (j : ℕ) → Stored m (p / 8) x j now → p % 8 + n ≤ 8 * j → 8 * j < p % 8 + n + 8 → Written (l ++ new) o now
    unfolding bit_at
    put_written {now} j s most least =
        let g : length (l ++ new) ≡ p + n = length-append l new ∙ omega (arith, d.many) in
        record {
          len = s.len ∙ w.len;
          bit = λ k h. by_lt (k / 8) (p / 8)
              (λ lt. rw (s.under (k / 8) lt) (w.bit k (omega arith)) ∙ sym (get_or-append l new 0 k (omega arith)))
              (λ ge. let i = k / 8 - p / 8 in
              let e : p / 8 + i ≡ k / 8 = omega arith in
              let f : 8 * (p / 8) + (8 * i + (7 - (7 - k % 8))) ≡ k = omega arith in
              rw (← e, s.byte i (omega (arith, fits.most))) (rw f at (window_bit i (7 - k % 8) (omega (arith, fits.most)) (omega arith))));
          rest = λ i h. s.over i (omega arith) ∙ w.rest i (omega arith);
        }

  pub put_done : {now : List ℕ} (j : ℕ) → Stored m (p / 8) x j now → p % 8 + n ≤ 8 * j → 8 * j < p % 8 + n + 8 → Puts number n p m now
  put_done j s most least new binary d l o place w = put_written new binary d l o place w j s most least
