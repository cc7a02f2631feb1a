-- Flags: how they are gathered in a word, and what a flag of 0 says to a pass. Assumes nothing.
use mathlib.Core.Path.{◌≡◌, refl, sym, ap, ◌∙◌}
use mathlib.Core.Bool.{Bool, true, false, not}
use mathlib.Core.List.{List, ◌++◌}
use Prim.Native.Nat.{ℕ, zero, suc, ◌+◌, ◌*◌, ◌-◌, ◌/◌, ◌%◌, ◌^◌, ◌<◌, ◌≤◌}
use native.Mathlib.Omega.{arith}
use native.Mathlib.Nat.{pow-succ', div-div-eq-div-mul, div-one, two-pow-succ, zero-div}
use native.Mathlib.Numerals.{add-one}
use borrow.Author.Tests.{ne_eqb}
use lib.Dec.{eqb}
use lib.ListN.{length, get_or, get_or-append, set, take}
use lib.Pow.{pow-lt}
use lib.Seq.{get_or-set_same, get_or-set_other, get_or-take}
use Rattle.line.specs.Cells.{choose, behind, count}
use Rattle.line.proofs.Cells.{by_lt, by_bool}
use Rattle.bitplane.specs.Bits.{bit_of}
use Rattle.bitplane.proofs.Empty.{count_none}
use Rattle.members.specs.Index.{Flagged, Held, Indexed}

one_zero : {b : Bool} → b ≡ true → b ≡ false → ◌≡◌ {A = ℕ} 1 0
one_zero e f = sym (ap (λ (b : Bool). choose {A = ℕ} b 1 0) e) ∙ ap (λ (b : Bool). choose {A = ℕ} b 1 0) f

-- ---- one flag
pub flag_some : {on : ℕ → Bool} {i : ℕ} → Flagged on i 1
flag_some = record { bit = omega arith; each = λ k h o. refl }

pub flag_test : {on : ℕ → Bool} {i : ℕ} (n : ℕ) → n ≡ count 64 (behind i on) → Flagged on i (choose (not (eqb n 0)) 1 0)
flag_test {on} {i} zero e = record { bit = omega arith; each = λ k h o. sym (one_zero o (count_none 64 (behind i on) (sym e) k h)) }
flag_test (suc n) e = rw (ne_eqb (suc n) 0 (λ z. omega arith)) flag_some

-- ---- a word: j flags so far
pub record Flags (on : ℕ → Bool) (i j word : ℕ) : Type 0 where
  pub small : word < 2 ^ j
  pub each : (k : ℕ) → k < 64 * j → on (i + k) ≡ true → bit_of (j - 1 - k / 64) word ≡ 1

pub flags_none : {on : ℕ → Bool} {i : ℕ} → Flags on i 0 0
flags_none = record { small = omega arith; each = λ k h o. absurd (omega arith) }

-- the next flag fits behind those of a word
flags_fit : {on : ℕ → Bool} {i j word : ℕ} → j < 64 → Flags on i j word → word < 2 ^ 63
flags_fit {j = j} h f = by_lt j 63 (λ lt. omega (arith, f.small, pow-lt lt)) (λ ge. let e : j ≡ 63 = omega arith in rw e at f.small)

above : (w r e : ℕ) → r < 2 → bit_of (suc e) (w * 2 + r) ≡ bit_of e w
above w r e r< = let h : (w * 2 + r) / 2 ≡ w = omega arith in rw (pow-succ' 2 e, ← div-div-eq-div-mul (w * 2 + r) 2 (2 ^ e), h)

pub flags_more : {on : ℕ → Bool} {i j word r : ℕ} → j < 64 → Flags on i j word → Flagged on (i + 64 * j) r → Flags on i (j + 1) (word * 2 ^ 1 % 2 ^ 64 + r)
flags_more {on} {i} {j} {word} {r} h f g =
    let s = flags_fit h f in let d : word * 2 ^ 1 % 2 ^ 64 ≡ word * 2 = omega arith in
    rw (d, add-one j) (record {
      small = omega (arith, f.small, g.bit, two-pow-succ j);
      each = λ k k< o. by_lt k (64 * j)
          (λ lt. let e : suc j - 1 - k / 64 ≡ suc (j - 1 - k / 64) = omega arith in rw e (above word r (j - 1 - k / 64) g.bit ∙ f.each k lt o))
          (λ ge. let e : suc j - 1 - k / 64 ≡ 0 = omega arith in
          let a : i + k ≡ i + 64 * j + (k - 64 * j) = omega arith in
          let b : r ≡ 1 = g.each (k - 64 * j) (omega arith) (sym (ap on a) ∙ o) in
          rw (e, div-one) (omega arith));
    })

pub flags_all : {on : ℕ → Bool} {i j word : ℕ} → 64 ≤ j → j ≤ 64 → Flags on i j word → Held on i word
flags_all {j = j} g h f = let e : j ≡ 64 = omega arith in record { each = λ k k< o. let d : j - 1 - k / 64 ≡ 63 - k / 64 = omega arith in rw d at (f.each k (omega arith) o) }

-- ---- the words: those below k are found; past the mask no coefficient is of the class
pub record Words (on : ℕ → Bool) (l : List ℕ) (k : ℕ) : Type 0 where
  pub each : (j : ℕ) → j < k → Held on (4096 * j) (get_or l j 0)

pub words_none : {on : ℕ → Bool} {l : List ℕ} → Words on l 0
words_none = record { each = λ j h. absurd (omega arith) }

pub words_more : {on : ℕ → Bool} {l : List ℕ} {k word : ℕ} → k < length l → Words on l k → Held on (4096 * k) word → Words on (set l k word) (k + 1)
words_more {on} {l} {k} {word} h w x = record {
  each = λ j j<. by_lt j k
      (λ lt. rw (get_or-set_other l k j word 0 (omega arith)) (w.each j lt))
      (λ ge. let e : j ≡ k = omega arith in rw (e, get_or-set_same l k word 0 h) x);
}

-- the first words of a buffer
pub words_front : {on : ℕ → Bool} {l : List ℕ} {k : ℕ} (m : List ℕ) → k ≤ length l → Words on l k → Words on (l ++ m) k
words_front {on} {l} m h w = record { each = λ j j<. rw (get_or-append l m 0 j (omega arith)) (w.each j j<) }

pub words_all : {on : ℕ → Bool} {l : List ℕ} {n k : ℕ} → ((i : ℕ) → n ≤ i → on i ≡ false) → n ≤ 4096 * k → Words on l k → Indexed on l
words_all {on} {l} {n} {k} past h w = record {
  each = λ j. by_lt j k (w.each j) (λ ge. record { each = λ m m< o. absurd (omega (arith, one_zero o (past (4096 * j + m) (omega arith)))) });
}

-- a word among the first w
pub front_held : {on : ℕ → Bool} {l : List ℕ} (w k : ℕ) → k < w → Indexed on l → Held on (4096 * k) (get_or (take w l) k 0)
front_held {l = l} w k h x = rw (get_or-take w l k 0 h) (x.each k)

-- ---- what a pass may leave out
module _ {on : ℕ → Bool} {i word : ℕ} (held : Held on i word) where
  off : (k : ℕ) → k < 4096 → bit_of (63 - k / 64) word ≡ 0 → on (i + k) ≡ false
  off k h z = by_bool (on (i + k)) (λ o. absurd (omega (arith, held.each k h o))) (λ f. f)

  -- a word of 0, and a flag of 0
  pub word_off : word ≡ 0 → (k : ℕ) → k < 4096 → on (i + k) ≡ false
  word_off z k h = off k h (rw (z, zero-div (2 ^ (63 - k / 64))))

  pub flag_off : (j : ℕ) → j < 64 → bit_of (63 - j) word ≡ 0 → (k : ℕ) → k < 64 → on (i + 64 * j + k) ≡ false
  flag_off j j< z k h =
      let e : i + 64 * j + k ≡ i + (64 * j + k) = omega arith in let d : (64 * j + k) / 64 ≡ j = omega arith in
      rw e (off (64 * j + k) (omega arith) (rw d z))
