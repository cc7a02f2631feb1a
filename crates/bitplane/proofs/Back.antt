-- What was written is read back: the passes of any order, then the two parts of a body. Assumes nothing.
use mathlib.Core.Path.{◌≡◌, refl, sym, ap, ◌∙◌, subst}
use mathlib.Core.Bool.{Bool, true, false, not}
use mathlib.Core.List.{List, [], ◌∷◌, ◌++◌}
use Prim.Native.Nat.{ℕ, zero, suc, ◌+◌, ◌^◌, ◌<◌, ◌≤◌}
use native.Mathlib.Omega.{arith}
use native.Mathlib.Nat.{zero-mul, div-eq_of_lt, mul-one, div-one}
use lib.Dec.{leb}
use lib.IntN.{ℤ, pos, negsuc, nat_abs}
use lib.ListN.{length, length-append}
use borrow.Author.Tests.{le-leb}
use Rattle.line.specs.Cells.{choose}
use Rattle.line.proofs.Cells.{by_lt, by_bool, never}
use Rattle.bitplane.specs.Bits.{bytes, sign, signed, dropped}
use Rattle.bitplane.specs.Body.{Order, planes, pass_bits, body}
use Rattle.bitplane.specs.Reader.{Received, Reading, place, read, missing, start, Answer, answer}
use Rattle.bitplane.proofs.Passes.{Carries, carries_append, signed-zero, left_after, partly, reading_eq, Next, Upto, pass_back}

-- each coefficient's planes come one after the other, from L i − 1 down
unfoldable pub Ordered : ℕ → (ℕ → ℕ) → Order → Type 0
Ordered n L [] = Unit
Ordered n L (x ∷ xs) = Next x L × Upto n x × Ordered n (left_after x L) xs

unfoldable pub left_behind : (ℕ → ℕ) → Order → ℕ → ℕ
left_behind L [] = L
left_behind L (x ∷ xs) = left_behind (left_after x L) xs

module _ (h : Received) (Z : ℕ → ℤ) (n : ℕ) where
  pub read_back : (xs : Order) (L : ℕ → ℕ) (p : ℕ) → Ordered n L xs → Carries h.bit p (body xs Z n) → p + length (body xs Z n) ≤ h.size
      → (read h n xs (partly Z L p) ≡ partly Z (left_behind L xs) (p + length (body xs Z n))) × (missing h n xs (partly Z L p) ≡ 0)
  unfolding Ordered left_behind body read missing
  read_back [] L p o c f = (ap (partly Z L) (omega arith), refl)
  read_back (x ∷ xs) L p o c f =
      let d = carries_append h.bit p (pass_bits x Z n) (body xs Z n) c in
      let g = length-append (pass_bits x Z n) (body xs Z n) in
      let a = pass_back h Z x L p n o.0 o.1 d.0 (omega arith) in
      let b = read_back xs (left_after x L) (p + length (pass_bits x Z n)) o.2 d.1 (omega arith) in
      let e : p + length (pass_bits x Z n) + length (body xs Z n) ≡ p + length (pass_bits x Z n ++ body xs Z n) = omega arith in
      let w : leb (place h x (partly Z L p) n) h.size ≡ true = le-leb (place h x (partly Z L p) n) h.size (omega (arith, ap (λ (r : Reading). r.at) a)) in
      (rw (a, ← e) b.0, rw (w, a, b.1))

-- ---- the planes of one class, T − 1 down to 0
module _ (n : ℕ) (on : ℕ → Bool) (upto : (i : ℕ) → n ≤ i → on i ≡ false) where
  planes_ordered : (T : ℕ) (L : ℕ → ℕ) → ((i : ℕ) → on i ≡ true → L i ≡ T) → Ordered n L (planes on T)
  unfolding planes Ordered left_after
  planes_ordered zero L l = tt
  planes_ordered (suc t) L l = (l, upto, planes_ordered t _ (λ i o. rw o))

planes_left : (on : ℕ → Bool) (T : ℕ) (L : ℕ → ℕ) → ((i : ℕ) → on i ≡ true → L i ≡ T) → (i : ℕ) → left_behind L (planes on T) i ≡ choose (on i) 0 (L i)
unfolding planes left_behind left_after
planes_left on zero L l i = by_bool (on i) (λ o. l i o ∙ (rw o)) (λ o. rw o)
planes_left on (suc t) L l i = planes_left on t _ (λ j o. rw o) i ∙ by_bool (on i) (λ o. rw o) (λ o. rw o)

pub dropped_all : (T : ℕ) (z : ℤ) → nat_abs z < 2 ^ T → dropped T z ≡ pos 0
unfolding dropped
dropped_all T z h = rw (div-eq_of_lt h, zero-mul, signed-zero)

pub dropped_none : (z : ℤ) → dropped 0 z ≡ z
unfolding dropped sign signed
dropped_none (pos n) = ap pos (rw (div-one, mul-one))
dropped_none (negsuc n) = rw (div-one, mul-one)

-- ---- the marked part, and then the unmarked
-- what the reader returns of a body that arrived whole; m is the marked part
pub record Whole (a : Answer) (front n : ℕ) (Z : ℕ → ℤ) (m : List ℕ) : Type 0 where
  pub value : (i : ℕ) → i < n → a.value i ≡ Z i
  pub whole : a.whole ≡ true
  pub region_mark : a.region_mark ≡ front + bytes (length m)
  pub q : a.q ≡ 0

module _ (n T : ℕ) (h : Received) (Z : ℕ → ℤ) (marked unmarked : ℕ → Bool) (small : (i : ℕ) → nat_abs (Z i) < 2 ^ T)
    (marked-upto : (i : ℕ) → n ≤ i → marked i ≡ false) (unmarked-upto : (i : ℕ) → n ≤ i → unmarked i ≡ false)
    (apart : (i : ℕ) → i < n → unmarked i ≡ not (marked i)) where
  abbrev first : List ℕ
  first = body (planes marked T) Z n

  abbrev second : List ℕ
  second = body (planes unmarked T) Z n

  abbrev due : ℕ → ℕ
  due = left_behind (λ i. T) (planes marked T)

  due_is : (i : ℕ) → due i ≡ choose (marked i) 0 T
  due_is = planes_left marked T (λ i. T) (λ i o. refl)

  unmarked_due : (i : ℕ) → unmarked i ≡ true → due i ≡ T
  unmarked_due i o = by_bool (marked i) (λ q. absurd (by_lt i n (λ l. never o (apart i l ∙ ap not q)) (λ k. never o (unmarked-upto i k)))) (λ q. due_is i ∙ (rw q))

  none_due : (i : ℕ) → i < n → left_behind due (planes unmarked T) i ≡ 0
  none_due i k = planes_left unmarked T _ unmarked_due i ∙ rw (due_is i, apart i k) (by_bool (marked i) (λ q. rw q) (λ q. rw q))

  module _ (c : Carries h.bit 0 (first ++ second)) (f : length (first ++ second) ≤ h.size) where
    parts : Carries h.bit 0 first × Carries h.bit (length first) second
    parts =
        let d = carries_append h.bit 0 first second c in
        let e : 0 + length first ≡ length first = omega arith in
        (d.0, subst (λ q. Carries h.bit q second) e d.1)

    marked_read : read h n (planes marked T) start ≡ partly Z due (length first)
    marked_read =
        let s : start ≡ partly Z (λ i. T) 0 = reading_eq (λ i. sym (dropped_all T (Z i) (small i))) refl in
        let e : 0 + length first ≡ length first = omega arith in
        let o = planes_ordered n marked marked-upto T (λ i. T) (λ i o. refl) in
        ap (read h n (planes marked T)) s ∙ (read_back h Z n (planes marked T) (λ i. T) 0 o parts.0 (omega (arith, length-append first second))).0 ∙ ap (partly Z due) e

    unmarked_read : (read h n (planes unmarked T) (partly Z due (length first)) ≡ partly Z (left_behind due (planes unmarked T)) (length first + length second))
        × (missing h n (planes unmarked T) (partly Z due (length first)) ≡ 0)
    unmarked_read = read_back h Z n (planes unmarked T) due (length first) (planes_ordered n unmarked unmarked-upto T _ unmarked_due) parts.1 (omega (arith, length-append first second))

    pub body_back : (front : ℕ) → Whole (answer front h n (planes marked T) (planes unmarked T)) front n Z first
    body_back front =
        let w : leb (length first) h.size ≡ true = le-leb (length first) h.size (omega (arith, length-append first second)) in
        record {
          value = λ i k. rw (marked_read, unmarked_read.0, none_due i k) (dropped_none (Z i));
          whole = rw (marked_read, w);
          region_mark = rw (marked_read, w);
          q = rw marked_read unmarked_read.1;
        }

    -- the reader stops where the writer did
    pub body_end : (read h n (planes unmarked T) (read h n (planes marked T) start)).at ≡ length (first ++ second)
    body_end = rw (marked_read, unmarked_read.0) (omega (arith, length-append first second))
