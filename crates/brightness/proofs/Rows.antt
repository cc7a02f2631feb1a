-- What the loops over the samples of a row and over the rows of a picture keep, by what is left of picture and region.
--
--   Summed P R ps bs s   == of the picture P and the region R, ps and bs are left, and s is the sum of what is passed
--   Passed P R ps bs n s == the same of rows: n of the passed samples are in the region, and no byte of it is above 1
--
-- Assumes nothing.
use mathlib.Core.Path.{◌≡◌, sym, ap, ap₂, ◌∙◌}
use mathlib.Core.Bool.{true, false, ◌||◌}
use mathlib.Core.List.{List, [], ◌∷◌, ◌++◌}
use Prim.Native.Nat.{ℕ, zero, suc, ◌+◌, ◌*◌, ◌<◌, ◌≤◌}
use native.Mathlib.Nat.{mul-zero, mul-suc}
use native.Mathlib.Omega.{arith}
use lib.Dec.{ltb}
use lib.ListN.{length, get_or, length-append}
use Rattle.std.proofs.lemmas.List.{get_or_append_left, get_or-append-add}
use Rattle.line.specs.Cells.{choose, total, count}
use Rattle.line.specs.Mask.{marked, any_below}
use Rattle.line.proofs.Counts.{count-le, total-add, total_same}
use Rattle.line.proofs.Marks.{any_add, any_same}
use Rattle.refusal.specs.Tests.{bad_mark}
use Rattle.brightness.specs.Brightness.{has, number, region_sample, sum}

-- ---- lists behind one another
module _ (a b : List ℕ) where
  front : (i : ℕ) → i < length a → get_or (a ++ b) i 0 ≡ get_or a i 0
  front i h = get_or_append_left a b 0 i h

  pub number_append : number (a ++ b) ≡ number a + number b
  unfolding count
  number_append = ap (λ n. total n (λ i. choose (has (a ++ b) i) 1 0)) (length-append a b) ∙ total-add (length a) (length b) _
      ∙ ap₂ ◌+◌ (total_same (length a) _ _ (λ i h. ap (λ c. choose (marked c) 1 0) (front i h)))
      (total_same (length b) _ _ (λ i h. ap (λ c. choose (marked c) 1 0) (get_or-append-add a b i 0)))

  pub bad_append : bad_mark (a ++ b) ≡ (bad_mark a || bad_mark b)
  unfolding bad_mark
  bad_append = ap (λ n. any_below n (λ i. ltb 1 (get_or (a ++ b) i 0))) (length-append a b) ∙ any_add (length a) (length b) _
      ∙ ap₂ ◌||◌ (any_same (length a) _ _ (λ i h. ap (λ c. ltb 1 c) (front i h)))
      (any_same (length b) _ _ (λ i h. ap (λ c. ltb 1 c) (get_or-append-add a b i 0)))

pub sum_append : (p q a b : List ℕ) → length p ≡ length a → sum (p ++ q) (a ++ b) ≡ sum p a + sum q b
sum_append p q a b e = ap (λ n. total n (region_sample (p ++ q) (a ++ b))) (length-append a b) ∙ total-add (length a) (length b) _
    ∙ ap₂ ◌+◌ (total_same (length a) _ _ (λ i h. ap₂ (λ c x. choose (marked c) x 0) (front a b i h) (front p q i (omega arith))))
    (total_same (length b) _ _ (λ i h. ap₂ (λ c x. choose (marked c) x 0) (get_or-append-add a b i 0) (rw e at (get_or-append-add p q i 0))))

pub sum_one : (x b : ℕ) → sum (x ∷ []) (b ∷ []) ≡ choose (marked b) x 0
unfolding total
sum_one x b = omega arith

-- ---- the loops
pub record Summed (P R ps bs : List ℕ) (s : ℕ) : Type 0 where
  pub same : length ps ≡ length bs
  pub sum : s + sum ps bs ≡ sum P R
  pub most : s + length bs * 65535 ≤ length R * 65535

pub record Passed (P R ps bs : List ℕ) (n s : ℕ) : Type 0 where
  pub summed : Summed P R ps bs s
  pub number : n + number bs ≡ number R
  pub bad : bad_mark bs ≡ bad_mark R

module _ {P R : List ℕ} where
  pub summed_none : length P ≡ length R → Summed P R P R 0
  summed_none e = record { same = e; sum = omega arith; most = omega arith }

  pub summed_more : {ps bs : List ℕ} (p ps' b bs' : List ℕ) {s k : ℕ} → Summed P R ps bs s → ps ≡ p ++ ps' → bs ≡ b ++ bs' → length p ≡ length b
      → k ≡ sum p b → k ≤ length b * 65535 → Summed P R ps' bs' (s + k)
  summed_more p ps' b bs' r e f g h m =
      let t = rw (e, f) at r in
      record {
        same = omega (arith, t.same, length-append p ps', length-append b bs');
        sum = omega (arith, t.sum, sum_append p ps' b bs' g);
        most = omega (arith, t.most, length-append b bs');
      }

  pub summed_all : {ps bs : List ℕ} {s : ℕ} → Summed P R ps bs s → length bs ≡ 0 → s ≡ sum P R
  unfolding total
  summed_all {ps} {bs} r e = let nothing : sum ps bs ≡ 0 = rw e in omega (arith, r.sum)

  -- a row whose bytes are not above 1
  pub passed_more : {ps bs : List ℕ} (p ps' b bs' : List ℕ) {n s m k : ℕ} → Passed P R ps bs n s → ps ≡ p ++ ps' → bs ≡ b ++ bs' → length p ≡ length b
      → bad_mark b ≡ false → m ≡ number b → k ≡ sum p b → k ≤ length b * 65535 → Passed P R ps' bs' (n + m) (s + k)
  passed_more p ps' b bs' r e f g fine h i j = record {
    summed = summed_more p ps' b bs' r.summed e f g i j;
    number = omega (arith, rw f at r.number, number_append b bs');
    bad = sym (rw fine at (bad_append b bs')) ∙ rw f at r.bad;
  }

  -- a row with a byte above 1
  pub passed_bad : {ps bs : List ℕ} (b bs' : List ℕ) {n s : ℕ} → Passed P R ps bs n s → bs ≡ b ++ bs' → bad_mark b ≡ true → bad_mark R ≡ true
  passed_bad b bs' r f high = sym r.bad ∙ ap bad_mark f ∙ bad_append b bs' ∙ rw high

  -- no row is left
  pub passed_all : {ps bs : List ℕ} {n s : ℕ} → Passed P R ps bs n s → length bs ≡ 0 → (bad_mark R ≡ false) × (n ≡ number R) × (s ≡ sum P R)
  unfolding bad_mark count total any_below
  passed_all {ps} {bs} r e =
      let none : number bs ≡ 0 = rw e in
      let fine : bad_mark bs ≡ false = rw e in
      (sym r.bad ∙ fine, omega (arith, r.number), summed_all r.summed e)

  -- a fact for `omega`: the next number fits
  pub passed_next : {ps bs : List ℕ} (b bs' : List ℕ) {n s m : ℕ} → Passed P R ps bs n s → bs ≡ b ++ bs' → m ≡ number b → n + m ≤ length R
  passed_next b bs' r f e = omega (arith, rw f at r.number, number_append b bs', e, count-le (length R) (has R))

-- what is left is rows of w: behind a first one, and at the end
pub rows_next : {bs : List ℕ} (b bs' : List ℕ) (w h : ℕ) → 0 < w → bs ≡ b ++ bs' → length b ≡ w → length bs ≡ w * h → (j : ℕ) × (length bs' ≡ w * j)
rows_next b bs' w zero some f g e = absurd (omega (arith, rw f at e, length-append b bs', mul-zero w))
rows_next b bs' w (suc j) some f g e = (j, omega (arith, rw f at e, length-append b bs', mul-suc w j))

pub rows_end : (w h n : ℕ) → n ≡ w * h → n < w → n ≡ 0
rows_end w zero n e lt = e ∙ mul-zero w
rows_end w (suc j) n e lt = absurd (omega (arith, mul-suc w j))
