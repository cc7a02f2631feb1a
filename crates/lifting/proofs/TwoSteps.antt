-- The two steps of a kernel: that both are its forward transform, and undone, in the other order, its way back, on all rows, and row by row in a
-- window of rows.
--
--   Holds k n v q A B A' B' == v rows of lows and q rows of highs from row n on, which are A' and B', hold the line with the parts A and B where the second
--                              step looks
--
-- Assumes nothing.
use mathlib.Core.Path.{◌≡◌, refl, sym, ap, ap₂, ◌∙◌}
use mathlib.Core.Bool.{Bool, true, false, not}
use mathlib.Core.List.{List}
use Prim.Native.Nat.{ℕ, ◌+◌, ◌*◌, ◌-◌, ◌^◌, ◌<◌, ◌≤◌, min}
use native.Mathlib.Omega.{arith}
use lib.IntN.{ℤ, ◌+ℤ◌, ◌-ℤ◌}
use Rattle.kernel.specs.declared.Kernel.{Kernel}
use Rattle.kernel.specs.declared.Kernel.TheVariants as kernel
use Rattle.line.specs.Cells.{Line, evens, paired}
use Rattle.line.specs.Formulas.{mean, difference, first_of, second_of, slope_a, between}
use Rattle.line.specs.Inner.{AllWithin, Agree}
use Rattle.line.specs.Transform.{inside, means, differences, predict, update, pair_high, low, high, pair_difference, pair_first, undone_evens, undone_odds}
use Rattle.line.proofs.Back.{add_none, sub_none}
use Rattle.line.proofs.Border.{inside_in, after_one, window_before, window_after, window_last}
use Rattle.line.proofs.Bounds.{mean_within, difference_within, within_more}
use Rattle.line.proofs.Cells.{by_lt, paired_even, paired_odd}
use Rattle.line.proofs.Local.{means_pair, means_alone, first_pair, first_alone, predict-reach, update_local, update_there}
use Rattle.steps.specs.Moved.{moved}
use Rattle.runs.specs.Step.{SPlusP, TT, High, Low}
use Rattle.lifting.specs.Parts.{lane, Bounded, Both}
use Rattle.runs.specs.Pair as pair
use Rattle.runs.specs.Pair.{pair_second}
use Rattle.lifting.specs.Lines.{seconds, pair_lows, RowsWithin, first_lows, first_highs, second_lows, second_highs, SecondTakes, lows_of, highs_of}
use Rattle.lifting.proofs.Stages.{Local, lows_pair, lows_alone, both_as, both_then, moved_within, amount_within, first_local, second_local, moves_second_local, moves_first_local}

-- ---- the second step and then the first, undone
-- D are kernel 0's highs again
pair_undone : (k : Kernel) (M K : ℕ) (A B D : Line ℤ) (n : ℕ) → D n ≡ pair_difference k M A B n → pair_lows true K A D n ≡ pair_first k M K A B n
pair_undone k M K A B D n e = by_lt n K
    (λ lt. lows_pair true K n A D lt ∙ ap (first_of (A n)) e ∙ sym (first_pair k M K n A B lt))
    (λ ge. lows_alone true K n A D ge ∙ sym (first_alone k M K n A B ge))

pub undone_first : (k : Kernel) (M K : ℕ) (A B : Line ℤ) → Agree M (first_lows true k K (second_lows true k K A B) (second_highs true k M A B)) (undone_evens k M K A B)
unfolding undone_evens
undone_first kernel.S M K A B n h = pair_undone kernel.S M K A B B n (sym (add_none M A n (B n)))
undone_first kernel.SPlusP M K A B n h = pair_undone kernel.SPlusP M K A B _ n refl
undone_first kernel.TT M K A B n h = pair_undone kernel.TT M K A B _ n refl
undone_first kernel.FiveThree M K A B n h = refl

pub undone_second : (k : Kernel) (M K : ℕ) (A B : Line ℤ) → Agree K (first_highs true k M (second_lows true k K A B) (second_highs true k M A B)) (undone_odds k M K A B)
unfolding undone_evens undone_odds
undone_second kernel.S M K A B n h = ap (second_of (A n)) (sym (add_none M A n (B n)))
undone_second kernel.SPlusP M K A B n h = refl
undone_second kernel.TT M K A B n h = refl
undone_second kernel.FiveThree M K A B n h = refl

-- ---- the first and then the second
module _ (M K : ℕ) (A B : Line ℤ) (le : K ≤ M) where
  means_of : (n : ℕ) → pair_lows false K A B n ≡ means K (paired A B) n
  means_of n = by_lt n K
      (λ lt. lows_pair false K n A B lt ∙ sym (means_pair K n (paired A B) lt ∙ ap₂ mean (paired_even A B n) (paired_odd A B n)))
      (λ ge. lows_alone false K n A B ge ∙ sym (means_alone K n (paired A B) ge ∙ paired_even A B n))

  differences_of : (n : ℕ) → seconds false A B n ≡ differences (paired A B) n
  differences_of n = sym (ap₂ difference (paired_even A B n) (paired_odd A B n))

  pair_high_of : (k : Kernel) (n : ℕ) → n < K → difference (A n) (B n) -ℤ predict k M (pair_lows false K A B) n ≡ pair_high k M K (paired A B) n
  pair_high_of k n h = ap₂ ◌-ℤ◌ (differences_of n) (predict-reach k M n (pair_lows false K A B) (means K (paired A B)) (omega arith) (λ i lt p q. means_of i))

  high_of : (n : ℕ) → n < K → B n -ℤ predict kernel.FiveThree M A n ≡ high kernel.FiveThree M K (paired A B) n
  unfolding high
  high_of n h = ap₂ ◌-ℤ◌ (sym (paired_odd A B n)) (predict-reach kernel.FiveThree M n A (evens (paired A B)) (omega arith) (λ i lt p q. sym (paired_even A B i)))

  pub done_first : (k : Kernel) → Agree M (second_lows false k K (first_lows false k K A B) (first_highs false k M A B)) (lows_of k M K A B)
  unfolding low
  done_first kernel.S n h = means_of n
  done_first kernel.SPlusP n h = means_of n
  done_first kernel.TT n h = means_of n
  done_first kernel.FiveThree n h = ap₂ ◌+ℤ◌ (sym (paired_even A B n)) (update_local K n _ (high kernel.FiveThree M K (paired A B)) (λ i lt. high_of i lt))

  pub done_second : (k : Kernel) → Agree K (second_highs false k M (first_lows false k K A B) (first_highs false k M A B)) (highs_of k M K A B)
  unfolding high
  done_second kernel.S n h = differences_of n ∙ sym (sub_none M (means K (paired A B)) n _)
  done_second kernel.SPlusP n h = pair_high_of kernel.SPlusP n h
  done_second kernel.TT n h = pair_high_of kernel.TT n h
  done_second kernel.FiveThree n h = high_of n h

-- ---- the steps are local
module _ (undo : Bool) {M K : ℕ} (le : K ≤ M) where
  pair_lows_local : Local M M K (pair_lows undo K)
  pair_lows_local A A' B B' x y n h = by_lt n K
      (λ lt. rw (lows_pair undo K n A B lt, lows_pair undo K n A' B' lt) (ap₂ (pair.pair_first undo) (x n h) (y n lt)))
      (λ ge. rw (lows_alone undo K n A B ge, lows_alone undo K n A' B' ge) (x n h))

  pair_second_local : Local K M K (seconds undo)
  pair_second_local A A' B B' x y n h = ap₂ (pair_second undo) (x n (omega arith)) (y n h)

  first_lows_local : (k : Kernel) → Local M M K (first_lows undo k K)
  first_lows_local kernel.S = pair_lows_local
  first_lows_local kernel.SPlusP = pair_lows_local
  first_lows_local kernel.TT = pair_lows_local
  first_lows_local kernel.FiveThree = first_local

  first_highs_local : (k : Kernel) → Local K M K (first_highs undo k M)
  first_highs_local kernel.S = pair_second_local
  first_highs_local kernel.SPlusP = pair_second_local
  first_highs_local kernel.TT = pair_second_local
  first_highs_local kernel.FiveThree = moves_second_local High undo le

  second_lows_local : M ≤ K + 1 → (k : Kernel) → Local M M K (second_lows undo k K)
  second_lows_local fit kernel.S = first_local
  second_lows_local fit kernel.SPlusP = first_local
  second_lows_local fit kernel.TT = first_local
  second_lows_local fit kernel.FiveThree = moves_first_local Low (not undo) fit

  second_highs_local : (k : Kernel) → Local K M K (second_highs undo k M)
  second_highs_local kernel.S = second_local
  second_highs_local kernel.SPlusP = moves_second_local SPlusP undo le
  second_highs_local kernel.TT = moves_second_local TT undo le
  second_highs_local kernel.FiveThree = second_local

module _ (k : Kernel) {a b t c m q : ℕ} {l l' l'' : List ℤ} (le : q ≤ m) (fit : m ≤ q + 1) where
  pub steps_done : Both (first_lows false k q) (first_highs false k m) a b t c 0 m (min m q) l l' → Both (second_lows false k q) (second_highs false k m) a b t c 0 m (min m q) l' l''
      → Both (lows_of k m q) (highs_of k m q) a b t c 0 m q l l''
  steps_done f g =
      let e : min m q ≡ q = omega arith in
      both_as (λ A B. done_first m q A B le k) (λ A B. done_second m q A B le k)
      (both_then (second_lows_local false le fit k) (second_highs_local false le k) (rw e at f) (rw e at g))

  pub steps_undone : Both (second_lows true k q) (second_highs true k m) a b t c 0 m (min m q) l l' → Both (first_lows true k q) (first_highs true k m) a b t c 0 m (min m q) l' l''
      → Both (undone_evens k m q) (undone_odds k m q) a b t c 0 m q l l''
  steps_undone f g =
      let e : min m q ≡ q = omega arith in
      both_as (undone_first k m q) (undone_second k m q) (both_then (first_lows_local true le k) (first_highs_local true le k) (rw e at f) (rw e at g))

-- the first step looks at its row and at the next alone: of row r of v rows of lows and q rows of highs from row n on, two rows of lows or all that are
-- left, it is that of row n + r of M rows of lows and K rows of highs
module _ (undo : Bool) (M K n v q r : ℕ) (A B A' B' : Line ℤ) (h : r < v) (top : n + v ≤ M) (top-highs : n + q ≤ K) (highs : min (n + r + 1) K ≤ n + q) where
  pub first_low_there : (k : Kernel) → A' r ≡ A (n + r) → (r < q → B' r ≡ B (n + r)) → first_lows undo k q A' B' r ≡ first_lows undo k K A B (n + r)
  first_low_there k x y = go k
    where
      low-there : pair_lows undo q A' B' r ≡ pair_lows undo K A B (n + r)
      low-there = by_lt r q
          (λ lt. lows_pair undo q r A' B' lt ∙ ap₂ (pair.pair_first undo) x (y lt) ∙ sym (lows_pair undo K (n + r) A B (omega arith)))
          (λ ge. lows_alone undo q r A' B' ge ∙ x ∙ sym (lows_alone undo K (n + r) A B (omega arith)))

      go : (j : Kernel) → first_lows undo j q A' B' r ≡ first_lows undo j K A B (n + r)
      go kernel.S = low-there
      go kernel.SPlusP = low-there
      go kernel.TT = low-there
      go kernel.FiveThree = x

  pub first_high_there : (k : Kernel) → min (n + r + 2) M ≤ n + v → ((i : ℕ) → r ≤ i → i < v → A' i ≡ A (n + i)) → B' r ≡ B (n + r)
      → first_highs undo k v A' B' r ≡ first_highs undo k M A B (n + r)
  unfolding predict
  first_high_there k reach a y = go k
    where
      x : A' r ≡ A (n + r)
      x = a r (omega arith) h

      next : A' (inside v (r + 1) 0) ≡ A (inside M (n + r + 1) 0)
      next = a _ (omega (arith, after_one v r h)) (inside_in v (r + 1) 0 (omega arith)) ∙ ap A (window_last M n v (r + 1) 0 (omega arith) top (omega arith) (omega arith) (omega arith) (omega arith) ∙ ap (λ (u : ℕ). inside M u 0) (omega arith))

      go : (j : Kernel) → first_highs undo j v A' B' r ≡ first_highs undo j M A B (n + r)
      go kernel.S = ap₂ (pair_second undo) x y
      go kernel.SPlusP = ap₂ (pair_second undo) x y
      go kernel.TT = ap₂ (pair_second undo) x y
      go kernel.FiveThree = ap₂ (moved undo) y (ap₂ between x next)

-- the second step on row n + r in v rows of lows and q of highs from row n on, which hold the line where it looks
abbrev pub Holds : Kernel → ℕ → ℕ → ℕ → Line ℤ → Line ℤ → Line ℤ → Line ℤ → Type 0
Holds kernel.S n v q A B A' B' = Unit
Holds kernel.SPlusP n v q A B A' B' = Agree v A' (λ i. A (n + i))
Holds kernel.TT n v q A B A' B' = Agree v A' (λ i. A (n + i))
Holds kernel.FiveThree n v q A B A' B' = Agree q B' (λ i. B (n + i))

-- they do where the second step is undone on the first g of them alone: it leaves the part alone that it looks at
pub holds : (k : Kernel) (M K n v q g : ℕ) (A B A' B' : Line ℤ)
    → ((i : ℕ) → i < g → i < v → A' i ≡ second_lows true k K A B (n + i)) → ((i : ℕ) → i < g → i < q → B' i ≡ second_highs true k M A B (n + i))
    → ((i : ℕ) → g ≤ i → i < v → A' i ≡ A (n + i)) → ((i : ℕ) → g ≤ i → i < q → B' i ≡ B (n + i)) → Holds k n v q A B A' B'
holds kernel.S M K n v q g A B A' B' x y z w = tt
holds kernel.SPlusP M K n v q g A B A' B' x y z w = λ i h. by_lt i g (λ lt. x i lt h) (λ ge. z i ge h)
holds kernel.TT M K n v q g A B A' B' x y z w = λ i h. by_lt i g (λ lt. x i lt h) (λ ge. z i ge h)
holds kernel.FiveThree M K n v q g A B A' B' x y z w = λ i h. by_lt i g (λ lt. y i lt h) (λ ge. w i ge h)

-- and on the way in, where both steps are done on the first n of v rows of lows and q of highs, and the first step on the others
pub holds_in : (k : Kernel) (M K n v q : ℕ) (A B A' B' : Line ℤ) → K ≤ M → v ≤ M → q ≤ K
    → ((i : ℕ) → i < n → i < v → A' i ≡ lows_of k M K A B i) → ((i : ℕ) → i < n → i < q → B' i ≡ highs_of k M K A B i)
    → ((i : ℕ) → n ≤ i → i < v → A' i ≡ first_lows false k K A B i) → ((i : ℕ) → n ≤ i → i < q → B' i ≡ first_highs false k M A B i)
    → Holds k 0 v q (first_lows false k K A B) (first_highs false k M A B) A' B'
holds_in kernel.S M K n v q A B A' B' le top top-highs x y z w = tt
holds_in kernel.SPlusP M K n v q A B A' B' le top top-highs x y z w = λ i h.
    by_lt i n (λ lt. x i lt h ∙ sym (done_first M K A B le kernel.SPlusP i (omega arith))) (λ ge. z i ge h) ∙ ap (first_lows false kernel.SPlusP K A B) (omega arith)
holds_in kernel.TT M K n v q A B A' B' le top top-highs x y z w = λ i h.
    by_lt i n (λ lt. x i lt h ∙ sym (done_first M K A B le kernel.TT i (omega arith))) (λ ge. z i ge h) ∙ ap (first_lows false kernel.TT K A B) (omega arith)
holds_in kernel.FiveThree M K n v q A B A' B' le top top-highs x y z w = λ i h.
    by_lt i n (λ lt. y i lt h ∙ sym (done_second M K A B le kernel.FiveThree i (omega arith))) (λ ge. w i ge h) ∙ ap (first_highs false kernel.FiveThree M A B) (omega arith)

-- and then its numbers are taken
module _ (a b t p q c d e : ℕ) (l : List ℤ) (M K n : ℕ) (A B : ℕ → Line ℤ) (top : n + p ≤ M) (top-highs : n + q ≤ K) (le : e ≤ p)
    (lows : (j : ℕ) → j < c → AllWithin (2 ^ 28) M (A j)) (highs : (j : ℕ) → j < c → AllWithin (2 ^ 29) K (B j))
    (Low-rows : (r j : ℕ) → d ≤ r → r < e → j < c → lane a t l j r ≡ A j (n + r)) (high-rows : (r j : ℕ) → d ≤ r → r < e → r < q → j < c → lane b t l j r ≡ B j (n + r)) where
  low_taken : ((j : ℕ) → j < c → Agree p (lane a t l j) (λ i. A j (n + i))) → Bounded (2 ^ 28) a t p c l × RowsWithin (2 ^ 29) b t c d (min e q) l
  low_taken h = (
    record { each = λ j k i o. rw (h j k i o) (lows j k (n + i) (omega arith)) },
    record { each = λ r j o u k. rw (high-rows r j o (omega arith) (omega arith) k) (highs j k (n + r) (omega arith)) },
  )

  pub takes : (k : Kernel) → ((j : ℕ) → j < c → Holds k n p q (A j) (B j) (lane a t l j) (lane b t l j)) → SecondTakes k a b t p q c d e l
  takes kernel.S h = tt
  takes kernel.SPlusP h = low_taken h
  takes kernel.TT h = low_taken h
  takes kernel.FiveThree h = (
    record { each = λ j k i o. rw (h j k i o) (highs j k (n + i) (omega arith)) },
    record { each = λ r j o u k. rw (Low-rows r j o u k) (lows j k (n + r) (omega arith)) },
  )

-- so they are where all lows and highs are within its bounds
module _ {a b t p q c : ℕ} {l : List ℤ} (e : ℕ) (x : Bounded (2 ^ 28) a t p c l) (y : Bounded (2 ^ 29) b t q c l) (le : e ≤ p) where
  low_all : Bounded (2 ^ 28) a t p c l × RowsWithin (2 ^ 29) b t c 0 (min e q) l
  low_all = (x, record { each = λ n j o h k. y.each j k n (omega arith) })

  pub takes_all : (k : Kernel) → SecondTakes k a b t p q c 0 e l
  takes_all kernel.S = tt
  takes_all kernel.SPlusP = low_all
  takes_all kernel.TT = low_all
  takes_all kernel.FiveThree = (y, record { each = λ n j o h k. x.each j k n (omega arith) })

-- of row r the second step is that of row n + r
module _ (undo : Bool) (M K n v q r : ℕ) (A B A' B' : Line ℤ) (h : r < v) (back : n ≤ n + r - 2) where
  pub second_low_there : (k : Kernel) → r ≤ q → n + q ≤ K → min (n + r + 1) K ≤ n + q → Holds k n v q A B A' B' → A' r ≡ A (n + r)
      → second_lows undo k q A' B' r ≡ second_lows undo k K A B (n + r)
  second_low_there k near top-highs highs holds x = go k holds
    where
      smoothed : Agree q B' (λ i. B (n + i)) → update q B' r ≡ update K B (n + r)
      smoothed c = update_there K n q r B B' near top-highs highs (omega arith) c

      go : (j : Kernel) → Holds j n v q A B A' B' → second_lows undo j q A' B' r ≡ second_lows undo j K A B (n + r)
      go kernel.S c = x
      go kernel.SPlusP c = x
      go kernel.TT c = x
      go kernel.FiveThree c = ap₂ (moved (not undo)) x (smoothed c)

  pub second_high_there : (k : Kernel) → n + v ≤ M → min (n + r + 3) M ≤ n + v → Holds k n v q A B A' B' → B' r ≡ B (n + r)
      → second_highs undo k v A' B' r ≡ second_highs undo k M A B (n + r)
  unfolding predict
  second_high_there k top ahead holds y = go k holds
    where
      before : (X X' : Line ℤ) (d : ℕ) → d ≤ 2 → Agree v X' (λ i. X (n + i)) → X' (inside v r d) ≡ X (inside M (n + r) d)
      before X X' d le c = c _ (inside_in v r d (omega arith)) ∙ ap X (window_before M n v r d h top (omega arith) (omega arith))

      after : (X X' : Line ℤ) (d : ℕ) → d ≤ 2 → Agree v X' (λ i. X (n + i)) → X' (inside v (r + d) 0) ≡ X (inside M (n + r + d) 0)
      after X X' d le c = c _ (inside_in v (r + d) 0 (omega arith)) ∙ ap X (window_after M n v r d h top (omega arith) (omega arith) ∙ ap (λ (u : ℕ). inside M u 0) (omega arith))

      go : (j : Kernel) → Holds j n v q A B A' B' → second_highs undo j v A' B' r ≡ second_highs undo j M A B (n + r)
      go kernel.S c = y
      go kernel.SPlusP c = ap₂ (moved undo) y (ap₂ slope_a (before A A' 1 (omega arith) c) (after A A' 1 (omega arith) c))
      go kernel.TT c =
          let i = before A A' 2 (omega arith) c in let j = before A A' 1 (omega arith) c in let s = after A A' 1 (omega arith) c in let t = after A A' 2 (omega arith) c in
          rw (y, i, j, s, t)
      go kernel.FiveThree c = y

-- ---- what a step leaves is what the other takes
module _ (M K : ℕ) (A B : Line ℤ) (le : K ≤ M) (fit : M ≤ K + 1) (x : AllWithin (2 ^ 28) M A) (y : AllWithin (2 ^ 24) K B) where
  pub undone_lows : (k : Kernel) → AllWithin (2 ^ 29) M (second_lows true k K A B)
  undone_lows kernel.S n h = within_more (x n h) (omega arith)
  undone_lows kernel.SPlusP n h = within_more (x n h) (omega arith)
  undone_lows kernel.TT n h = within_more (x n h) (omega arith)
  undone_lows kernel.FiveThree n h = within_more (moved_within false (2 ^ 28) _ _ _ (x n h) (amount_within Low K (2 ^ 24) B y n (omega arith))) (omega arith)

  pub undone_highs : (k : Kernel) → AllWithin (2 ^ 29) K (second_highs true k M A B)
  undone_highs kernel.S n h = within_more (y n h) (omega arith)
  undone_highs kernel.SPlusP n h = within_more (moved_within true (2 ^ 24) _ _ _ (y n h) (amount_within SPlusP M (2 ^ 28) A x n (omega arith))) (omega arith)
  undone_highs kernel.TT n h = within_more (moved_within true (2 ^ 24) _ _ _ (y n h) (amount_within TT M (2 ^ 28) A x n (omega arith))) (omega arith)
  undone_highs kernel.FiveThree n h = within_more (y n h) (omega arith)

module _ (M K : ℕ) (A B : Line ℤ) (le : K ≤ M) (x : AllWithin (5 * 2 ^ 22) M A) (y : AllWithin (5 * 2 ^ 22) K B) where
  mean_all : AllWithin (2 ^ 28) M (pair_lows false K A B)
  mean_all n h = by_lt n K
      (λ lt. rw (lows_pair false K n A B lt) (within_more (mean_within (5 * 2 ^ 22) _ _ (x n h) (y n lt)) (omega arith)))
      (λ ge. rw (lows_alone false K n A B ge) (within_more (x n h) (omega arith)))

  difference_all : AllWithin (2 ^ 29) K (seconds false A B)
  difference_all n h = within_more (difference_within (5 * 2 ^ 22) _ _ (x n (omega arith)) (y n h)) (omega arith)

  pub done_lows : (k : Kernel) → AllWithin (2 ^ 28) M (first_lows false k K A B)
  done_lows kernel.S = mean_all
  done_lows kernel.SPlusP = mean_all
  done_lows kernel.TT = mean_all
  done_lows kernel.FiveThree = λ n h. within_more (x n h) (omega arith)

  pub done_highs : (k : Kernel) → AllWithin (2 ^ 29) K (first_highs false k M A B)
  done_highs kernel.S = difference_all
  done_highs kernel.SPlusP = difference_all
  done_highs kernel.TT = difference_all
  done_highs kernel.FiveThree = λ n h. within_more (moved_within false (5 * 2 ^ 22) _ _ _ (y n h) (amount_within High M (5 * 2 ^ 22) A x n (omega arith))) (omega arith)

module _ (k : Kernel) {a b t c m q : ℕ} {l l' : List ℤ} (le : q ≤ m) where
  module _ (fit : m ≤ q + 1) (x : Bounded (2 ^ 28) a t m c l) (y : Bounded (2 ^ 24) b t q c l) (f : Both (second_lows true k q) (second_highs true k m) a b t c 0 m (min m q) l l') where
    pub undone_bounded : Bounded (2 ^ 29) a t m c l' × Bounded (2 ^ 29) b t q c l'
    undone_bounded = (
      record { each = λ j o n h. rw (f.first n j (omega arith) h o) (undone_lows m q _ _ le fit (x.each j o) (y.each j o) k n h) },
      record { each = λ j o n h. rw (f.second n j (omega arith) (omega arith) o) (undone_highs m q _ _ le fit (x.each j o) (y.each j o) k n h) },
    )

  module _ (x : Bounded (5 * 2 ^ 22) a t m c l) (y : Bounded (5 * 2 ^ 22) b t q c l) (f : Both (first_lows false k q) (first_highs false k m) a b t c 0 m (min m q) l l') where
    pub done_bounded : Bounded (2 ^ 28) a t m c l' × Bounded (2 ^ 29) b t q c l'
    done_bounded = (
      record { each = λ j o n h. rw (f.first n j (omega arith) h o) (done_lows m q _ _ le (x.each j o) (y.each j o) k n h) },
      record { each = λ j o n h. rw (f.second n j (omega arith) (omega arith) o) (done_highs m q _ _ le (x.each j o) (y.each j o) k n h) },
    )
