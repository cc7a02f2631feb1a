-- The numbers of the rectangles in an array, 0 behind them.
--
--   Taken l k i a == a has the first i of the numbers of k rectangles of the stream l, and 0 behind them
--
-- Assumes nothing.
use mathlib.Core.Path.{◌≡◌, refl, sym, ap, ◌∙◌}
use mathlib.Core.List.{List, []}
use Prim.Native.Nat.{ℕ, zero, suc, ◌+◌, ◌*◌, ◌<◌, ◌≤◌}
use native.Mathlib.Omega.{arith}
use lib.ListN.{length, get_or, take, set, replicate, get_or-replicate, length-take, get_or-eq_default}
use lib.Seq.{ext_get_or, get_or-take}
use Rattle.line.specs.Cells.{listed}
use Rattle.line.proofs.Cells.{by_lt}
use Rattle.line.proofs.Lists.{listed-length, listed_cell, is_listed}
use Rattle.refusal.proofs.Made.{Made, made_none, made_more}
use Rattle.header.specs.Header.{number}
use Rattle.header.specs.Fields.{numbers}
use Rattle.header_reader.specs.Inner.{rectangle_array}

-- ---- the numbers of a stream
pub numbers-length : (n : ℕ) (l : List ℕ) (at : ℕ) → length (numbers n l at) ≡ n
unfolding numbers
numbers-length zero l at = refl
numbers-length (suc n) l at = ap suc (numbers-length n l (at + 2))

numbers_cell : (n : ℕ) (l : List ℕ) (at i : ℕ) → i < n → get_or (numbers n l at) i 0 ≡ number 2 l (at + 2 * i)
unfolding numbers
numbers_cell zero l at i h = absurd (omega arith)
numbers_cell (suc n) l at zero h = ap (number 2 l) (omega arith)
numbers_cell (suc n) l at (suc i) h = numbers_cell n l (at + 2) i (omega arith) ∙ ap (number 2 l) (omega arith)

-- ---- the array
pub no_numbers : replicate {A = ℕ} 128 0 ≡ listed 128 (λ i. get_or [] i 0)
unfolding listed
no_numbers = refl

pub record Taken (l : List ℕ) (k i : ℕ) (a : List ℕ) : Type 0 where
  pub few : i ≤ 4 * k
  pub made : Made 0 (λ j. number 2 l (14 + 2 * j)) 0 i (replicate 128 0) a

module _ (l : List ℕ) (k : ℕ) where
  pub taken_none : Taken l k 0 (replicate 128 0)
  taken_none = record { few = omega arith; made = made_none }

  pub taken_more : {i v : ℕ} {a : List ℕ} → Taken l k i a → i < 4 * k → k ≤ 32 → v ≡ number 2 l (14 + 2 * i) → Taken l k (i + 1) (set a i v)
  taken_more {i} {v} {a} t h f e = record { few = omega arith; made = made_more t.made (omega arith) (omega arith) e }

  pub taken_all : {i : ℕ} {a : List ℕ} → Taken l k i a → 4 * k ≤ i → a ≡ rectangle_array l k
  taken_all {i} {a} t h =
      let e : i ≡ 4 * k = omega (arith, t.few) in
      is_listed 128 _ 0 a t.made.size (λ j b. by_lt j i
      (λ lt. t.made.on j lt (omega arith) ∙ sym (numbers_cell (4 * k) l 14 j (omega arith)))
      (λ ge. t.made.above j ge ∙ (get_or-replicate 128 j 0 0 b ∙ sym (get_or-eq_default (numbers (4 * k) l 14) 0 (omega (arith, numbers-length (4 * k) l 14))))))

  -- the array's front is the rectangles
  pub array_front : (n : ℕ) → k ≤ 32 → n ≡ 4 * k → take n (rectangle_array l k) ≡ numbers (4 * k) l 14
  array_front n f e =
      let s : length (take n (rectangle_array l k)) ≡ 4 * k = length-take n (rectangle_array l k) ∙ omega (arith, listed-length 128 (λ i. get_or (numbers (4 * k) l 14) i 0)) in
      ext_get_or 0 (take n (rectangle_array l k)) (numbers (4 * k) l 14) (s ∙ sym (numbers-length (4 * k) l 14))
      (λ i h. get_or-take n (rectangle_array l k) i 0 (omega arith) ∙ listed_cell 128 (λ i. get_or (numbers (4 * k) l 14) i 0) 0 i (omega arith))
