-- The rectangles of a list of numbers as chunks of four. Assumes nothing.
use mathlib.Core.Path.{◌≡◌, refl, sym, ap, ◌∙◌}
use mathlib.Core.Bool.{Bool, ◌||◌, or_assoc, or-false}
use mathlib.Core.List.{List, [], ◌∷◌}
use Prim.Native.Nat.{ℕ, zero, suc, ◌+◌, ◌*◌, ◌/◌, ◌<◌}
use native.Mathlib.Nat.{add-zero}
use native.Mathlib.Omega.{arith}
use lib.ListN.{length, get_or, drop}
use Rattle.std.proofs.lemmas.List.{get_or-take, get_or-drop}
use Rattle.std.specs.List.{list_any}
use Rattle.std.specs.Simd.{first_chunks}
use Rattle.line.specs.Mask.{any_below}
use Rattle.line.proofs.Marks.{any_same}
use Rattle.refusal.specs.Tests.{bad_rectangle, bad_rectangles}
use Rattle.region.specs.declared.Rectangle.{Rectangle}
use Rattle.region.specs.Inner.{rectangle_of}

any_first : (n : ℕ) (f : ℕ → Bool) → any_below (suc n) f ≡ (f 0 || any_below n (λ i. f (suc i)))
unfolding any_below
any_first zero f = sym (or-false (f 0))
any_first (suc n) f = ap (λ b. b || f (suc n)) (any_first n f) ∙ or_assoc (f 0) (any_below n (λ i. f (suc i))) (f (suc n))

module _ {X : Type 0} where
  chunk_count : (n k : ℕ) (xs : List X) → length (first_chunks n k xs) ≡ k
  chunk_count n zero xs = refl
  chunk_count n (suc k) xs = ap suc (chunk_count n k (drop n xs))

  pub chunk_cell : (n k : ℕ) (xs : List X) (r j : ℕ) (d : List X) (o : X) → r < k → j < n → get_or (get_or (first_chunks n k xs) r d) j o ≡ get_or xs (n * r + j) o
  chunk_cell n zero xs r j d o h g = absurd (omega arith)
  chunk_cell n (suc k) xs zero j d o h g = get_or-take n xs j o g ∙ ap (λ m. get_or xs m o) (omega arith)
  chunk_cell n (suc k) xs (suc r) j d o h g = chunk_cell n k (drop n xs) r j d o (omega arith) g ∙ get_or-drop n xs (n * r + j) o ∙ ap (λ m. get_or xs m o) (omega arith)

  any_listed : (p : X → Bool) (d : X) (xs : List X) → list_any p xs ≡ any_below (length xs) (λ i. p (get_or xs i d))
  unfolding any_below
  any_listed p d [] = refl
  any_listed p d (x ∷ xs) = ap (λ b. p x || b) (any_listed p d xs) ∙ sym (any_first (length xs) (λ i. p (get_or (x ∷ xs) i d)))

module _ (l : List ℕ) (r : ℕ) (d : List ℕ) (inside : r < length l / 4) where
  abbrev chunk : List ℕ
  chunk = get_or (first_chunks 4 (length l / 4) l) r d

  cell : (j : ℕ) → j < 4 → get_or chunk j 0 ≡ get_or l (4 * r + j) 0
  cell j h = chunk_cell 4 (length l / 4) l r j d 0 inside h

  -- rectangle r of the numbers
  rectangle_is : rectangle_of chunk ≡ record { x = get_or l (4 * r) 0; y = get_or l (4 * r + 1) 0; across = get_or l (4 * r + 2) 0; down = get_or l (4 * r + 3) 0 }
  rectangle_is = rw (cell 0 (omega arith) ∙ ap (λ m. get_or l m 0) (add-zero (4 * r)), cell 1 (omega arith), cell 2 (omega arith), cell 3 (omega arith)) refl

  pub rectangle_at : {chunks : List (List ℕ)} {q : Rectangle} → chunks ≡ first_chunks 4 (length l / 4) l → q ≡ rectangle_of (get_or chunks r d)
      → q ≡ record { x = get_or l (4 * r) 0; y = get_or l (4 * r + 1) 0; across = get_or l (4 * r + 2) 0; down = get_or l (4 * r + 3) 0 }
  rectangle_at e f = f ∙ ap (λ k. rectangle_of (get_or k r d)) e ∙ rectangle_is

pub any_rectangle : (W H : ℕ) (l : List ℕ)
    → list_any (λ r. bad_rectangle W H (get_or r 0 0) (get_or r 1 0) (get_or r 2 0) (get_or r 3 0)) (first_chunks 4 (length l / 4) l) ≡ bad_rectangles W H l
unfolding bad_rectangles
any_rectangle W H l =
    let k : ℕ = length l / 4 in
    let bad : Rectangle → Bool = λ q. bad_rectangle W H q.x q.y q.across q.down in
    any_listed (λ c. bad (rectangle_of c)) [] (first_chunks 4 k l)
    ∙ ap (λ m. any_below m (λ i. bad (rectangle_of (get_or (first_chunks 4 k l) i [])))) (chunk_count 4 k l)
    ∙ any_same k _ _ (λ i h. ap bad (rectangle_is l i [] h))
