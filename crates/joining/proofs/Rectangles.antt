-- The region of two lists of rectangle numbers, one behind the other, is their regions joined. Assumes nothing.
use mathlib.Core.Path.{◌≡◌, ap, ap₂, ◌∙◌}
use mathlib.Core.Bool.{◌||◌}
use mathlib.Core.List.{List, ◌++◌}
use Prim.Native.Nat.{ℕ, ◌+◌, ◌*◌, ◌/◌, ◌%◌, ◌<◌}
use native.Mathlib.Omega.{arith}
use lib.ListN.{length, get_or, length-append, get_or-append}
use lib.Seq.{get_or-append-add}
use Rattle.line.specs.Mask.{any_below}
use Rattle.line.proofs.Marks.{any_same, any_add}
use Rattle.region.specs.Region.{in_rectangle, in_region}

-- four numbers make a rectangle
box_same : (l m : List ℕ) (r s x y : ℕ) → ((j : ℕ) → j < 4 → get_or l (4 * r + j) 0 ≡ get_or m (4 * s + j) 0) → in_rectangle l r x y ≡ in_rectangle m s x y
box_same l m r s x y e =
    let zero-l : 4 * r ≡ 4 * r + 0 = omega arith in let zero-m : 4 * s + 0 ≡ 4 * s = omega arith in
    rw (ap (λ n. get_or l n 0) zero-l ∙ e 0 (omega arith) ∙ ap (λ n. get_or m n 0) zero-m, e 1 (omega arith), e 2 (omega arith), e 3 (omega arith))

module _ (l m : List ℕ) (four : length l % 4 ≡ 0) (x y : ℕ) where
  front : (r : ℕ) → r < length l / 4 → in_rectangle (l ++ m) r x y ≡ in_rectangle l r x y
  front r h = box_same (l ++ m) l r r x y (λ j lt. get_or-append l m 0 (4 * r + j) (omega arith))

  behind : (r : ℕ) → in_rectangle (l ++ m) (length l / 4 + r) x y ≡ in_rectangle m r x y
  behind r = box_same (l ++ m) m (length l / 4 + r) r x y (λ j lt.
      let e : 4 * (length l / 4 + r) + j ≡ length l + (4 * r + j) = omega arith in
      ap (λ n. get_or (l ++ m) n 0) e ∙ get_or-append-add l m (4 * r + j) 0)

  pub region_append : in_region (l ++ m) x y ≡ (in_region l x y || in_region m x y)
  unfolding in_region
  region_append =
      let n : length (l ++ m) / 4 ≡ length l / 4 + length m / 4 = omega (arith, length-append l m) in
      ap (λ c. any_below c (λ r. in_rectangle (l ++ m) r x y)) n
      ∙ any_add (length l / 4) (length m / 4) (λ r. in_rectangle (l ++ m) r x y)
      ∙ ap₂ ◌||◌ (any_same (length l / 4) _ _ front) (any_same (length m / 4) _ _ (λ r h. behind r))
