-- Drawing rectangles one after the other in a region that was cleared.
--
--   Painted l col row r n m == the region m of n places holds the first r rectangles of the numbers l; place i is in column col i and row row i
--
-- Assumes nothing.
use mathlib.Core.Path.{◌≡◌, refl, sym, ap, ◌∙◌}
use mathlib.Core.Bool.{Bool, true, false, ◌||◌}
use mathlib.Core.List.{List}
use Prim.Native.Nat.{ℕ, ◌+◌, ◌*◌, ◌/◌, ◌<◌, ◌≤◌}
use native.Mathlib.Numerals.{add-one}
use native.Mathlib.Omega.{arith}
use native.Mathlib.Nat.{mul_comm, mul-le-mul_right}
use borrow.Author.Tests.{lt-ltb, le-leb, ltb-false}
use lib.Dec.{eqb, ltb}
use lib.ListN.{length, get_or}
use Rattle.line.specs.Cells.{choose}
use Rattle.line.specs.Mask.{any_below, byte_of}
use Rattle.line.proofs.Marks.{any_elim}
use Rattle.refusal.specs.Results.{Result}
use Rattle.refusal.specs.Tests.{bad_rectangle, bad_rectangles}
use Rattle.refusal.proofs.Passed.{neither, none_of, not_any}
use Rattle.region.specs.Region.{in_rectangle, in_region}
use Rattle.region.specs.Drawing.{Filled, Inside}
use Rattle.region.proofs.Boxes.{within_elim, box_elim}

pub record Painted (l : List ℕ) (col row : ℕ → ℕ) (r n : ℕ) (m : List ℕ) : Type 0 where
  pub count : r ≤ length l / 4
  pub size : length m ≡ n
  pub cell : (i : ℕ) → i < n → get_or m i 0 ≡ byte_of (any_below r (λ k. in_rectangle l k (col i) (row i)))

joined : (a b : Bool) → choose b 1 (byte_of a) ≡ byte_of (a || b)
joined true true = refl
joined true false = refl
joined false true = refl
joined false false = refl

module _ {l : List ℕ} {col row : ℕ → ℕ} {n : ℕ} where
  pub painted_none : {m₀ m : List ℕ} → length m₀ ≡ n → Filled 0 0 n m₀ m → Painted l col row 0 n m
  unfolding any_below
  painted_none e f = record {
    count = omega arith;
    size = f.size ∙ e;
    cell = λ i h. f.cell i ∙ rw (le-leb 0 i (omega arith), lt-ltb i (0 + n) (omega arith));
  }

  pub painted_more : {r : ℕ} {m m' : List ℕ} → Painted l col row r n m → r < length l / 4 → length m' ≡ length m
      → ((i : ℕ) → i < n → get_or m' i 0 ≡ choose (in_rectangle l r (col i) (row i)) 1 (get_or m i 0)) → Painted l col row (r + 1) n m'
  unfolding any_below
  painted_more {r} p h same drawn = record {
    count = omega arith;
    size = same ∙ p.size;
    cell = λ i h. drawn i h ∙ ap (choose (in_rectangle l r (col i) (row i)) 1) (p.cell i h)
        ∙ joined (any_below r (λ k. in_rectangle l k (col i) (row i))) (in_rectangle l r (col i) (row i)) ∙ rw (add-one r);
  }

  pub painted_all : {r : ℕ} {m₀ m : List ℕ} → Painted l col row r n m → length l / 4 ≤ r → length m₀ ≡ n → Result 0 true (λ i. byte_of (in_region l (col i) (row i))) m₀ m
  unfolding in_region
  painted_all {r} p h e = let q : r ≡ length l / 4 = omega (arith, p.count) in record { size = p.size ∙ sym e; cell = λ i b. rw q at (p.cell i (omega arith)) }

-- ---- the rectangles of an accepted call are inside
in_picture : (W H x y w h : ℕ) → bad_rectangle W H x y w h ≡ false → (x + w ≤ W) × (y + h ≤ H)
in_picture W H x y w h e =
    let p = neither (eqb w 0 || eqb h 0 || ltb W (x + w)) (ltb H (y + h)) e in
    let q = neither (eqb w 0 || eqb h 0) (ltb W (x + w)) p.0 in
    (ltb-false W (x + w) q.1, ltb-false H (y + h) p.1)

module _ (W H : ℕ) (l : List ℕ) (e : bad_rectangles W H l ≡ false) where
  pub each_inside : (r : ℕ) → r < length l / 4 → (get_or l (4 * r) 0 + get_or l (4 * r + 2) 0 ≤ W) × (get_or l (4 * r + 1) 0 + get_or l (4 * r + 3) 0 ≤ H)
  unfolding bad_rectangles
  each_inside r h = in_picture W H _ _ _ _ (none_of (length l / 4) _ e r h)

  pub rectangles_inside : {n : ℕ} → n ≡ W * H → Inside l W n
  rectangles_inside size = record { right = λ r h. (each_inside r h).0; bottom = λ r h. omega (arith, mul_comm W H, mul-le-mul_right W (each_inside r h).1) }

  -- nothing is drawn outside the picture
  pub outside_none : (x y : ℕ) → (x < W → y < H → ⊥) → in_region l x y ≡ false
  unfolding in_region
  outside_none x y out = not_any _ λ t. any_elim (length l / 4) (λ r. in_rectangle l r x y) t λ r h i.
      let p = each_inside r h in
      let q = box_elim (get_or l (4 * r) 0) (get_or l (4 * r + 1) 0) (get_or l (4 * r + 2) 0) (get_or l (4 * r + 3) 0) x y i in
      let a = within_elim (get_or l (4 * r) 0) (get_or l (4 * r + 2) 0) x q.0 in
      out (omega arith) (omega arith)
