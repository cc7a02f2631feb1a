-- Drawing a rectangle row by row: n bytes written one after the other fill a run, and each run is one row more of the rectangle.
-- Assumes nothing.
use mathlib.Core.Path.{◌≡◌, refl, ap, ◌∙◌}
use mathlib.Core.Bool.{Bool, true, false, ◌||◌}
use mathlib.Core.List.{List}
use Prim.Native.Nat.{ℕ, ◌+◌, ◌*◌, ◌-◌, ◌/◌, ◌%◌, ◌<◌, ◌≤◌}
use native.Mathlib.Nat.{div-add-mod'}
use native.Mathlib.Omega.{arith}
use borrow.Author.Tests.{lt-ltb, le-ltb, le-leb, lt-leb, ltb-true, leb-true}
use lib.Arith.{digits_div, digits_mod}
use lib.Dec.{leb, ltb}
use lib.ListN.{get_or}
use Rattle.line.specs.Cells.{choose}
use Rattle.line.proofs.Cells.{by_lt}
use Rattle.line.proofs.Marks.{both_ways, or_left, or_right, or_cases, and_both, and_parts}
use Rattle.refusal.proofs.Made.{Made}
use Rattle.region.specs.Region.{in_box}
use Rattle.region.specs.Drawing.{within, Filled, Drawn}

-- ---- a run of bytes
pub made_filled : {b at n : ℕ} {l l' : List ℕ} → Made 0 (λ _. b) at (at + n) l l' → Filled b at n l l'
made_filled {b} {at} {n} m = record {
  size = m.size;
  cell = λ i. by_lt i at
      (λ lt. rw (lt-leb at i lt) (m.below i lt))
      (λ ge. by_lt i (at + n)
      (λ lt. rw (le-leb at i ge, lt-ltb i (at + n) lt) (m.on i lt ge))
      (λ past. rw (le-leb at i ge, le-ltb i (at + n) past) (m.above i past)));
}

pub within_intro : (at n i : ℕ) → at ≤ i → i < at + n → within at n i ≡ true
within_intro at n i p q = and_both _ _ (le-leb at i p) (lt-ltb i (at + n) q)

pub within_elim : (at n i : ℕ) → within at n i ≡ true → (at ≤ i) × (i < at + n)
within_elim at n i e = let p = and_parts (leb at i) (ltb i (at + n)) e in (leb-true at i p.0, ltb-true i (at + n) p.1)

-- ---- a rectangle
module _ (x y w h c r : ℕ) where
  pub box_intro : within x w c ≡ true → y ≤ r → r < y + h → in_box x y w h c r ≡ true
  box_intro p q s = and_both _ _ (and_both _ _ p (le-leb y r q)) (lt-ltb r (y + h) s)

  pub box_elim : in_box x y w h c r ≡ true → (within x w c ≡ true) × (y ≤ r) × (r < y + h)
  box_elim e =
      let p = and_parts _ (ltb r (y + h)) e in
      let q = and_parts (within x w c) (leb y r) p.0 in
      (q.0, leb-true y r q.1, ltb-true r (y + h) p.1)

pub twice : (a b : Bool) (v z : ℕ) → choose a v (choose b v z) ≡ choose (a || b) v z
twice true b v z = refl
twice false b v z = refl

pub kept : (b : Bool) (v z : ℕ) → (b ≡ true → ⊥) → z ≡ choose b v z
kept true v z h = absurd (h refl)
kept false v z h = refl

-- row y + k of a rectangle, in rows of W
module _ (x y w W : ℕ) (fit : x + w ≤ W) (k i : ℕ) where
  row_in : within ((y + k) * W + x) w i ≡ true → in_box x y w (k + 1) (i % W) (i / W) ≡ true
  row_in e =
      let p = within_elim ((y + k) * W + x) w i e in
      let d : ℕ = i - (y + k) * W in
      let lt : d < W = omega arith in
      let q : i / W ≡ y + k = ap (λ z. z / W) (omega arith) ∙ digits_div (y + k) lt in
      let s : i % W ≡ d = ap (λ z. z % W) (omega arith) ∙ digits_mod (y + k) lt in
      box_intro x y w (k + 1) (i % W) (i / W) (within_intro x w (i % W) (omega arith) (omega arith)) (omega arith) (omega arith)

  in_row : in_box x y w (k + 1) (i % W) (i / W) ≡ true → y + k ≤ i / W → within ((y + k) * W + x) w i ≡ true
  in_row e ge =
      let p = box_elim x y w (k + 1) (i % W) (i / W) e in
      let q = within_elim x w (i % W) p.0 in
      let s : i / W * W ≡ (y + k) * W = ap (λ z. z * W) (omega arith) in
      within_intro ((y + k) * W + x) w i (omega (arith, div-add-mod' i W)) (omega (arith, div-add-mod' i W))

  row_more : (within ((y + k) * W + x) w i || in_box x y w k (i % W) (i / W)) ≡ in_box x y w (k + 1) (i % W) (i / W)
  row_more = both_ways _ _
      (λ e. or_cases _ _ e row_in (λ o. let p = box_elim x y w k (i % W) (i / W) o in box_intro x y w (k + 1) (i % W) (i / W) p.0 p.1 (omega arith)))
      (λ e. by_lt (i / W) (y + k)
      (λ lt. let p = box_elim x y w (k + 1) (i % W) (i / W) e in or_right (within ((y + k) * W + x) w i) _ (box_intro x y w k (i % W) (i / W) p.0 p.1 lt))
      (λ ge. or_left _ _ (in_row e ge)))

module _ {x y w W : ℕ} {l : List ℕ} where
  pub drawn_none : Drawn x y w 0 W l l
  drawn_none = record { size = refl; cell = λ i. kept (in_box x y w 0 (i % W) (i / W)) 1 (get_or l i 0) (λ e. let p = box_elim x y w 0 (i % W) (i / W) e in omega arith) }

  pub drawn_more : {n : ℕ} {l' l'' : List ℕ} → x + w ≤ W → y ≤ n → Drawn x y w (n - y) W l l' → Filled 1 (n * W + x) w l' l'' → Drawn x y w (n + 1 - y) W l l''
  drawn_more {n} fit from p q =
      let k : ℕ = n - y in
      let e : y + k ≡ n = omega arith in
      let f = rw (← e) at q in record {
        size = f.size ∙ p.size;
        cell = λ i. f.cell i ∙ ap (choose (within ((y + k) * W + x) w i) 1) (p.cell i)
            ∙ twice (within ((y + k) * W + x) w i) (in_box x y w k (i % W) (i / W)) 1 (get_or l i 0) ∙ ap (λ b. choose b 1 (get_or l i 0)) (row_more x y w W fit k i ∙ ap (λ m. in_box x y w m (i % W) (i / W)) (omega arith));
      }
