-- Drawing a rectangle placed, row by row: of each row a run of evens and a run of odds are one row more of the rectangle.
-- Assumes nothing.
use mathlib.Core.Path.{◌≡◌, refl, sym, ap, ◌∙◌}
use mathlib.Core.Bool.{Bool, true, false, ◌||◌}
use mathlib.Core.List.{List}
use Prim.Native.Nat.{ℕ, ◌+◌, ◌*◌, ◌-◌, ◌/◌, ◌%◌, ◌<◌, ◌≤◌}
use native.Mathlib.Nat.{div-add-mod', mod-lt, div-lt_iff_lt-mul, mul-le-mul_right}
use native.Mathlib.Omega.{arith}
use lib.Arith.{digits_div, digits_mod}
use lib.ListN.{length, get_or}
use Rattle.line.specs.Cells.{choose, low_side}
use Rattle.line.specs.Mask.{byte_of}
use Rattle.line.proofs.Cells.{by_lt, by_parity, low_left}
use Rattle.line.proofs.Marks.{both_ways, or_left, or_right, or_cases}
use Rattle.grid.specs.Placed.{woven, placed}
use Rattle.grid.proofs.Passes.{factor_pos}
use Rattle.grid.proofs.Parted.{source, source_low, source_high, woven_even, woven_odd, placed_cell}
use Rattle.refusal.specs.Tests.{bad_rectangles}
use Rattle.refusal.specs.Results.{Result}
use Rattle.region.specs.Region.{in_box, in_region}
use Rattle.region.specs.Drawing.{within, Filled, placed_byte, DrawnPlaced, Framed}
use Rattle.region.proofs.Boxes.{within_intro, within_elim, box_intro, box_elim, twice, kept}
use Rattle.region.proofs.Painted.{each_inside}

-- ---- where a cell of a line ends, and where it comes from
module _ (w : ℕ) where
  pub place_lt : (n : ℕ) → n < w → woven w (λ i. i) n < w
  place_lt = by_parity (λ n. n < w → woven w (λ i. i) n < w)
      (λ q h. rw (woven_even w q (λ i. i)) (omega arith))
      (λ q h. rw (woven_odd w q (λ i. i)) (omega arith))

  pub source_place : (n : ℕ) → n < w → source w (woven w (λ i. i) n) ≡ n
  source_place = by_parity (λ n. n < w → source w (woven w (λ i. i) n) ≡ n)
      (λ q h. rw (woven_even w q (λ i. i)) (source_low w q (omega arith)))
      (λ q h. rw (woven_odd w q (λ i. i)) (source_high w (low_side w + q) (omega arith) ∙ omega arith))

  pub place_source : (n : ℕ) → n < w → woven w (λ i. i) (source w n) ≡ n
  place_source n h = by_lt n (low_side w)
      (λ lt. rw (source_low w n lt) (woven_even w n (λ i. i)))
      (λ ge. rw (source_high w n ge) (woven_odd w (n - low_side w) (λ i. i) ∙ omega arith))

  -- either kind of cell
  pub place_even : (n : ℕ) → n % 2 ≡ 0 → n / 2 ≡ woven w (λ i. i) n
  place_even n h = let e : 2 * (n / 2) ≡ n = omega arith in sym (woven_even w (n / 2) (λ i. i)) ∙ ap (woven w (λ i. i)) e

  pub place_odd : (n : ℕ) → n % 2 ≡ 1 → w - w / 2 + n / 2 ≡ woven w (λ i. i) n
  place_odd n h =
      let e : 2 * (n / 2) + 1 ≡ n = omega arith in
      ap (λ m. m + n / 2) (low_left w) ∙ sym (woven_odd w (n / 2) (λ i. i)) ∙ ap (woven w (λ i. i)) e

-- ---- row y + k of a rectangle x, y, w, .. in a picture of W by H; its evens are of columns (x + 1) / 2 .., its odds of low_side W + x / 2 ..
module _ (x y w W H : ℕ) (fit : x + w ≤ W) (k : ℕ) (low : y + k < H) where
  abbrev row : ℕ
  row = woven H (λ i. i) (y + k)

  -- the place d of that row
  place_of : (i d : ℕ) → d < W → i ≡ row * W + d → (i / W ≡ row) × (i % W ≡ d)
  place_of i d lt e = (ap (λ z. z / W) e ∙ digits_div row lt, ap (λ z. z % W) e ∙ digits_mod row lt)

  abbrev evens : ℕ → Bool
  evens = within (row * W + (x + 1) / 2) ((x + w + 1) / 2 - (x + 1) / 2)

  abbrev odds : ℕ → Bool
  odds = within (row * W + (W - W / 2) + x / 2) ((x + w) / 2 - x / 2)

  abbrev InRow : ℕ → ℕ → Type 0
  InRow h i = in_box x y w h (source W (i % W)) (source H (i / W)) ≡ true

  in_box_row : (i c : ℕ) → i / W ≡ row → source W (i % W) ≡ c → x ≤ c → c < x + w → InRow (k + 1) i
  in_box_row i c q s lo hi =
      let r : source H (i / W) ≡ y + k = ap (source H) q ∙ source_place H (y + k) low in
      box_intro x y w (k + 1) (source W (i % W)) (source H (i / W)) (within_intro x w (source W (i % W)) (omega arith) (omega arith)) (omega arith) (omega arith)

  evens_in : (i : ℕ) → evens i ≡ true → InRow (k + 1) i
  evens_in i e =
      let p = within_elim (row * W + (x + 1) / 2) ((x + w + 1) / 2 - (x + 1) / 2) i e in
      let d : ℕ = i - row * W in
      let o = place_of i d (omega arith) (omega arith) in
      in_box_row i (2 * d) o.0 (ap (source W) o.1 ∙ source_low W d (omega arith)) (omega arith) (omega arith)

  odds_in : (i : ℕ) → odds i ≡ true → InRow (k + 1) i
  odds_in i e =
      let p = within_elim (row * W + (W - W / 2) + x / 2) ((x + w) / 2 - x / 2) i e in
      let d : ℕ = i - row * W in
      let o = place_of i d (omega arith) (omega arith) in
      in_box_row i (2 * (d - low_side W) + 1) o.0 (ap (source W) o.1 ∙ source_high W d (omega arith)) (omega arith) (omega arith)

  -- a place of the row is in one of the two runs
  in_runs : (i : ℕ) → i < H * W → InRow (k + 1) i → y + k ≤ source H (i / W) → (odds i || evens i) ≡ true
  in_runs i lt e ge =
      let some : 0 < W = factor_pos H W (omega arith) in
      let p = box_elim x y w (k + 1) (source W (i % W)) (source H (i / W)) e in
      let q = within_elim x w (source W (i % W)) p.0 in
      let s : source H (i / W) ≡ y + k = omega arith in
      let r : i / W ≡ woven H (λ i. i) (y + k) = sym (place_source H (i / W) ((div-lt_iff_lt-mul some).1 lt)) ∙ ap (woven H (λ i. i)) s in
      let m : i / W * W ≡ woven H (λ i. i) (y + k) * W = ap (λ z. z * W) r in
      let t = div-add-mod' i W in
      let b = mod-lt i some in
      by_lt (i % W) (low_side W)
      (λ near. let c = source_low W (i % W) near in or_right (odds i) _ (within_intro _ _ i (omega arith) (omega arith)))
      (λ far. let c = source_high W (i % W) far in or_left _ _ (within_intro _ _ i (omega arith) (omega arith)))

  row_placed : (i : ℕ) → i < H * W → (odds i || evens i || in_box x y w k (source W (i % W)) (source H (i / W)))
      ≡ in_box x y w (k + 1) (source W (i % W)) (source H (i / W))
  row_placed i lt = both_ways _ _
      (λ e. or_cases _ _ e
      (λ o. or_cases _ _ o (odds_in i) (evens_in i))
      (λ o. let p = box_elim x y w k (source W (i % W)) (source H (i / W)) o in box_intro x y w (k + 1) (source W (i % W)) (source H (i / W)) p.0 p.1 (omega arith)))
      (λ e. by_lt (source H (i / W)) (y + k)
      (λ before. let p = box_elim x y w (k + 1) (source W (i % W)) (source H (i / W)) e in or_right (odds i || evens i) _ (box_intro x y w k (source W (i % W)) (source H (i / W)) p.0 p.1 before))
      (λ ge. or_left _ _ (in_runs i lt e ge)))

-- ---- a rectangle, row by row
module _ (x y w W H : ℕ) where
  -- whether place i is in the first k rows
  box_placed : (k i : ℕ) → i < H * W → placed W H (λ r c. in_box x y w k c r) (i / W) (i % W) ≡ in_box x y w k (source W (i % W)) (source H (i / W))
  box_placed k i h =
      let some : 0 < W = factor_pos H W (omega arith) in
      placed_cell W H (λ r c. in_box x y w k c r) (i / W) (i % W) ((div-lt_iff_lt-mul some).1 h) (mod-lt i some)

  pub placed_none : (l : List ℕ) → DrawnPlaced x y w 0 W H l l
  placed_none l = record {
    size = refl;
    cell = λ i h. kept _ 1 (get_or l i 0)
        (λ e. let p = box_elim x y w 0 (source W (i % W)) (source H (i / W)) (sym (box_placed 0 i h) ∙ e) in omega arith);
  }

  pub placed_more : {l l₁ l₂ l₃ : List ℕ} (k : ℕ) → x + w ≤ W → y + k < H → DrawnPlaced x y w k W H l l₁
      → Filled 1 (woven H (λ i. i) (y + k) * W + (x + 1) / 2) ((x + w + 1) / 2 - (x + 1) / 2) l₁ l₂
      → Filled 1 (woven H (λ i. i) (y + k) * W + (W - W / 2) + x / 2) ((x + w) / 2 - x / 2) l₂ l₃ → DrawnPlaced x y w (k + 1) W H l l₃
  placed_more {l} {l₁} {l₂} {l₃} k fit low p f g =
      let at : ℕ = woven H (λ i. i) (y + k) * W in
      let evens : ℕ → Bool = within (at + (x + 1) / 2) ((x + w + 1) / 2 - (x + 1) / 2) in
      let odds : ℕ → Bool = within (at + (W - W / 2) + x / 2) ((x + w) / 2 - x / 2) in record {
        size = g.size ∙ f.size ∙ p.size;
        cell = λ i h.
            let b : Bool = in_box x y w k (source W (i % W)) (source H (i / W)) in
            g.cell i ∙ ap (choose (odds i) 1) (f.cell i) ∙ twice (odds i) (evens i) 1 (get_or l₁ i 0)
            ∙ ap (choose (odds i || evens i) 1) (p.cell i h ∙ ap (λ q. choose q 1 (get_or l i 0)) (box_placed k i h))
            ∙ twice (odds i || evens i) b 1 (get_or l i 0)
            ∙ ap (λ q. choose q 1 (get_or l i 0)) (row_placed x y w W H fit k low i h ∙ sym (box_placed (k + 1) i h));
      }

  -- row n of the picture, which ends at row m
  pub placed_row : {l l₁ l₂ l₃ : List ℕ} {n m : ℕ} → x + w ≤ W → y ≤ n → n < H → m ≡ woven H (λ i. i) n → DrawnPlaced x y w (n - y) W H l l₁
      → Filled 1 (m * W + (x + 1) / 2) ((x + w + 1) / 2 - (x + 1) / 2) l₁ l₂ → Filled 1 (m * W + (W - W / 2) + x / 2) ((x + w) / 2 - x / 2) l₂ l₃
      → DrawnPlaced x y w (n + 1 - y) W H l l₃
  placed_row {n = n} {m} fit from low e p f g =
      let k : y + (n - y) ≡ n = omega arith in
      let more : n - y + 1 ≡ n + 1 - y = omega arith in
      let q : m ≡ woven H (λ i. i) (y + (n - y)) = e ∙ ap (woven H (λ i. i)) (sym k) in
      rw more at (placed_more (n - y) fit (omega arith) p (rw q at f) (rw q at g))

  -- a row of the picture is inside it
  pub row_ends : {n m : ℕ} → n < H → m ≡ woven H (λ i. i) n → m * W + W ≤ H * W
  row_ends {n} {m} low e = let p = place_lt H n low in omega (arith, mul-le-mul_right {m = m + 1} {n = H} W (omega arith))

  pub placed_box : {l l' : List ℕ} {k : ℕ} → DrawnPlaced x y w k W H l l' → (i : ℕ) → i < H * W
      → get_or l' i 0 ≡ choose (in_box x y w k (source W (i % W)) (source H (i / W))) 1 (get_or l i 0)
  placed_box {l} {k = k} p i h = p.cell i h ∙ ap (λ q. choose q 1 (get_or l i 0)) (box_placed k i h)

-- ---- the region of all rectangles
module _ {l : List ℕ} {W H : ℕ} where
  pub region_placed : {m₀ m : List ℕ} → Framed l W H (length m₀) → Result 0 true (λ i. byte_of (in_region l (source W (i % W)) (source H (i / W)))) m₀ m
      → Result 0 true (placed_byte l W H) m₀ m
  region_placed {m₀} z p = record {
    size = p.size;
    cell = λ i h.
        let some : 0 < W = factor_pos H W (omega (arith, z.full)) in
        p.cell i h
        ∙ ap byte_of (sym (placed_cell W H (λ r c. in_region l c r) (i / W) (i % W) ((div-lt_iff_lt-mul some).1 (omega (arith, z.full))) (mod-lt i some)));
  }

  -- the rectangles of an accepted call are framed
  pub rectangles_framed : {n : ℕ} → bad_rectangles W H l ≡ false → n ≡ H * W → Framed l W H n
  rectangles_framed e full = record {
    right = λ r h. (each_inside W H l e r h).0;
    bottom = λ r h. (each_inside W H l e r h).1;
    full = full;
  }
