-- A level's way in, pair after pair of rows of samples.
--
--   row_at w M c i      == where row i of the lows begins, or row i of the highs, behind M rows of lows
--   part_at w M c       == where the lows begin, or the highs
--   even_rows R x       == the numbers of column x in the even rows of R
--   odd_rows R x        == in the odd rows
--   sample_at R c i x   == number x of the even row, or of the odd row, of pair i of the picture R
--   first_at k R M K c i x
--                       == after the first step of the columns
--   level_at k R M K c i x
--                       == after the second
--   Rising k R M K w u e b q l
--                       == so far l is u with its first e pairs done, the first step of those up to b, and those up to q stored
--
-- Assumes nothing.
use mathlib.Core.Path.{◌≡◌, sym, ap, ◌∙◌, fun_ext}
use mathlib.Core.Bool.{Bool, true, false}
use mathlib.Core.List.{List}
use Prim.Native.Nat.{ℕ, ◌+◌, ◌*◌, ◌-◌, ◌/◌, ◌^◌, ◌<◌, ◌≤◌, min}
use native.Mathlib.Nat.{add-mul, mul-le-mul_right}
use native.Mathlib.Omega.{arith}
use lib.IntN.{ℤ, pos}
use lib.ListN.{length, get_or-eq_default}
use Rattle.kernel.specs.declared.Kernel.{Kernel}
use Rattle.line.specs.Cells.{Line, cell, low_side, paired}
use Rattle.whole.specs.Within.{Within}
use Rattle.line.specs.Inner.{Agree, AllWithin}
use Rattle.line.specs.Transform.{forward}
use Rattle.line.proofs.Bounds.{within_more, low_within}
use Rattle.line.proofs.Cells.{by_lt, by_parity, joined_low, joined_high, paired_even, paired_odd}
use Rattle.line.proofs.Local.{low_local, high_local}
use Rattle.grid.specs.Picture.{Picture, row_pass, turned, col_pass, picture}
use Rattle.grid.proofs.Passes as grid
use Rattle.grid.proofs.Passes.{row_of}
use Rattle.grid.proofs.Outside.{row_below, row_right}
use Rattle.grid.proofs.Parted.{row_cell}
use Rattle.lifting.specs.Parts.{lane, Parts, Bounded, Both}
use Rattle.lifting.specs.Lines.{RowsWithin, first_lows, first_highs, second_lows, second_highs, SecondTakes, lows_of, highs_of}
use Rattle.lifting.proofs.TwoSteps.{first_low_there, first_high_there, second_low_there, second_high_there, done_first, done_second, done_lows, done_highs, Holds, holds_in, takes}
use Rattle.passes.specs.Passes.{pictured, Area}
use Rattle.passes.specs.Pairs.{PairsIn}
use Rattle.passes.proofs.Running.{area_place}
use Rattle.passes.proofs.Forms.{forward-joined}
use Rattle.passes.proofs.Swept.{counts, Apart, Changed, Swept, place_more, begin_more, end_more, Ahead, begun_to, placed_to, ahead_more, more_begun, more_placed, begin_ahead}

-- ---- where rows begin, and what they hold
abbrev pub row_at : ℕ → ℕ → Bool → ℕ → ℕ
row_at w M false i = i * w
row_at w M true i = (M + i) * w

abbrev pub part_at : ℕ → ℕ → Bool → ℕ
part_at w M false = 0
part_at w M true = M * w

pub rows_apart : (w M K : ℕ) → Apart (row_at w M) (counts M K) w
rows_apart w M K false false i i' x x' a b h h' e = row_of w i i' x x' h h' e
rows_apart w M K false true i i' x x' a b h h' e = omega (arith, row_of w i (M + i') x x' h h' e)
rows_apart w M K true false i i' x x' a b h h' e = omega (arith, row_of w (M + i) i' x x' h h' e)
rows_apart w M K true true i i' x x' a b h h' e = omega (arith, row_of w (M + i) (M + i') x x' h h' e)

part_row : (w M : ℕ) (c : Bool) (i x : ℕ) → part_at w M c + i * w + x ≡ row_at w M c i + x
part_row w M false i x = omega arith
part_row w M true i x = omega (arith, add-mul M i w)

abbrev pub even_rows : Picture ℤ → ℕ → Line ℤ
even_rows R x n = R (2 * n) x

abbrev pub odd_rows : Picture ℤ → ℕ → Line ℤ
odd_rows R x n = R (2 * n + 1) x

abbrev pub sample_at : Picture ℤ → Bool → ℕ → Line ℤ
sample_at R false i x = even_rows R x i
sample_at R true i x = odd_rows R x i

abbrev pub first_at : Kernel → Picture ℤ → ℕ → ℕ → Bool → ℕ → Line ℤ
first_at k R M K false i x = first_lows false k K (even_rows R x) (odd_rows R x) i
first_at k R M K true i x = first_highs false k M (even_rows R x) (odd_rows R x) i

abbrev pub level_at : Kernel → Picture ℤ → ℕ → ℕ → Bool → ℕ → Line ℤ
level_at k R M K false i x = lows_of k M K (even_rows R x) (odd_rows R x) i
level_at k R M K true i x = highs_of k M K (even_rows R x) (odd_rows R x) i

pub record Rising (k : Kernel) (R : Picture ℤ) (M K w : ℕ) (u : List ℤ) (e b q : ℕ) (l : List ℤ) : Type 0 where
  pub swept : Swept (row_at w M) (sample_at R) (first_at k R M K) (level_at k R M K) (counts M K) w u e b q l

-- ---- pairs that are stored
module _ {k : Kernel} {s : List ℕ} {w q f : ℕ} {l l' : List ℤ} (h : ℕ) (top : f ≤ low_side h) (t : PairsIn k s w h q f l l') where
  pub stored_changed : Changed (row_at w (low_side h)) (counts (low_side h) (h / 2)) w q f l l'
  stored_changed = record { size = t.size; off = λ j no. t.off j (λ i x a b. no false i x a b (omega arith)) (λ i x a b. no true i x a b) }

  pub stored_new : (c : Bool) (i x : ℕ) → q ≤ i → i < f → i < counts (low_side h) (h / 2) c → x < w
      → cell l' (row_at w (low_side h) c i + x) ≡ sample_at (row_pass (forward k) w h (pictured w s)) c i x
  stored_new false i x a b m lt = t.low i x a b lt ∙ sym (row_cell (forward k) w h (2 * i) x (pictured w s) (omega arith) lt)
  stored_new true i x a b m lt = t.high i x a b m lt ∙ sym (row_cell (forward k) w h (2 * i + 1) x (pictured w s) (omega arith) lt)

-- ---- p rows of lows and r rows of highs
pub parts_in : {w h size : ℕ} (p r : ℕ) → Area w w h size → p ≤ low_side h → r ≤ h / 2 → Parts 0 (low_side h * w) w p r w size
parts_in {w} {h} {size} p r z low high = record {
  few = (omega (arith, z.h_most), omega (arith, z.h_most));
  lines = z.some_w;
  wide = omega arith;
  first = record { place = λ n j a c. omega (arith, area_place z n j (omega arith) c) };
  second = record { place = λ n j a c. omega (arith, part_row w (low_side h) true n j, area_place z (low_side h + n) j (omega arith) c) };
  apart = λ n j n' j' a c a' c' e. omega (arith, row_of w n (low_side h + n') j j' c c' (omega (arith, e, part_row w (low_side h) true n' j')));
}

-- ---- a sweep that has come to pair e
module _ {k : Kernel} {R : Picture ℤ} {M K w e b q : ℕ} (u l : List ℤ) (le : K ≤ M) (fit : M ≤ K + 1) (eb : e ≤ b) (bq : b ≤ q) (qm : q ≤ M) (r : Rising k R M K w u e b q l) where
  abbrev row : Bool → ℕ → Line ℤ
  row c x = lane (part_at w M c) w l x

  abbrev first_low : ℕ → Line ℤ
  first_low x = first_lows false k K (even_rows R x) (odd_rows R x)

  abbrev first_high : ℕ → Line ℤ
  first_high x = first_highs false k M (even_rows R x) (odd_rows R x)

  row-cell_at : (c : Bool) (x i : ℕ) → row c x i ≡ cell l (row_at w M c i + x)
  row-cell_at c x i = ap (cell l) (part_row w M c i x)

  done_row : (c : Bool) (x i : ℕ) → x < w → i < e → i < counts M K c → row c x i ≡ level_at k R M K c i x
  done_row c x i h a m = row-cell_at c x i ∙ r.swept.done c i x a m h

  begun_row : (c : Bool) (x i : ℕ) → x < w → e ≤ i → i < b → i < counts M K c → row c x i ≡ first_at k R M K c i x
  begun_row c x i h a d m = row-cell_at c x i ∙ r.swept.begun c i x a d m h

  stored_row : (c : Bool) (x i : ℕ) → x < w → b ≤ i → i < q → i < counts M K c → row c x i ≡ sample_at R c i x
  stored_row c x i h a d m = row-cell_at c x i ∙ r.swept.placed c i x a d m h

  rows_hold : (x : ℕ) → x < w → Holds k 0 b (min b K) (first_low x) (first_high x) (row false x) (row true x)
  rows_hold x h = holds_in k M K e b (min b K) (even_rows R x) (odd_rows R x) (row false x) (row true x) le (omega arith) (omega arith)
      (λ i a d. done_row false x i h a (omega arith)) (λ i a d. done_row true x i h a (omega arith))
      (λ i a d. begun_row false x i h a d (omega arith)) (λ i a d. begun_row true x i h a (omega arith) (omega arith))

  module _ (cols : (x : ℕ) → x < w → AllWithin (5 * 2 ^ 22) (M + K) (turned R x)) where
    even_within : (x : ℕ) → x < w → AllWithin (5 * 2 ^ 22) M (even_rows R x)
    even_within x h i a = cols x h (2 * i) (omega arith)

    odd_within : (x : ℕ) → x < w → AllWithin (5 * 2 ^ 22) K (odd_rows R x)
    odd_within x h i a = cols x h (2 * i + 1) (omega arith)

    paired_within : (x : ℕ) → x < w → AllWithin (5 * 2 ^ 22) (M + K) (paired (even_rows R x) (odd_rows R x))
    paired_within x h = by_parity (λ n. n < M + K → Within (5 * 2 ^ 22) (paired (even_rows R x) (odd_rows R x) n))
        (λ n a. rw (paired_even (even_rows R x) (odd_rows R x) n) (cols x h (2 * n) a)) (λ n a. rw (paired_odd (even_rows R x) (odd_rows R x) n) (cols x h (2 * n + 1) a))

    -- what the first step takes
    pub lows_taken : Bounded (2 ^ 29) 0 w q w l
    lows_taken = record {
      each = λ x h i a. by_lt i e
          (λ lt. rw (done_row false x i h lt (omega arith))
          (within_more (low_within M K (5 * 2 ^ 22) (paired (even_rows R x) (odd_rows R x)) le fit (paired_within x h) k i (omega arith)) (omega arith)))
          (λ ge. by_lt i b
          (λ lt. rw (begun_row false x i h ge lt (omega arith)) (within_more (done_lows M K (even_rows R x) (odd_rows R x) le (even_within x h) (odd_within x h) k i (omega arith)) (omega arith)))
          (λ far. rw (stored_row false x i h far a (omega arith)) (within_more (even_within x h i (omega arith)) (omega arith))));
    }

    pub highs_taken : {f : ℕ} → f ≤ q → RowsWithin (2 ^ 29) (M * w) w w b (min f (min q K)) l
    highs_taken fq = record { each = λ i x a d h. rw (stored_row true x i h a (omega arith) (omega arith)) (within_more (odd_within x h i (omega arith)) (omega arith)) }

    -- what the second takes, on pair e
    pub second_taken : e < b → SecondTakes k 0 (M * w) w b (min b K) w e (e + 1) l
    second_taken lt = takes 0 (M * w) w b (min b K) w e (e + 1) l M K 0 first_low first_high (omega arith) (omega arith) (omega arith)
        (λ x h. done_lows M K (even_rows R x) (odd_rows R x) le (even_within x h) (odd_within x h) k) (λ x h. done_highs M K (even_rows R x) (odd_rows R x) le (even_within x h) (odd_within x h) k)
        (λ i x a d h. begun_row false x i h a (omega arith) (omega arith) ∙ ap (first_low x) (omega arith))
        (λ i x a d o h. begun_row true x i h a (omega arith) (omega arith) ∙ ap (first_high x) (omega arith))
        k rows_hold

  -- ---- pairs b up to f after the first step
  module _ {f : ℕ} {l' : List ℤ} (fq : f ≤ q) (ahead : min (f + 1) M ≤ q)
      (t : Both (first_lows false k (min q K)) (first_highs false k q) 0 (M * w) w w b f (min f (min q K)) l l') where
    pub first_changed : Changed (row_at w M) (counts M K) w b f l l'
    first_changed = record {
      size = t.size;
      off = λ j no. t.off j
          (λ i x a d h o. no false i x a d (omega arith) h (o ∙ part_row w M false i x)) (λ i x a d h o. no true i x a (omega arith) (omega arith) h (o ∙ part_row w M true i x));
    }

    first_low_here : (x i : ℕ) → x < w → b ≤ i → i < f → first_lows false k (min q K) (row false x) (row true x) i ≡ first_at k R M K false i x
    first_low_here x i h a d =
        let z : 0 + i ≡ i = omega arith in
        rw z at (first_low_there false M K 0 q (min q K) i (even_rows R x) (odd_rows R x) (row false x) (row true x) (omega arith) (omega arith) (omega arith) (omega arith) k
        (stored_row false x i h a (omega arith) (omega arith) ∙ ap (even_rows R x) (omega arith)) (λ lt. stored_row true x i h a (omega arith) (omega arith) ∙ ap (odd_rows R x) (omega arith)))

    first_high_here : (x i : ℕ) → x < w → b ≤ i → i < f → i < K → first_highs false k q (row false x) (row true x) i ≡ first_at k R M K true i x
    first_high_here x i h a d m =
        let z : 0 + i ≡ i = omega arith in
        rw z at (first_high_there false M K 0 q (min q K) i (even_rows R x) (odd_rows R x) (row false x) (row true x) (omega arith) (omega arith) (omega arith) (omega arith) k (omega arith)
        (λ j c g. stored_row false x j h (omega arith) g (omega arith) ∙ ap (even_rows R x) (omega arith)) (stored_row true x i h a (omega arith) m ∙ ap (odd_rows R x) (omega arith)))

    pub first_new : (c : Bool) (i x : ℕ) → b ≤ i → i < f → i < counts M K c → x < w → cell l' (row_at w M c i + x) ≡ first_at k R M K c i x
    first_new false i x a d m h = sym (ap (cell l') (part_row w M false i x)) ∙ t.first i x a d h ∙ first_low_here x i h a d
    first_new true i x a d m h = sym (ap (cell l') (part_row w M true i x)) ∙ t.second i x a (omega arith) h ∙ first_high_here x i h a d m

  -- ---- pair e after the second
  module _ {l' : List ℤ} (lt : e < b) (ahead : min (e + 3) M ≤ b)
      (t : Both (second_lows false k (min b K)) (second_highs false k b) 0 (M * w) w w e (e + 1) (min (e + 1) (min b K)) l l') where
    pub second_changed : Changed (row_at w M) (counts M K) w e (e + 1) l l'
    second_changed = record {
      size = t.size;
      off = λ j no. t.off j
          (λ i x a d h o. no false i x a d (omega arith) h (o ∙ part_row w M false i x)) (λ i x a d h o. no true i x a (omega arith) (omega arith) h (o ∙ part_row w M true i x));
    }

    second_low_here : (x : ℕ) → x < w → second_lows false k (min b K) (row false x) (row true x) e ≡ level_at k R M K false e x
    second_low_here x h =
        let z : 0 + e ≡ e = omega arith in
        rw z at (second_low_there false M K 0 b (min b K) e (first_low x) (first_high x) (row false x) (row true x) lt (omega arith) k (omega arith) (omega arith) (omega arith) (rows_hold x h)
        (begun_row false x e h (omega arith) lt (omega arith) ∙ ap (first_low x) (omega arith)))
        ∙ done_first M K (even_rows R x) (odd_rows R x) le k e (omega arith)

    second_high_here : (x : ℕ) → x < w → e < K → second_highs false k b (row false x) (row true x) e ≡ level_at k R M K true e x
    second_high_here x h m =
        let z : 0 + e ≡ e = omega arith in
        rw z at (second_high_there false M K 0 b (min b K) e (first_low x) (first_high x) (row false x) (row true x) lt (omega arith) k (omega arith) (omega arith) (rows_hold x h)
        (begun_row true x e h (omega arith) lt m ∙ ap (first_high x) (omega arith)))
        ∙ done_second M K (even_rows R x) (odd_rows R x) le k e m

    pub second_new : (c : Bool) (x : ℕ) → e < counts M K c → x < w → cell l' (row_at w M c e + x) ≡ level_at k R M K c e x
    second_new false x m h = sym (ap (cell l') (part_row w M false e x)) ∙ t.first e x (omega arith) (omega arith) h ∙ second_low_here x h
    second_new true x m h = sym (ap (cell l') (part_row w M true e x)) ∙ t.second e x (omega arith) (omega arith) h ∙ second_high_here x h m

-- ---- the whole level
module _ (k : Kernel) (w h : ℕ) (R : Picture ℤ) where
  column_agree : (x : ℕ) → Agree (low_side h + h / 2) (paired (even_rows R x) (odd_rows R x)) (turned R x)
  column_agree x = by_parity (λ n. n < low_side h + h / 2 → paired (even_rows R x) (odd_rows R x) n ≡ turned R x n) (λ n a. paired_even (even_rows R x) (odd_rows R x) n) (λ n a. paired_odd (even_rows R x) (odd_rows R x) n)

  column_low : (i x : ℕ) → i < low_side h → x < w → level_at k R (low_side h) (h / 2) false i x ≡ col_pass (forward k) w h R i x
  column_low i x a b = low_local (low_side h) (h / 2) (paired (even_rows R x) (odd_rows R x)) (turned R x) (omega arith) (omega arith) (column_agree x) k i a
      ∙ sym (ap (λ (X : Line ℤ). X i) (forward-joined k h (turned R x)) ∙ joined_low (low_side h) _ _ i a) ∙ sym (row_cell (forward k) h w x i (turned R) b (omega arith))

  column_high : (i x : ℕ) → i < h / 2 → x < w → level_at k R (low_side h) (h / 2) true i x ≡ col_pass (forward k) w h R (low_side h + i) x
  column_high i x a b = high_local (low_side h) (h / 2) (paired (even_rows R x) (odd_rows R x)) (turned R x) (omega arith) (omega arith) (column_agree x) k i a
      ∙ sym (ap (λ (X : Line ℤ). X (low_side h + i)) (forward-joined k h (turned R x)) ∙ joined_high (low_side h) _ _ i) ∙ sym (row_cell (forward k) h w x (low_side h + i) (turned R) b (omega arith))

  level_cell : {q : ℕ} {u l : List ℤ} → Rising k R (low_side h) (h / 2) w u (low_side h) (low_side h) q l → (y x : ℕ) → y < h → x < w → cell l (y * w + x) ≡ col_pass (forward k) w h R y x
  level_cell {l = l} r y x i j = by_lt y (low_side h)
      (λ lt. r.swept.done false y x lt lt j ∙ column_low y x lt j)
      (λ ge. let e : low_side h + (y - low_side h) ≡ y = omega arith in let p = r.swept.done true (y - low_side h) x (omega arith) (omega arith) j ∙ column_high (y - low_side h) x (omega arith) j in rw e at p)

pub level_all : {q : ℕ} {u l : List ℤ} (k : Kernel) (s : List ℕ) (w h : ℕ) → length u ≡ h * w → length s ≡ h * w
    → Rising k (row_pass (forward k) w h (pictured w s)) (low_side h) (h / 2) w u (low_side h) (low_side h) q l
    → picture (pos 0) w l ≡ col_pass (forward k) w h (row_pass (forward k) w h (pictured w s))
level_all {l = l} k s w h same-u same_s r = fun_ext λ y. fun_ext λ x. by_lt x w
    (λ j. by_lt y h
    (λ i. grid.cell (pos 0) w l y x j ∙ level_cell k w h (row_pass (forward k) w h (pictured w s)) r y x i j)
    (λ i. grid.cell (pos 0) w l y x j ∙ get_or-eq_default l (pos 0) (omega (arith, r.swept.size, digits_le y x i))
    ∙ sym (row_right (forward k) h w x y (turned (row_pass (forward k) w h (pictured w s))) i ∙ row_below (forward k) w h y x (pictured w s) i
    ∙ ap pos (grid.cell 0 w s y x j ∙ get_or-eq_default s 0 (omega (arith, digits_le y x i))))))
    (λ j. grid.cell_past (pos 0) w l y x j ∙ sym (row_below (forward k) h w x y (turned (row_pass (forward k) w h (pictured w s))) j ∙ row_right (forward k) w h y x (pictured w s) j ∙ ap pos (grid.cell_past 0 w s y x j)))
  where
    digits_le : (y x : ℕ) → h ≤ y → h * w ≤ y * w + x
    digits_le y x i = let le : h * w ≤ y * w = mul-le-mul_right w i in omega arith

-- the second step of pair n has the high rows that it looks at
pub high_near : (h : ℕ) {n f c : ℕ} → n < low_side h → n + 1 ≤ f → c ≡ min f (h / 2) → n + 1 ≤ c + 1
high_near h a b e = omega arith

-- ---- one turn: pairs are stored up to g, the first step is done up to f, and the second on pair n
module _ (k : Kernel) (s : List ℕ) (w h : ℕ) (u : List ℤ) (cols : (x : ℕ) → x < w → AllWithin (5 * 2 ^ 22) h (turned (row_pass (forward k) w h (pictured w s)) x))
    {n b q f g : ℕ} (lt : n < low_side h) (a : Ahead (low_side h) n b q) (x : f ≡ begun_to (low_side h) n) (v : g ≡ placed_to (low_side h) n) where
  abbrev M : ℕ
  M = low_side h

  abbrev K : ℕ
  K = h / 2

  le : K ≤ M
  le = omega arith

  fit : M ≤ K + 1
  fit = omega arith

  abbrev R : Picture ℤ
  R = row_pass (forward k) w h (pictured w s)

  columns_within : (j : ℕ) → j < w → AllWithin (5 * 2 ^ 22) (M + K) (turned R j)
  columns_within j p i c = cols j p i (omega arith)

  module _ {l l₁ : List ℤ} (r : Rising k R M K w u n b q l) (t : PairsIn k s w h q g l l₁) where
    after_store : Rising k R M K w u n b g l₁
    after_store = let o = ahead_more lt a x v in
        record { swept = place_more (rows_apart w M K) r.swept a.near a.order (more_placed lt a x v) (stored_changed h o.top t) (stored_new h o.top t) }

    order : b ≤ g
    order = omega (arith, a.order, more_placed lt a x v)

    pub first_asks : {r : ℕ} → r ≡ min g K → Bounded (2 ^ 29) 0 w g w l₁ × RowsWithin (2 ^ 29) (M * w) w w b (min f r) l₁
    first_asks highs = let o = ahead_more lt a x v in
        rw highs (lows_taken u l₁ le fit a.near order o.top after_store columns_within, highs_taken u l₁ le fit a.near order o.top after_store columns_within o.order)

    module _ {c : ℕ} {l₂ : List ℤ} (highs : c ≡ min g K) (Begun-first : Both (first_lows false k c) (first_highs false k g) 0 (M * w) w w b f (min f c) l₁ l₂) where
      t₂ : Both (first_lows false k (min g K)) (first_highs false k g) 0 (M * w) w w b f (min f (min g K)) l₁ l₂
      t₂ = rw highs at Begun-first

      reached : min (f + 1) M ≤ g
      reached = omega (arith, begin_ahead lt a x v)

      after_first : Rising k R M K w u n f g l₂
      after_first = let o = ahead_more lt a x v in record {
        swept = begin_more (rows_apart w M K) after_store.swept a.near (more_begun lt a x v) o.order
            (first_changed u l₁ le fit a.near order o.top after_store o.order reached t₂) (first_new u l₁ le fit a.near order o.top after_store o.order reached t₂);
      }

      near : n ≤ f
      near = omega (arith, (ahead_more lt a x v).near)

      some : n < f
      some = omega (arith, (ahead_more lt a x v).near)

      pub second_asks : {d : ℕ} → d ≡ min f K → SecondTakes k 0 (M * w) w f d w n (n + 1) l₂
      second_asks begun = let o = ahead_more lt a x v in rw begun (second_taken u l₂ le fit near o.order o.top after_first columns_within some)

      pub after_second : {d : ℕ} {l₃ : List ℤ} → d ≡ min f K → Both (second_lows false k d) (second_highs false k f) 0 (M * w) w w n (n + 1) (min (n + 1) d) l₂ l₃
          → Rising k R M K w u (n + 1) f g l₃
      after_second begun done = let t₃ = rw begun at done in let o = ahead_more lt a x v in let far : min (n + 3) M ≤ f = omega (arith, x) in record {
        swept = end_more (rows_apart w M K) after_first.swept some o.order
            (second_changed u l₂ le fit near o.order o.top after_first some far t₃) (second_new u l₂ le fit near o.order o.top after_first some far t₃);
      }
