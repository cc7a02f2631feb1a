-- Where the rows of pairs begin, and pairs that are placed.
--
--   at S c i == where the low row, or the high row, of pair i begins, in rows of S
--
-- Assumes nothing.
use mathlib.Core.Path.{◌≡◌, sym, ap, ◌∙◌}
use mathlib.Core.Bool.{Bool, true, false}
use mathlib.Core.List.{List}
use Prim.Native.Nat.{ℕ, ◌+◌, ◌*◌, ◌-◌, ◌/◌, ◌<◌, ◌≤◌, min}
use native.Mathlib.Nat.{add-mul, mul_assoc, mul_comm, one-mul}
use native.Mathlib.Omega.{arith}
use lib.Arith.{digits_lt}
use lib.IntN.{ℤ, pos}
use lib.ListN.{length}
use Rattle.line.specs.Cells.{cell, low_side}
use Rattle.grid.proofs.Passes.{row_of}
use Rattle.transfer.specs.Moved.{Rows, Moved}
use Rattle.transfer.proofs.Strips.{some_rows}
use Rattle.lifting.specs.Parts.{lane}
use Rattle.passes.specs.Passes.{Area}
use Rattle.passes.specs.Pairs.{PairsPlaced}
use Rattle.passes.proofs.Running.{area_place}

abbrev pub at : ℕ → Bool → ℕ → ℕ
at S false i = 2 * i * S
at S true i = 2 * i * S + S

abbrev pub bit : Bool → ℕ
bit false = 0
bit true = 1

pub at_row : (S : ℕ) (c : Bool) (i x : ℕ) → at S c i + x ≡ (2 * i + bit c) * S + x
at_row S false i x = ap (λ (n : ℕ). n * S + x) (omega arith)
at_row S true i x = omega (arith, add-mul (2 * i) 1 S, one-mul S)

pub at_more : (S : ℕ) (c : Bool) (n i x : ℕ) → at S c n + i * (2 * S) + x ≡ at S c (n + i) + x
at_more S c n i x = go c
  where
    twice : i * (2 * S) ≡ 2 * i * S
    twice = sym (mul_assoc i 2 S) ∙ ap (λ (q : ℕ). q * S) (mul_comm i 2)

    both : 2 * (n + i) * S ≡ 2 * n * S + 2 * i * S
    both = ap (λ (q : ℕ). q * S) doubled ∙ add-mul (2 * n) (2 * i) S
      where
        doubled : 2 * (n + i) ≡ 2 * n + 2 * i
        doubled = omega arith

    go : (c : Bool) → at S c n + i * (2 * S) + x ≡ at S c (n + i) + x
    go false = omega (arith, twice, both)
    go true = omega (arith, twice, both)

pub lane-at : (S : ℕ) (c : Bool) (n i x : ℕ) (l : List ℤ) → lane (at S c n) (2 * S) l x i ≡ cell l (at S c (n + i) + x)
lane-at S c n i x l = ap (cell l) (at_more S c n i x)

-- a place tells its pair
pub pair_of : (S w : ℕ) (c c' : Bool) (i i' x x' : ℕ) → w ≤ S → x < w → x' < w → at S c i + x ≡ at S c' i' + x' → i ≡ i'
pair_of S w c c' i i' x x' wide h h' e = half c c' (row_of S (2 * i + bit c) (2 * i' + bit c') x x' (omega arith) (omega arith) (sym (at_row S c i x) ∙ e ∙ at_row S c' i' x'))
  where
    half : (c c' : Bool) → 2 * i + bit c ≡ 2 * i' + bit c' → i ≡ i'
    half false false p = omega arith
    half false true p = omega arith
    half true false p = omega arith
    half true true p = omega arith

-- ---- the rows of pairs a up to b, from the plane
module _ (W S w h a b : ℕ) (p u : List ℤ) (top : b ≤ low_side h) (y : Area W w h (length p)) (z : Area S w h (length u)) where
  abbrev left : ℕ
  left = low_side w

  abbrev high_rows : ℕ
  high_rows = min b (h / 2) - min a (h / 2)

  -- the places of a row, and the place behind them
  in_area : {stride size : ℕ} → Area stride w h size → (r k : ℕ) → r < h → k ≤ w → r * stride + k ≤ size
  in_area v r k i j = omega (arith, v.some_w, area_place v r (w - 1) i (omega (arith, v.some_w)))

  in_plane : (r k : ℕ) → r < h → k ≤ w → r * W + k ≤ length p
  in_plane = in_area y

  in_rows : (r k : ℕ) → r < h → k ≤ w → r * S + k ≤ length u
  in_rows = in_area z

  in_pair : (c : Bool) (i k : ℕ) → 2 * i + bit c < h → k ≤ w → at S c i + k ≤ length u
  in_pair c i k l j = rw (at_row S c i k) (in_rows (2 * i + bit c) k l j)

  -- rows begin as far apart as pairs
  apart : (s c i n j : ℕ) → i < n → j < c → c ≤ 2 * S → s + i * (2 * S) + j < s + n * (2 * S)
  apart s c i n j l k le = omega (arith, digits_lt {q = i} {m = n} {r = j} {c = 2 * S} l (omega arith))

  pub right_rows : Rows p (λ i. a * W + left + i * W) (λ i. at S false a + left + i * (2 * S)) (b - a) (w / 2) u
  right_rows = record {
    begins = λ i l. (
      omega (arith, add-mul a i W, in_plane (a + i) left (omega arith) (omega arith)),
      omega (arith, at_more S false a i left, in_pair false (a + i) left (omega arith) (omega arith)),
    );
    room = λ i l. record {
      source = λ k j. omega (arith, add-mul a i W, in_plane (a + i) (left + k + 1) (omega arith) (omega arith));
      target = λ k j. omega (arith, at_more S false a i (left + k + 1), in_pair false (a + i) (left + k + 1) (omega arith) (omega arith));
    };
    apart = λ i n j l k. apart (at S false a + left) (w / 2) i n j l k (omega (arith, z.wide));
  }

  pub high_rows_lem : Rows p (λ i. (low_side h + a) * W + i * W) (λ i. at S true a + i * (2 * S)) high_rows w u
  high_rows_lem = some_rows y.some_w
      (λ i l. record {
        source = λ k j. omega (arith, add-mul (low_side h + a) i W, in_plane (low_side h + a + i) (k + 1) (omega arith) (omega arith));
        target = λ k j. omega (arith, at_more S true a i (k + 1), in_pair true (a + i) (k + 1) (omega arith) (omega arith));
      })
      (λ i n j l k. apart (at S true a) w i n j l k (omega (arith, z.wide)))

  module _ {u₁ u₂ : List ℤ} (f : Moved (pos 0) p (λ i. a * W + left + i * W) (λ i. at S false a + left + i * (2 * S)) (b - a) (w / 2) u u₁)
      (g : Moved (pos 0) p (λ i. (low_side h + a) * W + i * W) (λ i. at S true a + i * (2 * S)) high_rows w u₁ u₂) where
    right_cell : (i k : ℕ) → i < b - a → k < w / 2 → cell u₂ (at S false (a + i) + (left + k)) ≡ cell p ((a + i) * W + (left + k))
    right_cell i k l j =
        g.off (at S false (a + i) + (left + k)) (λ i' k' l' j' o. omega (
          arith,
          row_of S (2 * (a + i) + 0) (2 * (a + i') + 1) (left + k) k' (omega (arith, z.wide)) (omega (arith, z.wide))
              (sym (at_row S false (a + i) (left + k)) ∙ o ∙ at_more S true a i' k' ∙ at_row S true (a + i') k'),
        ))
        ∙ ap (cell u₁) (sym (at_more S false a i (left + k)) ∙ omega arith) ∙ f.on i k l j ∙ ap (cell p) (omega (arith, add-mul a i W))

    high_cell : (i x : ℕ) → i < high_rows → x < w → cell u₂ (at S true (a + i) + x) ≡ cell p ((low_side h + (a + i)) * W + x)
    high_cell i x l j = ap (cell u₂) (sym (at_more S true a i x)) ∙ g.on i x l j ∙ ap (cell p) (sum ∙ ap (λ (r : ℕ). r * W + x) (omega arith))
      where
        sum : (low_side h + a) * W + i * W + x ≡ (low_side h + a + i) * W + x
        sum = omega (arith, add-mul (low_side h + a) i W)

    pub pairs_placed : PairsPlaced W S w h a b p u u₂
    pairs_placed = record {
      size = g.size ∙ f.size;
      low = λ i x v l j k. let e : a + (i - a) ≡ i = omega arith in let d : left + (x - left) ≡ x = omega arith in let s = right_cell (i - a) (x - left) (omega arith) (omega arith) in rw (e, d) at s;
      high = λ i x v l m j. let e : a + (i - a) ≡ i = omega arith in let s = high_cell (i - a) x (omega arith) j in rw e at s;
      off = λ j low high. g.off j (λ i k l r o. high (a + i) k (omega arith) (omega arith) (omega arith) r (o ∙ at_more S true a i k))
          ∙ f.off j (λ i k l r o. low (a + i) (left + k) (omega arith) (omega arith) (omega arith) (omega arith) (o ∙ omega arith ∙ at_more S false a i (left + k)));
    }
