-- The laws of the transforms of strips: what the steps of each kernel, one after the other, make of a strip, and that every number fits 32 bits.
-- Assumes nothing.
use mathlib.Core.Path.{◌≡◌, sym, ap, ap₂, ◌∙◌}
use mathlib.Core.Bool.{Bool, true, false}
use mathlib.Core.List.{List}
use Prim.Native.Nat.{ℕ, ◌+◌, ◌*◌, ◌/◌, ◌^◌, ◌<◌}
use native.Mathlib.Omega.{arith}
use lib.Dec.{T, ltb}
use lib.IntN.{ℤ, ◌+ℤ◌, ◌-ℤ◌}
use mir.Syntax.{w32}
use mir.Val.{SFits}
use Rattle.whole.specs.Within.{Within}
use Rattle.whole.proofs.Linear.{within_fits}
use Rattle.kernel.specs.declared.Kernel.TheVariants as kernel
use Rattle.line.specs.Cells.{Line, cell}
use Rattle.line.specs.Formulas.{mean, difference, first_of, second_of}
use Rattle.line.specs.Transform.{means, differences, low, high, undone_evens, undone_odds}
use Rattle.line.specs.Inner.{AllWithin, Agree}
use Rattle.line.proofs.Cells.{paired_even, paired_odd}
use Rattle.line.proofs.Back.{add_none, sub_none}
use Rattle.line.proofs.Local.{means_pair, first_pair, predict-reach, update_local}
use Rattle.line.proofs.Bounds.{mean_within, difference_within, add_within, sub_within, first_within, second_within, within_more, predict_within, update_within}
use Rattle.earlier_passes.specs.Moved.{moved}
use Rattle.earlier_passes.specs.declared.runs.Step.{Step}
use Rattle.earlier_passes.specs.declared.runs.Step.TheVariants.{SPlusP, TT, High, Low}
use Rattle.earlier_passes.specs.Written.{Written}
use Rattle.earlier_passes.specs.Strip.{lane, Rows}
use Rattle.earlier_passes.specs.Lifting.{amount, moved_row, Fit, Lifted}
use Rattle.earlier_passes.specs.Lines.{line_numbers, Samples, Forward, Back, Predicted, Unpredicted}
use Rattle.earlier_passes.proofs.Strips.{rows_whole, rows_over, rows_as, Lanes, small_lanes, rows_lanes}

-- ---- amounts
amount_local : (s : Step) (M n : ℕ) (L L' : Line ℤ) → n < M → Agree M L L' → amount s M L n ≡ amount s M L' n
amount_local SPlusP M n L L' h a = predict-reach kernel.SPlusP M n L L' h (λ i lt p q. a i lt)
amount_local TT M n L L' h a = predict-reach kernel.TT M n L L' h (λ i lt p q. a i lt)
amount_local High M n L L' h a = predict-reach kernel.FiveThree M n L L' h (λ i lt p q. a i lt)
amount_local Low M n L L' h a = update_local M n L L' a

amount_within : (s : Step) (M a : ℕ) (L : Line ℤ) → AllWithin a M L → AllWithin (a + 1) M (amount s M L)
amount_within SPlusP M a L all = predict_within kernel.SPlusP M a L all
amount_within TT M a L all = predict_within kernel.TT M a L all
amount_within High M a L all = predict_within kernel.FiveThree M a L all
amount_within Low M a L all = λ n h. within_more (update_within M a n L all) (omega arith)

moved_within : (add : Bool) (a b : ℕ) (t p : ℤ) → Within a t → Within b p → Within (a + b) (moved add t p)
moved_within true a b t p v w = add_within a b t p v w
moved_within false a b t p v w = sub_within a b t p v w

-- ---- a step on a strip within a, from a strip within b
module _ (s : Step) (add : Bool) (M c a b : ℕ) (t x : List ℤ) (p : Lanes a M c t) (q : Lanes b M c x) where
  row_within : (n j : ℕ) → n < M → j < c → Within (a + (b + 1)) (moved_row s add M c t x n j)
  row_within n j h k = moved_within add a (b + 1) _ _ (p.each j k n h) (amount_within s M b (lane c x j) (q.each j k) n h)

  pub lift_fit : T (ltb (a + (b + 1)) (2 ^ 31)) → Fit s add M c 0 M t x
  lift_fit fits = record { fits = λ n j l h k. within_fits w32 fits (row_within n j h k) }

  pub lift_lanes : {t' : List ℤ} → Lifted s add M c 0 M t x t' → Lanes (a + (b + 1)) M c t'
  lift_lanes f = rows_lanes (a + (b + 1)) M c f.rows row_within

-- ---- pairs and their means and differences
module _ (c : ℕ) (e o : List ℤ) (n j : ℕ) where
  means_line : (M : ℕ) → n < M → means M (line_numbers c e o j) n ≡ mean (lane c e j n) (lane c o j n)
  means_line M h = rw (means_pair M n (line_numbers c e o j) h) (ap₂ mean (paired_even (lane c e j) (lane c o j) n) (paired_odd (lane c e j) (lane c o j) n))

  differences_line : differences (line_numbers c e o j) n ≡ difference (lane c e j n) (lane c o j n)
  differences_line = ap₂ difference (paired_even (lane c e j) (lane c o j) n) (paired_odd (lane c e j) (lane c o j) n)

pub split_fits : (n : ℕ) (e o : List ℤ) → Samples n e o → (k : ℕ) → k < n → SFits w32 (difference (cell e k) (cell o k))
split_fits n e o g k h = within_fits w32 tt (difference_within (2 ^ 29) _ _ (g.evens.each k h) (g.odds.each k h))

module _ (M c : ℕ) (e o e' o' : List ℤ) where
  pub split_means : Written (λ k. mean (cell e k) (cell o k)) 0 (M * c) e e' → Rows (λ n j. means M (line_numbers c e o j) n) c 0 M e e'
  split_means w = rows_whole c M w (λ n j h k. sym (means_line c e o n j M h))

  pub split_differences : Written (λ k. difference (cell e k) (cell o k)) 0 (M * c) o o' → Rows (λ n j. differences (line_numbers c e o j) n) c 0 M o o'
  split_differences w = rows_whole c M w (λ n j h k. sym (differences_line c e o n j))

  module _ (g : Samples (M * c) e o) where
    pub means_lanes : Rows (λ n j. means M (line_numbers c e o j) n) c 0 M e e' → Lanes (2 ^ 29) M c e'
    means_lanes f = rows_lanes (2 ^ 29) M c f (λ n j h k. rw (means_line c e o n j M h) (mean_within (2 ^ 29) _ _ ((small_lanes g.evens).each j k n h) ((small_lanes g.odds).each j k n h)))

    pub differences_lanes : Rows (λ n j. differences (line_numbers c e o j) n) c 0 M o o' → Lanes (2 ^ 30) M c o'
    differences_lanes f = rows_lanes (2 ^ 30) M c f (λ n j h k. rw (differences_line c e o n j) (difference_within (2 ^ 29) _ _ ((small_lanes g.evens).each j k n h) ((small_lanes g.odds).each j k n h)))

pub forward_s : (M c : ℕ) (e o e' o' : List ℤ) → Rows (λ n j. means M (line_numbers c e o j) n) c 0 M e e' → Rows (λ n j. differences (line_numbers c e o j) n) c 0 M o o' → Forward kernel.S M c e o e' o'
unfolding low high
forward_s M c e o e' o' f g = record { lows = f; highs = rows_as c 0 M g (λ n j a b h. sym (sub_none M (means M (line_numbers c e o j)) n _)) }

pub forward_pairs : (s : Step) (M c : ℕ) (e o e' o' o'' : List ℤ) → Rows (λ n j. means M (line_numbers c e o j) n) c 0 M e e' → Rows (λ n j. differences (line_numbers c e o j) n) c 0 M o o'
    → Lifted s false M c 0 M o' e' o'' → Predicted s M c e o e' o''
forward_pairs s M c e o e' o' o'' f g k = record {
  lows = f;
  highs = rows_as c 0 M (rows_over c M g k.rows) (λ n j a b h.
      ap₂ ◌-ℤ◌ (g.on n j a b h) (amount_local s M n (lane c e' j) (means M (line_numbers c e o j)) b (λ i lt. f.on i j (omega arith) lt h)));
}

module _ (M c : ℕ) (e o e' o' : List ℤ) where
  pub forward_a : Predicted SPlusP M c e o e' o' → Forward kernel.SPlusP M c e o e' o'
  unfolding low high
  forward_a p = record { lows = p.lows; highs = p.highs }

  pub forward_tt : Predicted TT M c e o e' o' → Forward kernel.TT M c e o e' o'
  unfolding low high
  forward_tt p = record { lows = p.lows; highs = p.highs }

pub forward_five_three : (M c : ℕ) (e o e' o' : List ℤ) → Lifted High false M c 0 M o e o' → Lifted Low true M c 0 M e o' e' → Forward kernel.FiveThree M c e o e' o'
unfolding low high
forward_five_three M c e o e' o' f g =
    let highs : Rows (λ n j. high kernel.FiveThree M M (line_numbers c e o j) n) c 0 M o o' = rows_as c 0 M f.rows (λ n j a b h.
    ap₂ ◌-ℤ◌ (sym (paired_odd (lane c e j) (lane c o j) n)) (predict-reach kernel.FiveThree M n (lane c e j) _ b (λ i lt p q. sym (paired_even (lane c e j) (lane c o j) i)))) in
    record {
      lows = rows_as c 0 M g.rows (λ n j a b h.
          ap₂ ◌+ℤ◌ (sym (paired_even (lane c e j) (lane c o j) n)) (update_local M n (lane c o' j) (high kernel.FiveThree M M (line_numbers c e o j)) (λ i lt. highs.on i j (omega arith) lt h)));
      highs = highs;
    }

-- ---- back
pub join_fits : (r n : ℕ) (l d : List ℤ) → T (ltb (2 ^ 30 + (r + 1) / 2) (2 ^ 31)) → ((k : ℕ) → k < n → Within (2 ^ 30) (cell l k)) → ((k : ℕ) → k < n → Within r (cell d k))
    → (k : ℕ) → k < n → SFits w32 (first_of (cell l k) (cell d k)) × SFits w32 (second_of (cell l k) (cell d k))
join_fits r n l d fits p q k h = (
  within_fits w32 fits (first_within (2 ^ 30) r _ _ (p k h) (q k h)),
  within_fits w32 fits (second_within (2 ^ 30) r _ _ (p k h) (q k h)),
)

pub back_s : (M c : ℕ) (l h l' h' : List ℤ) → Written (λ k. first_of (cell l k) (cell h k)) 0 (M * c) l l' → Written (λ k. second_of (cell l k) (cell h k)) 0 (M * c) h h' → Back kernel.S M c l h l' h'
unfolding undone_evens undone_odds
back_s M c l h l' h' v w = record {
  evens = rows_whole c M v (λ n j p q. ap (first_of (lane c l j n)) (sym (add_none M (lane c l j) n (lane c h j n))) ∙ sym (first_pair kernel.S M M n (lane c l j) (lane c h j) p));
  odds = rows_whole c M w (λ n j p q. ap (second_of (lane c l j n)) (sym (add_none M (lane c l j) n (lane c h j n))));
}

pub back_pairs : (s : Step) (M c : ℕ) (l h d l' h' : List ℤ) → Lifted s true M c 0 M h l d → Written (λ k. first_of (cell l k) (cell d k)) 0 (M * c) l l' → Written (λ k. second_of (cell l k) (cell d k)) 0 (M * c) d h'
    → Unpredicted s M c l h l' h'
back_pairs s M c l h d l' h' f v w = record {
  evens = rows_whole c M v (λ n j p q. ap (first_of (lane c l j n)) (f.rows.on n j (omega arith) p q));
  odds = rows_over c M f.rows (rows_whole c M w (λ n j p q. ap (second_of (lane c l j n)) (f.rows.on n j (omega arith) p q)));
}

module _ (M c : ℕ) (l h l' h' : List ℤ) where
  pub back_a : Unpredicted SPlusP M c l h l' h' → Back kernel.SPlusP M c l h l' h'
  unfolding undone_evens undone_odds
  back_a p = record { evens = rows_as c 0 M p.evens (λ n j a b k. sym (first_pair kernel.SPlusP M M n (lane c l j) (lane c h j) b)); odds = p.odds }

  pub back_tt : Unpredicted TT M c l h l' h' → Back kernel.TT M c l h l' h'
  unfolding undone_evens undone_odds
  back_tt p = record { evens = rows_as c 0 M p.evens (λ n j a b k. sym (first_pair kernel.TT M M n (lane c l j) (lane c h j) b)); odds = p.odds }

pub back_five_three : (M c : ℕ) (l h l' h' : List ℤ) → Lifted Low false M c 0 M l h l' → Lifted High true M c 0 M h l' h' → Back kernel.FiveThree M c l h l' h'
unfolding undone_evens undone_odds
back_five_three M c l h l' h' f g = record {
  evens = f.rows;
  odds = rows_as c 0 M g.rows (λ n j a b k.
      ap (λ (z : ℤ). lane c h j n +ℤ z) (predict-reach kernel.FiveThree M n (lane c l' j) (undone_evens kernel.FiveThree M M (lane c l j) (lane c h j)) b (λ i lt p q. f.rows.on i j (omega arith) lt k)));
}
