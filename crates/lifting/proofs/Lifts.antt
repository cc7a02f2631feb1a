-- The laws of lifting steps on rows: what a run of rows computes is what the step says of each line, and runs join. Assumes nothing.
use mathlib.Core.Path.{◌≡◌, sym, ap, ap₂, subst, ◌∙◌}
use mathlib.Core.Bool.{Bool}
use mathlib.Core.List.{List}
use Prim.Native.Nat.{ℕ, ◌+◌, ◌*◌, ◌-◌, ◌/◌, ◌%◌, ◌<◌, ◌≤◌, min}
use native.Mathlib.Nat.{div-add-mod'}
use native.Mathlib.Omega.{arith}
use lib.IntN.{ℤ}
use lib.ListN.{length}
use Rattle.kernel.specs.declared.Kernel.TheVariants as kernel
use Rattle.line.specs.Cells.{Line, cell}
use Rattle.line.specs.Inner.{Agree}
use Rattle.line.specs.Formulas.{slope_a, between, smoothing}
use Rattle.line.specs.Transform.{inside, predict}
use Rattle.line.proofs.Border.{inside_in, inside_here}
use Rattle.line.proofs.Local.{predict-reach, update_some, update_local}
use Rattle.steps.specs.Moved.{moved}
use Rattle.runs.specs.Step.{Step, SPlusP, TT, High, Low}
use Rattle.runs.specs.declared.Taps.{Taps}
use Rattle.runs.specs.Cells.{Written}
use Rattle.runs.specs.Steps.{look_back, look_ahead, amount_at, moved_at, Apart, tap_bound, Room, Near, Stays}
use Rattle.lifting.specs.Parts.{lane, Parts, Bounded}
use Rattle.lifting.specs.Steps.{amount, movable, moved_row, taps_of, Straight, EndToEnd, Fit, Lifted}
use Rattle.lifting.proofs.Rows.{row_place, row_in, line_in, run_place, run_inside, run_bounded, rows_none, rows_run, rows_join, rows_old, rows_other, parts_as, bounded_as}

-- ---- which runs of rows are straight
pub straight_one : (s : Step) (M n : ℕ) → Straight s M n 1
straight_one s M n = record {
  here = λ i h. let e : n + i ≡ n = omega arith in rw e (omega arith);
  before = λ i d h p. let e : n + i ≡ n = omega arith in rw e (omega arith);
  after = λ i d h p. let e : n + i + d ≡ n + d = omega arith in rw e (omega arith);
}

pub straight_between : (s : Step) (M n r : ℕ) → look_back s ≤ n → n + r + look_ahead s ≤ M → Straight s M n r
straight_between s M n r low high = record {
  here = λ i h. omega (arith, inside_here M (n + i) 0 (omega arith) (omega arith), inside_here M n 0 (omega arith) (omega arith));
  before = λ i d h p. omega (arith, inside_here M (n + i) d (omega arith) (omega arith), inside_here M n d (omega arith) (omega arith));
  after = λ i d h p. omega (arith, inside_here M (n + i + d) 0 (omega arith) (omega arith), inside_here M (n + d) 0 (omega arith) (omega arith));
}

pub look_two : (s : Step) → (look_back s ≤ 2) × (look_ahead s ≤ 2)
look_two SPlusP = omega arith
look_two TT = omega arith
look_two High = omega arith
look_two Low = omega arith

-- ---- what a run computes
module _ {s : Step} {M n r t c : ℕ} (x : EndToEnd t c r) (st : Straight s M n r) (l : List ℤ) (i j : ℕ) (h : i < r) where
  cell_here : (u : ℕ) → cell l (u + (n + i) * t + j) ≡ cell l (u + n * t + (i * c + j))
  cell_here u = ap (cell l) (row_place u t c n i j (x.follow i h))

  -- where the other part has a row n + i
  cell_level : n + r ≤ M → (v : ℕ) → cell l (v + (n + i) * t + j) ≡ cell l (v + inside M n 0 * t + (i * c + j))
  cell_level top v = ap (λ (q : ℕ). cell l (v + q * t + j)) (sym (omega (arith, inside_here M (n + i) 0 (omega arith) (omega arith), st.here i h)))
      ∙ ap (λ (q : ℕ). cell l (v + q * t + j)) (st.here i h) ∙ ap (cell l) (row_place v t c (inside M n 0) i j (x.follow i h))

  module _ (v d : ℕ) where
    cell_before : d ≤ look_back s → cell l (v + inside M (n + i) d * t + j) ≡ cell l (v + inside M n d * t + (i * c + j))
    cell_before p = ap (λ (q : ℕ). cell l (v + q * t + j)) (st.before i d h p) ∙ ap (cell l) (row_place v t c (inside M n d) i j (x.follow i h))

    cell_after : d ≤ look_ahead s → cell l (v + inside M (n + i + d) 0 * t + j) ≡ cell l (v + inside M (n + d) 0 * t + (i * c + j))
    cell_after p = ap (λ (q : ℕ). cell l (v + q * t + j)) (st.after i d h p) ∙ ap (cell l) (row_place v t c (inside M (n + d) 0) i j (x.follow i h))

amount_row : (s : Step) (M n r t c u v : ℕ) → EndToEnd t c r → Straight s M n r → 0 < M → n + r ≤ movable s M → (l : List ℤ) (i j : ℕ) → i < r
    → amount_at s l (taps_of s M u v t n) (i * c + j) ≡ amount s M (lane v t l j) (n + i)
unfolding predict
amount_row SPlusP M n r t c u v x st some top l i j h = sym (ap₂ slope_a (cell_before x st l i j h v 1 (omega arith)) (cell_after x st l i j h v 1 (omega arith)))
amount_row TT M n r t c u v x st some top l i j h =
    rw (cell_before x st l i j h v 2 (omega arith), cell_before x st l i j h v 1 (omega arith), cell_after x st l i j h v 1 (omega arith), cell_after x st l i j h v 2 (omega arith))
amount_row High M n r t c u v x st some top l i j h = sym (ap₂ between (cell_level x st l i j h top v) (cell_after x st l i j h v 1 (omega arith)))
amount_row Low M n r t c u v x st some top l i j h =
    sym (update_some M (n + i) (lane v t l j) some ∙ ap₂ smoothing (cell_before x st l i j h v 1 (omega arith)) (cell_before x st l i j h v 0 (omega arith)))

-- ---- the rows around a straight run are rows of the part
module _ {s : Step} {M n r : ℕ} (st : Straight s M n r) (some : 0 < r) (other : 0 < M) (d : ℕ) where
  here_rows : inside M n 0 + r ≤ M
  here_rows = omega (arith, st.here (r - 1) (omega arith), inside_in M (n + (r - 1)) 0 (omega arith))

  before_rows : d ≤ look_back s → inside M n d + r ≤ M
  before_rows p = omega (arith, st.before (r - 1) d (omega arith) p, inside_in M (n + (r - 1)) d (omega arith))

  after_rows : d ≤ look_ahead s → inside M (n + d) 0 + r ≤ M
  after_rows p = omega (arith, st.after (r - 1) d (omega arith) p, inside_in M (n + (r - 1) + d) 0 (omega arith))

-- two runs of rows, one of each part, are apart
pub runs_apart : {u v t M N c size : ℕ} (n q r : ℕ) → Parts u v t M N c size → EndToEnd t c r → n + r ≤ M → q + r ≤ N → Apart (u + n * t) (v + q * t) (r * c)
runs_apart {u} {v} {t} {M} {N} {c} n q r g x p p' i k h h' e =
    g.apart (n + i / c) (i % c) (q + k / c) (k % c) (omega (arith, row_in x u n i h)) (line_in x u n i h) (omega (arith, row_in x v q k h')) (line_in x v q k h')
    (sym (run_place x u n i h) ∙ e ∙ run_place x v q k h')

module _ (s : Step) (M n r c u v t : ℕ) (l : List ℤ) (p : Taps) (e : p ≡ taps_of s M u v t n) (x : EndToEnd t c r) (st : Straight s M n r) (other : 0 < M) (top : n + r ≤ movable s M) where
  module _ (some : 0 < r) where
    pub run_room : Parts u v t (n + r) M c (length l) → Room p (r * c) l
    run_room g =
        let h = here_rows st some other 0 in let b2 = before_rows st some other (look_back s) (omega arith) in let b = before_rows st some other (min 1 (look_back s)) (omega arith) in
        let a = after_rows st some other (min 1 (look_ahead s)) (omega arith) in let a2 = after_rows st some other (look_ahead s) (omega arith) in rw e (record {
          target = run_inside n r g.first x some g.lines (omega arith);
          here = run_inside _ r g.second x some g.lines h;
          before2 = run_inside _ r g.second x some g.lines b2;
          before = run_inside _ r g.second x some g.lines b;
          after = run_inside _ r g.second x some g.lines a;
          after2 = run_inside _ r g.second x some g.lines a2;
          here_apart = runs_apart n _ r g x (omega arith) h;
          before2_apart = runs_apart n _ r g x (omega arith) b2;
          before_apart = runs_apart n _ r g x (omega arith) b;
          after_apart = runs_apart n _ r g x (omega arith) a;
          after2_apart = runs_apart n _ r g x (omega arith) a2;
        })

    pub run_near : Bounded (tap_bound s) v t M c l → Near s l p (r * c)
    run_near g = rw e (record {
      each = λ k h. record {
        here = run_bounded _ g x (here_rows st some other 0) k h;
        before2 = run_bounded _ g x (before_rows st some other (look_back s) (omega arith)) k h;
        before = run_bounded _ g x (before_rows st some other (min 1 (look_back s)) (omega arith)) k h;
        after = run_bounded _ g x (after_rows st some other (min 1 (look_ahead s)) (omega arith)) k h;
        after2 = run_bounded _ g x (after_rows st some other (look_ahead s) (omega arith)) k h;
      };
    })

  moved_at-moved_row : (add : Bool) (i j : ℕ) → i < r → moved_at s add l p (i * c + j) ≡ moved_row s add M u v t l (n + i) j
  moved_at-moved_row add i j h = rw e (ap₂ (moved add) (sym (cell_here x st l i j h u)) (amount_row s M n r t c u v x st other top l i j h))

  pub run_stays : (add : Bool) → Fit s add M c n (n + r) u v t l → Stays s add l p (r * c)
  run_stays add f = record {
    fits = λ k h. rw (← div-add-mod' k c, moved_at-moved_row add (k / c) (k % c) (row_in x u n k h)) (f.fits (n + k / c) (k % c) (omega arith) (omega (arith, row_in x u n k h)) (line_in x u n k h));
  }

  pub run_rows : (add : Bool) (l' : List ℤ) → Written (moved_at s add l p) p.at (r * c) l l' → Lifted s add M c n (n + r) u v t l l'
  run_rows add l' w =
      let k = subst (λ (q : ℕ). Written (moved_at s add l p) q (r * c) l l') (ap (λ (q : Taps). q.at) e) w in
      record { rows = rows_run u t c n r x k (λ i j h lt. moved_at-moved_row add i j h) }

-- an amount is computed from the numbers of the line alone
pub amount_local : (s : Step) (M n : ℕ) (L L' : Line ℤ) → n < movable s M → Agree M L L' → amount s M L n ≡ amount s M L' n
amount_local SPlusP M n L L' h a = predict-reach kernel.SPlusP M n L L' h (λ i lt p q. a i lt)
amount_local TT M n L L' h a = predict-reach kernel.TT M n L L' h (λ i lt p q. a i lt)
amount_local High M n L L' h a = predict-reach kernel.FiveThree M n L L' h (λ i lt p q. a i lt)
amount_local Low M n L L' h a = update_local M n L L' a

-- ---- some rows moved, and then more: those are moved from what they were
module _ {s : Step} {add : Bool} {m M c d e u v t : ℕ} {l l' : List ℤ} (g : Parts u v t m M c (length l)) (top : e ≤ m) (f : Lifted s add M c d e u v t l l') where
  pub parts_more : Parts u v t m M c (length l')
  parts_more = parts_as g f.rows.size

  pub bounded_other : {r : ℕ} → Bounded r v t M c l → Bounded r v t M c l'
  bounded_other b = bounded_as b (rows_other d e g top f.rows)

  moved_old : (n j : ℕ) → e ≤ n → n < movable s M → j < c → moved_row s add M u v t l' n j ≡ moved_row s add M u v t l n j
  moved_old n j ge h k = ap₂ (moved add) (rows_old u t c d e g.wide f.rows n j ge k) (amount_local s M n _ _ h (λ i lt. rows_other d e g top f.rows i j lt k))

  pub fit_more : (a b : ℕ) → e ≤ a → b ≤ movable s M → Fit s add M c a b u v t l → Fit s add M c a b u v t l'
  fit_more a b h le fit = record { fits = λ n j p q k. rw (moved_old n j (omega arith) (omega arith) k) (fit.fits n j p q k) }

  pub lift_join : (b : ℕ) {l'' : List ℤ} → d ≤ e → e ≤ b → b ≤ movable s M → Lifted s add M c e b u v t l' l'' → Lifted s add M c d b u v t l l''
  lift_join b p q le h = record { rows = rows_join u t c d e b g.wide p q f.rows h.rows (λ n j ge lt k. moved_old n j ge (omega arith) k) }

pub lift_none : (s : Step) (add : Bool) (M c d u v t : ℕ) (l : List ℤ) → Lifted s add M c d d u v t l l
lift_none s add M c d u v t l = record { rows = rows_none u t c d l }

-- rows d up to e, as far as there are q of them
pub lift_some : {s : Step} {add : Bool} {M c u v t : ℕ} {l l' : List ℤ} (d e q : ℕ) → Lifted s add M c (min d q) (min e q) u v t l l' → Lifted s add M c d (min e q) u v t l l'
lift_some d e q f = let r = f.rows in record {
  rows = record { size = r.size; on = λ n j p h k. r.on n j (omega arith) h k; off = λ i none. r.off i (λ n j p h k. none n j (omega arith) h k) };
}

pub fit_part : {s : Step} {add : Bool} {M c a b u v t : ℕ} {l : List ℤ} (d e : ℕ) → Fit s add M c a b u v t l → a ≤ d → e ≤ b → Fit s add M c d e u v t l
fit_part d e g p q = record { fits = λ n j h k. g.fits n j (omega arith) (omega arith) }
