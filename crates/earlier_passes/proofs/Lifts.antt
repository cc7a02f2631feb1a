-- The laws of lifting steps on rows: what a run of rows computes is what the step says of each line, and runs join. Assumes nothing.
use mathlib.Core.Path.{◌≡◌, refl, sym, ap, ap₂, subst, ◌∙◌}
use mathlib.Core.Bool.{Bool}
use mathlib.Core.List.{List}
use Prim.Native.Nat.{ℕ, zero, suc, ◌+◌, ◌*◌, ◌-◌, ◌/◌, ◌%◌, ◌^◌, ◌<◌, ◌≤◌}
use native.Mathlib.Nat.{mul-le-mul_right, add-mul, div-add-mod', mod-lt, div-lt_iff_lt-mul}
use native.Mathlib.Omega.{arith}
use lib.IntN.{ℤ}
use lib.ListN.{length}
use mir.Syntax.{w64}
use mir.Val.{Fits}
use Rattle.line.specs.Cells.{Line, cell}
use Rattle.line.specs.Formulas.{slope_a, between, smoothing}
use Rattle.line.specs.Transform.{inside, predict, update}
use Rattle.line.proofs.Border.{inside_in, inside_here}
use Rattle.earlier_passes.specs.Moved.{moved}
use Rattle.earlier_passes.specs.declared.runs.Step.{Step}
use Rattle.earlier_passes.specs.declared.runs.Step.TheVariants.{SPlusP, TT, High, Low}
use Rattle.earlier_passes.specs.declared.runs.Taps.{Taps}
use Rattle.earlier_passes.specs.Written.{Written}
use Rattle.earlier_passes.specs.Runs.{amount_at, moved_at, Room, Stays}
use Rattle.earlier_passes.specs.Strip.{lane, Strips}
use Rattle.earlier_passes.specs.Lifting.{amount, step_reach, moved_row, taps_of, Straight, Fit, Lifted}
use Rattle.earlier_passes.proofs.Strips.{factor_pos, rows_on, rows_none, rows_run, rows_join, rows_old, strips_as}

-- ---- which runs of rows are straight
pub straight_one : (s : Step) (M n : ℕ) → Straight s M n 1
straight_one s M n = record {
  before = λ i d h p. let e : n + i ≡ n = omega arith in rw e (omega arith);
  after = λ i d h p. let e : n + i + d ≡ n + d = omega arith in rw e (omega arith);
}

pub straight_between : (s : Step) (M n r : ℕ) → step_reach s ≤ n → n + r + step_reach s ≤ M → Straight s M n r
straight_between s M n r low high = record {
  before = λ i d h p. omega (arith, inside_here M (n + i) d (omega arith) (omega arith), inside_here M n d (omega arith) (omega arith));
  after = λ i d h p. omega (arith, inside_here M (n + i + d) 0 (omega arith) (omega arith), inside_here M (n + d) 0 (omega arith) (omega arith));
}

-- ---- what a run computes
module _ {s : Step} {M n r : ℕ} (c : ℕ) (st : Straight s M n r) (x : List ℤ) (i j : ℕ) (h : i < r) where
  cell_here : cell x ((n + i) * c + j) ≡ cell x (n * c + (i * c + j))
  cell_here = ap (cell x) (rows_on c n i j)

  module _ (d : ℕ) (p : d ≤ step_reach s) where
    cell_before : cell x (inside M (n + i) d * c + j) ≡ cell x (inside M n d * c + (i * c + j))
    cell_before = ap (λ (q : ℕ). cell x (q * c + j)) (st.before i d h p) ∙ ap (cell x) (rows_on c (inside M n d) i j)

    cell_after : cell x (inside M (n + i + d) 0 * c + j) ≡ cell x (inside M (n + d) 0 * c + (i * c + j))
    cell_after = ap (λ (q : ℕ). cell x (q * c + j)) (st.after i d h p) ∙ ap (cell x) (rows_on c (inside M (n + d) 0) i j)

-- each of M rows has a high of its own
update_row : (M n : ℕ) (D : Line ℤ) → n < M → update M D n ≡ smoothing (D (inside M n 1)) (D n)
unfolding update
update_row zero n D h = absurd (omega arith)
update_row (suc M) n D h = let e : inside (suc M) n 0 ≡ n = omega (arith, inside_here (suc M) n 0 (omega arith) (omega arith)) in rw e

amount_row : (s : Step) (M n r c : ℕ) → Straight s M n r → n + r ≤ M → (x : List ℤ) (i j : ℕ) → i < r
    → amount_at s x (taps_of s M c n) (i * c + j) ≡ amount s M (lane c x j) (n + i)
unfolding predict
amount_row SPlusP M n r c st top x i j h = sym (ap₂ slope_a (cell_before c st x i j h 1 (omega arith)) (cell_after c st x i j h 1 (omega arith)))
amount_row TT M n r c st top x i j h =
    rw (cell_before c st x i j h 2 (omega arith), cell_before c st x i j h 1 (omega arith), cell_after c st x i j h 1 (omega arith), cell_after c st x i j h 2 (omega arith))
amount_row High M n r c st top x i j h = sym (ap₂ between (cell_here c st x i j h) (cell_after c st x i j h 1 (omega arith)))
amount_row Low M n r c st top x i j h = rw (update_row M (n + i) (lane c x j) (omega arith)) (sym (ap₂ smoothing (cell_before c st x i j h 1 (omega arith)) (cell_here c st x i j h)))

-- ---- rows of M that a run takes are in a buffer that has room for M rows
pub rows_fit : (M c q r : ℕ) (l : List ℤ) → q + r ≤ M → M * c ≤ length l → q * c + r * c ≤ length l
rows_fit M c q r l p h = rw (← add-mul q r c) (let le : (q + r) * c ≤ M * c = mul-le-mul_right c p in omega arith)

pub place_fits : (M c q : ℕ) → q ≤ M → M * c < 2 ^ 32 → Fits w64 (q * c)
place_fits M c q p h = let le : q * c ≤ M * c = mul-le-mul_right c p in omega arith

module _ {s : Step} {M n r : ℕ} (st : Straight s M n r) (some : 0 < r) (top : n + r ≤ M) (d : ℕ) (p : d ≤ step_reach s) where
  before_rows : inside M n d + r ≤ M
  before_rows = omega (arith, st.before (r - 1) d (omega arith) p, inside_in M (n + (r - 1)) d (omega arith))

  after_rows : inside M (n + d) 0 + r ≤ M
  after_rows = omega (arith, st.after (r - 1) d (omega arith) p, inside_in M (n + (r - 1) + d) 0 (omega arith))

pub reach_two : (s : Step) → step_reach s ≤ 2
reach_two SPlusP = omega arith
reach_two TT = omega arith
reach_two High = omega arith
reach_two Low = omega arith

reach_one : (s : Step) → 1 ≤ step_reach s
reach_one SPlusP = omega arith
reach_one TT = omega arith
reach_one High = omega arith
reach_one Low = omega arith

module _ (s : Step) (M n r c : ℕ) (t x : List ℤ) (p : Taps) (e : p ≡ taps_of s M c n) (st : Straight s M n r) (top : n + r ≤ M) where
  pub run_room : 0 < r → Strips M c t x → Room p (r * c) t x
  run_room some strips = rw e (record {
    target = rows_fit M c n r t top strips.evens;
    here = rows_fit M c n r x top strips.odds;
    before2 = rows_fit M c _ r x (before_rows st some top (step_reach s) (omega arith)) strips.odds;
    before = rows_fit M c _ r x (before_rows st some top 1 (reach_one s)) strips.odds;
    after = rows_fit M c _ r x (after_rows st some top 1 (reach_one s)) strips.odds;
    after2 = rows_fit M c _ r x (after_rows st some top (step_reach s) (omega arith)) strips.odds;
  })

  moved_at-moved_row : (add : Bool) (i j : ℕ) → i < r → moved_at s add t x p (i * c + j) ≡ moved_row s add M c t x (n + i) j
  moved_at-moved_row add i j h = rw e (ap₂ (moved add) (sym (cell_here c st t i j h)) (amount_row s M n r c st top x i j h))

  pub run_stays : (add : Bool) → Fit s add M c n (n + r) t x → Stays s add t x p (r * c)
  run_stays add f = record {
    fits = λ k h.
        let pos : 0 < c = factor_pos r c (omega arith) in
        let row : k / c < r = (div-lt_iff_lt-mul pos).1 h in
        let col : k % c < c = mod-lt k pos in
        rw (← div-add-mod' k c, moved_at-moved_row add (k / c) (k % c) row) (f.fits (n + k / c) (k % c) (omega arith) (omega arith) col);
  }

  pub run_rows : (add : Bool) (t' : List ℤ) → Written (moved_at s add t x p) p.here (r * c) t t' → Lifted s add M c n (n + r) t x t'
  run_rows add t' w =
      let v = subst (λ (q : ℕ). Written (moved_at s add t x p) q (r * c) t t') (ap (λ (q : Taps). q.here) e) w in
      record { rows = rows_run c n r v (λ i j h lt. moved_at-moved_row add i j h) }

-- ---- some rows moved, and then more: those are moved from what they were
module _ {s : Step} {add : Bool} {M c a b : ℕ} {t x t' : List ℤ} (f : Lifted s add M c a b t x t') where
  moved_old : (n j : ℕ) → b ≤ n → moved_row s add M c t' x n j ≡ moved_row s add M c t x n j
  moved_old n j h = ap (λ (z : ℤ). moved add z (amount s M (lane c x j) n)) (rows_old c a b f.rows n j h)

  pub fit_more : (d e : ℕ) → b ≤ d → Fit s add M c d e t x → Fit s add M c d e t' x
  fit_more d e h g = record { fits = λ n j p q k. rw (moved_old n j (omega arith)) (g.fits n j p q k) }

  pub lift_join : (d : ℕ) {t'' : List ℤ} → a ≤ b → b ≤ d → Lifted s add M c b d t' x t'' → Lifted s add M c a d t x t''
  lift_join d p q g = record { rows = rows_join c a b d p q f.rows g.rows (λ n j h k l. moved_old n j h) }

  pub strips_more : Strips M c t x → Strips M c t' x
  strips_more g = strips_as g f.rows.size refl

pub lift_none : (s : Step) (add : Bool) (M c a : ℕ) (t x : List ℤ) → Lifted s add M c a a t x t
lift_none s add M c a t x = record { rows = rows_none c a t }

pub fit_part : {s : Step} {add : Bool} {M c a b : ℕ} {t x : List ℤ} (d e : ℕ) → Fit s add M c a b t x → a ≤ d → e ≤ b → Fit s add M c d e t x
fit_part d e g p q = record { fits = λ n j h k. g.fits n j (omega arith) (omega arith) }
