-- The laws of parts: the places of their rows, rows that are written, and what stays. Assumes nothing.
use mathlib.Core.Path.{◌≡◌, refl, sym, ap, ◌∙◌}
use mathlib.Core.List.{List}
use Prim.Native.Nat.{ℕ, zero, suc, ◌+◌, ◌*◌, ◌-◌, ◌/◌, ◌%◌, ◌<◌, ◌≤◌, min}
use native.Mathlib.Nat.{add-mul, one-mul, div-add-mod', mod-lt, div-lt_iff_lt-mul}
use native.Mathlib.Omega.{arith}
use lib.Arith.{digits_lt, digits_div}
use lib.IntN.{ℤ}
use Rattle.whole.specs.Within.{Within}
use Rattle.line.specs.Cells.{cell}
use Rattle.line.proofs.Bounds.{within_more}
use Rattle.line.proofs.Cells.{by_lt}
use Rattle.runs.specs.Cells.{Written}
use Rattle.lifting.specs.Parts.{lane, In, Parts, Bounded, Rows}
use Rattle.lifting.specs.Steps.{EndToEnd}
use Rattle.lifting.specs.Lines.{RowsWithin}

-- ---- places
-- i rows on, where the rows lie end to end
pub row_place : (a t c n i j : ℕ) → i * t ≡ i * c → a + (n + i) * t + j ≡ a + n * t + (i * c + j)
row_place a t c n i j e = omega (arith, add-mul n i t, e)

factor_pos : (r c : ℕ) → 0 < r * c → 0 < c
factor_pos r zero h = absurd (omega arith)
factor_pos r (suc c) h = omega arith

-- the k-th number of a run of r rows from row n on: its row and its line
module _ {t c r : ℕ} (x : EndToEnd t c r) (a n k : ℕ) (h : k < r * c) where
  pub row_in : k / c < r
  row_in = (div-lt_iff_lt-mul (factor_pos r c (omega arith))).1 h

  pub line_in : k % c < c
  line_in = mod-lt k (factor_pos r c (omega arith))

  pub run_place : a + n * t + k ≡ a + (n + k / c) * t + k % c
  run_place = omega (arith, row_place a t c n (k / c) (k % c) (x.follow (k / c) row_in), div-add-mod' k c)

pub one_row : (t c : ℕ) → EndToEnd t c 1
one_row t c = record { follow = λ i h. let e : i ≡ 0 = omega arith in rw e (omega arith) }

pub all_rows : (t c r : ℕ) → t ≡ c → EndToEnd t c r
all_rows t c r e = record { follow = λ i h. ap (λ (q : ℕ). i * q) e }

-- numbers of different rows are at different places
pub same_row : (a t c n j n' j' : ℕ) → c ≤ t → j < c → j' < c → a + n * t + j ≡ a + n' * t + j' → n ≡ n'
same_row a t c n j n' j' w h k e =
    let p : n * t + j ≡ n' * t + j' = omega arith in
    let q : j < t = omega arith in let r : j' < t = omega arith in
    sym (digits_div n q) ∙ ap (λ (i : ℕ). i / t) p ∙ digits_div n' r

-- r rows from row n on are inside
pub run_inside : {a t m c size : ℕ} (n r : ℕ) → In a t m c size → EndToEnd t c r → 0 < r → 0 < c → n + r ≤ m → a + n * t + r * c ≤ size
run_inside {a} {t} {m} {c} {size} n r i x some lines le =
    let k = r - 1 in let e : k + 1 ≡ r = omega arith in
    let s : r * c ≡ k * c + c = ap (λ (q : ℕ). q * c) (sym e) ∙ add-mul k 1 c ∙ ap (λ (q : ℕ). k * c + q) (one-mul c) in
    omega (arith, row_place a t c n k (c - 1) (x.follow k (omega arith)), i.place (n + k) (c - 1) (omega arith) (omega arith), s)

-- ---- two parts, the other way round, and in a buffer as long
pub parts_swap : {a b t p q c size : ℕ} → Parts a b t p q c size → Parts b a t q p c size
parts_swap p = record {
  few = (p.few.1, p.few.0);
  lines = p.lines;
  wide = p.wide;
  first = p.second;
  second = p.first;
  apart = λ n j n' j' h k h' k' e. p.apart n' j' n j h' k' h k (sym e);
}

pub parts_as : {a b t p q c size size' : ℕ} → Parts a b t p q c size → size' ≡ size → Parts a b t p q c size'
parts_as p e = rw e p

-- fewer rows of them
pub parts_fewer : {a b t p q c size : ℕ} (p' q' : ℕ) → Parts a b t p q c size → p' ≤ p → q' ≤ q → Parts a b t p' q' c size
parts_fewer p' q' g x y = record {
  few = (omega (arith, g.few), omega (arith, g.few));
  lines = g.lines;
  wide = g.wide;
  first = record { place = λ n j h k. g.first.place n j (omega arith) k };
  second = record { place = λ n j h k. g.second.place n j (omega arith) k };
  apart = λ n j n' j' h k h' k' e. g.apart n j n' j' (omega arith) k (omega arith) k' e;
}

pub in_one : {a t m c size : ℕ} → In a t m c size → 0 < c → In a t m 1 size
in_one i lines = record { place = λ n j h k. i.place n j h (omega arith) }

-- ---- rows that are written
module _ {F : ℕ → ℕ → ℤ} (a t c : ℕ) where
  pub rows_none : (d : ℕ) (l : List ℤ) → Rows F a t c d d l l
  rows_none d l = record { size = refl; on = λ n j p q h. absurd (omega arith); off = λ i no. refl }

  -- r rows from row n on, as one run
  pub rows_run : {g : ℕ → ℤ} {l l' : List ℤ} (n r : ℕ) → EndToEnd t c r → Written g (a + n * t) (r * c) l l'
      → ((i j : ℕ) → i < r → j < c → g (i * c + j) ≡ F (n + i) j) → Rows F a t c n (n + r) l l'
  rows_run {g} {l} {l'} n r x w e = record {
    size = w.size;
    on = λ m j p q h.
        let i = m - n in let d : n + i ≡ m = omega arith in
        let s : lane a t l' j (n + i) ≡ F (n + i) j
        = ap (cell l') (row_place a t c n i j (x.follow i (omega arith))) ∙ w.on (i * c + j) (digits_lt (omega arith) h) ∙ e i j (omega arith) h in
        rw d at s;
    off = λ i no. by_lt i (a + n * t)
        (λ lt. w.below i lt)
        (λ ge. by_lt i (a + n * t + r * c)
        (λ lt. let k = i - (a + n * t) in
        absurd (no (n + k / c) (k % c) (omega arith) (omega (arith, row_in x a n k (omega arith))) (line_in x a n k (omega arith)) (omega (arith, run_place x a n k (omega arith)))))
        (λ far. w.above i far));
  }

  -- rows d up to e, and then e up to f
  pub rows_join : {G : ℕ → ℕ → ℤ} {l l' l'' : List ℤ} (d e f : ℕ) → c ≤ t → d ≤ e → e ≤ f → Rows F a t c d e l l' → Rows G a t c e f l' l''
      → ((n j : ℕ) → e ≤ n → n < f → j < c → G n j ≡ F n j) → Rows F a t c d f l l''
  rows_join d e f wide de ef p q eq = record {
    size = q.size ∙ p.size;
    on = λ n j u v h. by_lt n e
        (λ lt. q.off (a + n * t + j) (λ n' j' u' v' h' s. omega (arith, same_row a t c n j n' j' wide h h' s)) ∙ p.on n j u lt h)
        (λ ge. q.on n j ge v h ∙ eq n j ge v h);
    off = λ i no. q.off i (λ n j u v h. no n j (omega arith) v h) ∙ p.off i (λ n j u v h. no n j u (omega arith) h);
  }

-- a row past those that are written is as it was
pub rows_old : {F : ℕ → ℕ → ℤ} {l l' : List ℤ} (a t c d e : ℕ) → c ≤ t → Rows F a t c d e l l' → (n j : ℕ) → e ≤ n → j < c → lane a t l' j n ≡ lane a t l j n
rows_old a t c d e wide p n j ge h = p.off (a + n * t + j) (λ n' j' u v h' s. omega (arith, same_row a t c n j n' j' wide h h' s))

-- and so is the other part
pub rows_other : {F : ℕ → ℕ → ℤ} {a b t m r c size : ℕ} {l l' : List ℤ} (d e : ℕ) → Parts a b t m r c size → e ≤ m → Rows F a t c d e l l' → (n j : ℕ) → n < r → j < c → lane b t l' j n ≡ lane b t l j n
rows_other {F} {a} {b} {t} d e g le p n j h k = p.off (b + n * t + j) (λ n' j' u v h' s. g.apart n' j' n j (omega arith) h' h k (sym s))

-- ---- bounds
pub bounded_more : {r q a t m c : ℕ} {l : List ℤ} → Bounded r a t m c l → r ≤ q → Bounded q a t m c l
bounded_more p h = record { each = λ j k n i. within_more (p.each j k n i) h }

pub rows_bounded : {r a t m c d : ℕ} {l : List ℤ} (e : ℕ) → Bounded r a t m c l → e ≤ m → RowsWithin r a t c d e l
rows_bounded e p h = record { each = λ n j o i k. p.each j k n (omega arith) }

-- rows d up to e, as far as there are q of them
pub within_some : {r a t c : ℕ} {l : List ℤ} (d e q : ℕ) → RowsWithin r a t c d (min e q) l → RowsWithin r a t c (min d q) (min e q) l
within_some d e q p = record { each = λ n j o h k. p.each n j (omega arith) h k }

pub bounded_as : {r a t m c : ℕ} {l l' : List ℤ} → Bounded r a t m c l → ((n j : ℕ) → n < m → j < c → lane a t l' j n ≡ lane a t l j n) → Bounded r a t m c l'
bounded_as p e = record { each = λ j k n i. rw (e n j i k) (p.each j k n i) }

pub run_bounded : {s a t m c r : ℕ} {l : List ℤ} (n : ℕ) → Bounded s a t m c l → EndToEnd t c r → n + r ≤ m → (k : ℕ) → k < r * c → Within s (cell l (a + n * t + k))
run_bounded {s} {a} {t} {m} {c} {r} {l} n p x le k h = rw (run_place x a n k h) (p.each (k % c) (line_in x a n k h) (n + k / c) (omega (arith, row_in x a n k h)))
