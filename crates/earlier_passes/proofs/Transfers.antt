-- Rows of cells, of any kind, that are copied: row by row in a loop, or cell by cell where a row is one cell, or all at once where the rows
-- follow each other. So strips are taken from a buffer, and put into it.
--
--   Rows x f g m c l          == m rows of c cells begin in x at f 0, f 1, .., and have room in l, one after the other, from g 0, g 1, .. on
--   Moved o x f g m c l l'    == l' is l with those rows of x at those places
--   Moving o x f g m c l l' n == so far the first n of the rows are moved
--
-- Assumes nothing.
use mathlib.Core.Path.{◌≡◌, refl, ap, ◌∙◌}
use mathlib.Core.List.{List}
use Prim.Native.Nat.{ℕ, ◌+◌, ◌*◌, ◌-◌, ◌/◌, ◌%◌, ◌<◌, ◌≤◌}
use native.Mathlib.Nat.{le_trans, div-add-mod', mod-lt, div-lt_iff_lt-mul}
use native.Mathlib.Omega.{arith}
use borrow.Author.Count.{below_more}
use lib.Arith.{digits_lt}
use lib.ListN.{length, get_or, set}
use Rattle.line.proofs.Cells.{by_lt}
use Rattle.grid.specs.Buffer.{InBuffer, Taken, Put}
use Rattle.earlier_passes.specs.Copied.{Room, Copied}
use Rattle.earlier_passes.proofs.Copies.{copied_one}

pub record Rows {A : Type 0} (x : List A) (f g : ℕ → ℕ) (m c : ℕ) (l : List A) : Type 0 where
  pub some : 0 < c
  pub room : (n : ℕ) → n < m → Room x (f n) (g n) c l
  pub apart : (r n j : ℕ) → r < n → j < c → g r + j < g n

pub record Moved {A : Type 0} (o : A) (x : List A) (f g : ℕ → ℕ) (m c : ℕ) (l l' : List A) : Type 0 where
  pub size : length l' ≡ length l
  pub on : (n j : ℕ) → n < m → j < c → get_or l' (g n + j) o ≡ get_or x (f n + j) o
  pub off : (i : ℕ) → ((n j : ℕ) → n < m → j < c → i ≡ g n + j → ⊥) → get_or l' i o ≡ get_or l i o

pub record Moving {A : Type 0} (o : A) (x : List A) (f g : ℕ → ℕ) (m c : ℕ) (l l' : List A) (n : ℕ) : Type 0 where
  pub rows : Rows x f g m c l
  pub count : n ≤ m
  pub so_far : Moved o x f g n c l l'

-- ---- row by row
module _ {A : Type 0} {o : A} {x : List A} {f g : ℕ → ℕ} {m c : ℕ} {l : List A} where
  pub moving_none : Rows x f g m c l → Moving o x f g m c l l 0
  moving_none w = record { rows = w; count = omega arith; so_far = record { size = refl; on = λ n j p q. absurd (omega arith); off = λ i h. refl } }

  module _ {l' : List A} {n : ℕ} (p : Moving o x f g m c l l' n) where
    pub moving_room : n < m → Room x (f n) (g n) c l'
    moving_room h = let r = p.rows.room n h in record { source = r.source; target = λ j q. omega (arith, r.target j q, p.so_far.size) }

    pub moving_next : n < m → (f n < length x) × (g n < length l')
    moving_next h = let r = moving_room h in omega (arith, r.source 0 p.rows.some, r.target 0 p.rows.some)

    pub moving_row : {l'' : List A} → n < m → Copied o x (f n) (g n) c l' l'' → Moving o x f g m c l l'' (n + 1)
    moving_row {l''} h q = record {
      rows = p.rows;
      count = omega arith;
      so_far = let s = p.so_far in record {
        size = q.size ∙ s.size;
        on = λ r j h k. below_more (λ r. get_or l'' (g r + j) o ≡ get_or x (f r + j) o) n
            (λ r lt. q.below (g r + j) (p.rows.apart r n j lt k) ∙ s.on r j lt k)
            (q.on j k) r h;
        off = λ i h.
            let old = s.off i (λ r j a. h r j (omega arith)) in
            by_lt i (g n) (λ lt. q.below i lt ∙ old)
            (λ ge. by_lt i (g n + c) (λ lt. absurd (h n (i - g n) (omega arith) (omega arith) (omega arith))) (λ past. q.above i past ∙ old));
      };
    }

    pub moving_all : m ≤ n → Moved o x f g m c l l'
    moving_all h = let e : n ≡ m = omega (arith, p.count) in rw e at p.so_far

-- a row of one cell, from place k to place i
pub moving_cell : {A : Type 0} {o : A} {x : List A} {f g : ℕ → ℕ} {m n k i : ℕ} {l l' : List A} {v : A}
    → Moving o x f g m 1 l l' n → n < m → k ≡ f n → i ≡ g n → v ≡ get_or x k o → Moving o x f g m 1 l (set l' i v) (n + 1)
moving_cell {o = o} {x} p h d e q = rw e (moving_row p h (copied_one (q ∙ ap (λ k. get_or x k o) d) (moving_next p h).1))

-- ---- all at once
module _ {A : Type 0} {x : List A} {f g : ℕ → ℕ} {m c : ℕ} {l : List A} (a b : ℕ)
    (w : Rows x f g m c l) (d : (n : ℕ) → f n ≡ a + n * c) (e : (n : ℕ) → g n ≡ b + n * c) where
  whole_room : Room x a b (m * c) l
  whole_room = record {
    source = λ k h. omega (arith, d (k / c), div-add-mod' k c, (w.room (k / c) ((div-lt_iff_lt-mul w.some).1 h)).source (k % c) (mod-lt k w.some));
    target = λ k h. omega (arith, e (k / c), div-add-mod' k c, (w.room (k / c) ((div-lt_iff_lt-mul w.some).1 h)).target (k % c) (mod-lt k w.some));
  }

  whole_moved : {o : A} {l' : List A} → Copied o x a b (m * c) l l' → Moved o x f g m c l l'
  whole_moved {o} {l'} q = record {
    size = q.size;
    on = λ n j h k.
        let there : g n + j ≡ b + (n * c + j) = omega (arith, e n) in let here : a + (n * c + j) ≡ f n + j = omega (arith, d n) in
        ap (λ i. get_or l' i o) there ∙ q.on (n * c + j) (digits_lt h k) ∙ ap (λ i. get_or x i o) here;
    off = λ i h. by_lt i b (q.below i)
        (λ ge. by_lt i (b + m * c)
        (λ lt. let k : ℕ = i - b in absurd (h (k / c) (k % c) ((div-lt_iff_lt-mul w.some).1 (omega arith)) (mod-lt k w.some) (omega (arith, e (k / c), div-add-mod' k c))))
        (q.above i));
  }

-- ---- strips
module _ {A : Type 0} {l : List A} {s t m c : ℕ} (w : InBuffer l s t m c) {x : List A} (h : m * c ≤ length x) where
  pub rows_taken : Rows l (λ n. s + n * t) (λ n. n * c) m c x
  rows_taken = record {
    some = w.some;
    room = λ n p. record { source = λ j q. w.place n j p q; target = λ j q. omega (arith, digits_lt p q) };
    apart = λ r n j p q. digits_lt p q;
  }

  pub rows_put : Rows x (λ n. n * c) (λ n. s + n * t) m c l
  rows_put = record {
    some = w.some;
    room = λ n p. record { source = λ j q. omega (arith, digits_lt p q); target = λ j q. w.place n j p q };
    apart = λ r n j p q. omega (arith, digits_lt p (le_trans q w.apart));
  }

module _ {A : Type 0} {o : A} {s t m c : ℕ} {l x y : List A} where
  pub taken : Moved o l (λ n. s + n * t) (λ n. n * c) m c x y → Taken o l s t m c x y
  taken p = record { size = p.size; on = p.on; above = λ i h. p.off i (λ n j a k e. omega (arith, digits_lt a k)) }

  pub put : Moved o x (λ n. n * c) (λ n. s + n * t) m c l y → Put o x s t m c l y
  put p = record { size = p.size; on = p.on; off = p.off }

-- lines that fill the buffer's rows
module _ {A : Type 0} {l : List A} {s t m c : ℕ} (e : t ≡ c) (w : InBuffer l s t m c) {x : List A} (h : m * c ≤ length x) where
  pub take_room : Room l s 0 (m * c) x
  take_room = whole_room s 0 (rows_taken w h) (λ n. rw e) (λ n. omega arith)

  pub put_room : Room x 0 s (m * c) l
  put_room = whole_room 0 s (rows_put w h) (λ n. omega arith) (λ n. rw e)

  pub take_whole : {o : A} {y : List A} → Copied o l s 0 (m * c) x y → Taken o l s t m c x y
  take_whole q = taken (whole_moved s 0 (rows_taken w h) (λ n. rw e) (λ n. omega arith) q)

  pub put_whole : {o : A} {y : List A} → Copied o x 0 s (m * c) l y → Put o x s t m c l y
  put_whole q = put (whole_moved 0 s (rows_put w h) (λ n. omega arith) (λ n. rw e) q)

-- what a function for a single line asks
pub one_line : {A : Type 0} {l : List A} {s t m c : ℕ} (x : List A) → c ≡ 1 → InBuffer l s t m c → m * c ≤ length x → InBuffer l s t m 1 × (m ≤ length x)
one_line x e b h = let k = rw e at h in (rw e at b, omega arith)
