-- The members of a class as a list: how the loops collect and spread them, and that a pass over the list gives and takes the bits of the pass
-- over the plane. Assumes nothing.
use mathlib.Core.Path.{◌≡◌, refl, sym, ap, ap₂, ◌∙◌}
use mathlib.Core.Bool.{Bool, true, false}
use mathlib.Core.List.{List, ◌++◌, append-nil}
use Prim.Native.Nat.{ℕ, zero, suc, ◌+◌, ◌-◌, ◌<◌, ◌≤◌}
use native.Mathlib.Omega.{arith}
use native.Mathlib.Numerals.{add-one}
use lib.Dec.{leb}
use lib.IntN.{ℤ, pos, nat_abs}
use lib.ListN.{length, get_or-append, set, take, replicate}
use lib.Seq.{get_or-set_same, get_or-set_other, get_or-take, length-take-le}
use Rattle.line.specs.Cells.{choose, behind, cell, total, count}
use Rattle.line.proofs.Cells.{by_lt, by_bool, never}
use Rattle.line.proofs.Counts.{count_one, count_off, count_marked, count_add, count-le}
use Rattle.line.proofs.Lists.{front_cell}
use Rattle.bitplane.proofs.Empty.{count_none}
use Rattle.bitplane.specs.Body.{class, one_plane, planes, pass_bits, body}
use Rattle.bitplane.specs.Reader.{Received, Reading, place, pass, read, missing}
use Rattle.members.specs.Collection.{Collected, Listed, Kept}

-- ---- the loops
module _ {on : ℕ → Bool} where
  pub collected_none : {Z D : ℕ → ℤ} → Collected on Z 0 D 0
  unfolding count total
  collected_none = record { many = refl; each = λ i h o. absurd (omega arith) }

  -- none of the next n coefficients is a member
  pub collected_off : {Z D : ℕ → ℤ} {i j m : ℕ} (n : ℕ) → i + n ≡ j → count n (behind i on) ≡ 0 → Collected on Z i D m → Collected on Z j D m
  collected_off {i = i} n e z x = rw (← e) (record {
    many = omega (arith, x.many, count_add i n on, z);
    each = λ k h o. by_lt k i (λ lt. x.each k lt o) (λ ge. let d : i + (k - i) ≡ k = omega arith in absurd (never o (rw d at (count_none n (behind i on) z (k - i) (omega arith)))));
  })

  pub collected_skip : {Z D : ℕ → ℤ} {i m : ℕ} → on i ≡ false → Collected on Z i D m → Collected on Z (i + 1) D m
  unfolding count total
  collected_skip {i = i} o x = let e : i + 0 ≡ i = omega arith in collected_off 1 refl (rw (e, o) refl) x

  -- coefficient i is one: it goes into the list, or from the list to its place
  module _ {i m : ℕ} (o : on i ≡ true) (e : m ≡ count i on) where
    next_member : {Z D : ℕ → ℤ} → ((k : ℕ) → k < i → on k ≡ true → D (count k on) ≡ Z k) → D m ≡ Z i → Collected on Z (i + 1) D (m + 1)
    next_member before at = rw (add-one i) (record {
      many = omega (arith, count_one i on o);
      each = λ k h q. by_lt k i (λ lt. before k lt q) (λ ge. let d : k ≡ i = omega arith in rw (d, ← e) at);
    })

    pub into_list : {Z : ℕ → ℤ} {v : ℤ} (l : List ℤ) → m < length l → v ≡ Z i → Collected on Z i (cell l) m → Collected on Z (i + 1) (cell (set l m v)) (m + 1)
    into_list {v = v} l h d x = next_member (λ k lt q. get_or-set_other l m (count k on) v (pos 0) (omega (arith, count_marked k i on lt q)) ∙ x.each k lt q) (get_or-set_same l m v (pos 0) h ∙ d)

    pub into_plane : {D : ℕ → ℤ} {v : ℤ} (l : List ℤ) → i < length l → v ≡ D m → Collected on (cell l) i D m → Collected on (cell (set l i v)) (i + 1) D (m + 1)
    into_plane {v = v} l h d x = next_member (λ k lt q. x.each k lt q ∙ sym (get_or-set_other l i k v (pos 0) (omega arith))) (sym d ∙ sym (get_or-set_same l i v (pos 0) h))

  pub kept_set : {Y : ℕ → ℤ} (l : List ℤ) (i : ℕ) (v : ℤ) → on i ≡ true → Kept on Y (cell l) → Kept on Y (cell (set l i v))
  kept_set l i v o x k off = get_or-set_other l i k v (pos 0) (λ e. never o (rw e at off)) ∙ x k off

-- the list has room for one more
pub member_fits : {mask : List ℕ} {c n i m size : ℕ} {Z D : ℕ → ℤ} → Listed mask c n size → class mask c i ≡ true → i < n → Collected (class mask c) Z i D m → (m < size) × (m < 16777216)
member_fits {mask} {c} {n} {i} l o h x =
    let fits = count_marked i n (class mask c) h o in
    (omega (arith, x.many, fits, l.room), omega (arith, x.many, fits, l.size, count-le n (class mask c)))

-- more cells behind those of the list
pub collected_front : {on : ℕ → Bool} {Z : ℕ → ℤ} {n m : ℕ} (l r : List ℤ) → m ≤ length l → Collected on Z n (cell l) m → Collected on Z n (cell (l ++ r)) m
collected_front {on} {n = n} l r h x = record { many = x.many; each = λ i g o. get_or-append l r (pos 0) (count i on) (omega (arith, x.many, count_marked i n on g o)) ∙ x.each i g o }

-- ---- a list of places in which each cell is overwritten with what stands at its place: those before cell k are
pub record Fetched (on : ℕ → Bool) (Z : ℕ → ℤ) (n : ℕ) (D : ℕ → ℤ) (k : ℕ) : Type 0 where
  pub done : (i : ℕ) → i < n → on i ≡ true → count i on < k → D (count i on) ≡ Z i
  pub left : (i : ℕ) → i < n → on i ≡ true → k ≤ count i on → D (count i on) ≡ pos i

-- a cell that is left holds the place of a member
module _ (on : ℕ → Bool) (D : ℕ → ℤ) (k : ℕ) where
  place_in : (n : ℕ) → k < count n on → ((i : ℕ) → i < n → on i ≡ true → k ≤ count i on → D (count i on) ≡ pos i) → nat_abs (D k) < n
  unfolding count total
  place_in zero h x = absurd (omega arith)
  place_in (suc n) h x = by_lt k (count n on)
      (λ lt. omega (arith, place_in n lt (λ i g o q. x i (omega arith) o q)))
      (λ ge. by_bool (on n)
      (λ o. let e : count n on ≡ k = omega (arith, count_one n on o) in omega (arith, ap nat_abs (rw e at (x n (omega arith) o (omega arith)))))
      (λ o. absurd (omega (arith, count_off n on o))))

module _ {on : ℕ → Bool} {Z : ℕ → ℤ} {n : ℕ} where
  pub fetched_none : {D : ℕ → ℤ} {m : ℕ} → Collected on pos n D m → Fetched on Z n D 0
  fetched_none x = record { done = λ i h o g. absurd (omega arith); left = λ i h o g. x.each i h o }

  pub fetched_place : {D : ℕ → ℤ} {m k : ℕ} → m ≡ count n on → k < m → Fetched on Z n D k → nat_abs (D k) < n
  fetched_place {D} {k = k} e h x = place_in on D k n (omega arith) x.left

  pub fetched_more : {k : ℕ} {v : ℤ} (l : List ℤ) → k < length l → v ≡ Z (nat_abs (cell l k)) → Fetched on Z n (cell l) k → Fetched on Z n (cell (set l k v)) (k + 1)
  fetched_more {k} {v} l h e x = record {
    done = λ i g o q. by_lt (count i on) k
        (λ lt. get_or-set_other l k (count i on) v (pos 0) (omega arith) ∙ x.done i g o lt)
        (λ ge. let d : count i on ≡ k = omega arith in let p : cell l k ≡ pos i = rw d at (x.left i g o ge) in rw d (get_or-set_same l k v (pos 0) h ∙ e ∙ ap (λ z. Z (nat_abs z)) p));
    left = λ i g o q. get_or-set_other l k (count i on) v (pos 0) (omega arith) ∙ x.left i g o (omega arith);
  }

  pub fetched_all : {D : ℕ → ℤ} {m k : ℕ} → m ≡ count n on → m ≤ k → Fetched on Z n D k → Collected on Z n D m
  fetched_all e h x = record { many = e; each = λ i g o. x.done i g o (omega (arith, count_marked i n on g o)) }

-- ---- a pass over the list, all of whose cells are members, in place of one over the plane
module _ (on all : ℕ → Bool) (n m : ℕ) (every : (k : ℕ) → k < m → all k ≡ true) where
  module _ {Z D : ℕ → ℤ} (x : Collected on Z n D m) where
    all_on : (i : ℕ) → i < n → on i ≡ true → all (count i on) ≡ true
    all_on i h o = every (count i on) (omega (arith, x.many, count_marked i n on h o))

    bits_to : (t i : ℕ) → i ≤ n → pass_bits (one_plane on t) Z i ≡ pass_bits (one_plane all t) D (count i on)
    unfolding pass_bits count total
    bits_to t zero h = refl
    bits_to t (suc i) h = by_bool (on i)
        (λ o. rw (count_one i on o, o, all_on i h o, x.each i h o, bits_to t i (omega arith)))
        (λ o. rw (count_off i on o, o, append-nil) (bits_to t i (omega arith)))

    pub collected_bits : (t : ℕ) → pass_bits (one_plane on t) Z n ≡ pass_bits (one_plane all t) D m
    collected_bits t = rw x.many (bits_to t n (omega arith))

    pub collected_body : (T : ℕ) → body (planes on T) Z n ≡ body (planes all T) D m
    unfolding body planes
    collected_body zero = refl
    collected_body (suc t) = ap₂ ◌++◌ (collected_bits t) (collected_body t)

  -- what is read into the list is what is read into the plane
  module _ (h : Received) (t : ℕ) {r s : Reading} (at : r.at ≡ s.at) (x : Collected on r.value n s.value m) where
    place_to : (i : ℕ) → i ≤ n → place h (one_plane on t) r i ≡ place h (one_plane all t) s (count i on)
    unfolding place count total
    place_to zero g = at
    place_to (suc i) g = by_bool (on i)
        (λ o. rw (count_one i on o, o, all_on x i g o, x.each i g o, place_to i (omega arith)))
        (λ o. rw (count_off i on o, o) (omega (arith, place_to i (omega arith))))

    collected_place : place h (one_plane on t) r n ≡ place h (one_plane all t) s m
    collected_place = rw x.many (place_to n (omega arith))

    collected_pass : Collected on (pass h n (one_plane on t) r).value n (pass h m (one_plane all t) s).value m
    collected_pass = record { many = x.many; each = λ i g o. rw (o, all_on x i g o, x.each i g o, place_to i (omega arith)) refl }

  -- the same of all planes of a class
  pub record AlsoRead (h : Received) (T : ℕ) (r s : Reading) : Type 0 where
    pub at : (read h n (planes on T) r).at ≡ (read h m (planes all T) s).at
    pub value : Collected on (read h n (planes on T) r).value n (read h m (planes all T) s).value m
    pub missing : missing h n (planes on T) r ≡ missing h m (planes all T) s

  pub collected_read : (h : Received) (T : ℕ) {r s : Reading} → r.at ≡ s.at → Collected on r.value n s.value m → AlsoRead h T r s
  unfolding read missing planes
  collected_read h zero e x = record { at = e; value = x; missing = refl }
  collected_read h (suc t) e x =
      let y = collected_read h t (collected_place h t e x) (collected_pass h t e x) in
      record { at = y.at; value = y.value; missing = ap₂ (λ p k. choose (leb p h.size) 0 1 + k) (collected_place h t e x) y.missing }

-- ---- a mask all of whose bytes are 1
pub ones_on : (m k : ℕ) → m ≤ k → (i : ℕ) → i < m → class (take m (replicate k 1)) 1 i ≡ true
unfolding class
ones_on m k h i lt = rw (front_cell {A = ℕ} {k = k} 1 h 2 i lt) refl

-- ---- the list in working memory: the first m cells of a buffer, under a mask all of whose bytes are 1
module _ {on : ℕ → Bool} {Z : ℕ → ℤ} {n m : ℕ} (l : List ℤ) (x : Collected on Z n (cell l) m) where
  pub front_collected : Collected on Z n (cell (take m l)) m
  front_collected = record { many = x.many; each = λ i h o. get_or-take m l (count i on) (pos 0) (omega (arith, x.many, count_marked i n on h o)) ∙ x.each i h o }

  pub front_body : (k T : ℕ) → m ≤ length l → m ≤ k → body (planes on T) Z n ≡ body (planes (class (take m (replicate k 1)) 1) T) (cell (take m l)) (length (take m l))
  front_body k T h g = rw (length-take-le m l h) (collected_body on (class (take m (replicate k 1)) 1) n m (ones_on m k g) front_collected T)
