-- Some coefficients of a pass at once: n of them, from i on. Assumes nothing.
use mathlib.Core.Path.{◌≡◌, refl, sym, ap, ◌∙◌}
use mathlib.Core.Bool.{Bool, true, false}
use mathlib.Core.List.{List}
use Prim.Native.Nat.{ℕ, zero, suc, ◌+◌, ◌*◌, ◌-◌, ◌/◌, ◌%◌, ◌<◌, ◌≤◌}
use native.Mathlib.Nat.{add-suc}
use native.Mathlib.Omega.{arith}
use lib.Dec.{ltb}
use lib.IntN.{ℤ, pos, negsuc}
use lib.ListN.{length}
use borrow.Author.Tests.{lt-ltb}
use Rattle.line.specs.Cells.{choose, behind, cell, total, count}
use Rattle.line.proofs.Cells.{by_lt, by_bool}
use Rattle.line.proofs.Counts.{count_marked}
use Rattle.bitplane.specs.Bits.{gathered}
use Rattle.bitplane.specs.Body.{Pass, one_plane}
use Rattle.bitplane.specs.Reader.{Received, received, Reading, used, grown, taken, place, pass}
use Rattle.bitplane.proofs.Bytes.{gathered_small, gathered_none}
use Rattle.bitplane.proofs.Empty.{count_none}
use Rattle.bitplane.proofs.Passes.{reading_eq}
use Rattle.bitplane.proofs.Past.{bytes_binary, used_most, grown_by_none}
use Rattle.coefficient.specs.Growth.{reading_from, Takes, Small, Grown}
use Rattle.reader.specs.Reads.{reading, Spare, Reads, Continues}
use Rattle.reader.proofs.Passes.{stopped_in, stopped_not, more_start, more_off}

-- ---- places
place_most : (h : Received) → ((i : ℕ) → h.bit i < 2) → (x : Pass) (r : Reading) (k : ℕ) → place h x r k ≤ r.at + 2 * k
unfolding place
place_most h s x r zero = omega arith
place_most h s x r (suc k) = omega (arith, place_most h s x r k, member-most (x.on k))
  where
    member-most : (c : Bool) → choose c (used (r.value k) (h.bit (place h x r k))) 0 ≤ 2
    member-most true = used_most (r.value k) (h.bit (place h x r k)) (s (place h x r k))
    member-most false = omega arith

used-zero : (v : ℤ) → used v 0 ≡ 1
unfolding used
used-zero (pos zero) = refl
used-zero (pos (suc m)) = refl
used-zero (negsuc m) = refl

module _ (src : List ℕ) (on : ℕ → Bool) (t : ℕ) where
  abbrev H : Received
  H = received src

  abbrev X : Pass
  X = one_plane on t

  -- counted from coefficient i on; which plane it is does not matter
  place-behind : (r : Reading) (i k : ℕ) → place H X r (i + k) ≡ place H (one_plane (behind i on) 0) (record { value = behind i r.value; at = place H X r i }) k
  unfolding place
  place-behind r i zero = let e : i + 0 ≡ i = omega arith in rw e
  place-behind r i (suc k) = rw (add-suc i k, place-behind r i k)

  module _ (l : List ℤ) (i q : ℕ) where
    abbrev at : ℕ → ℕ
    at = place H (one_plane (behind i on) 0) (reading_from l i q)

    -- l' is l with n of them read
    pub record Part (n : ℕ) (l' : List ℤ) (q' : ℕ) : Type 0 where
      pub below : (k : ℕ) → k < i → cell l' k ≡ cell l k
      pub value : (k : ℕ) → k < n → cell l' (i + k) ≡ choose (on (i + k)) (taken H t (cell l (i + k)) (at k)) (cell l (i + k))
      pub rest : (k : ℕ) → i + n ≤ k → cell l' k ≡ cell l k
      pub end : q' ≡ at n
      pub near : q' ≤ 8 * length src

  module _ {l l' : List ℤ} {i n q q' : ℕ} (part : Part l i q n l' q') (inside : q ≤ 8 * length src) where
    module _ (l₀ : List ℤ) (p : ℕ) (r : Reads src X l₀ p l q i) where
      place_is : (k : ℕ) → place H X (reading l₀ p) (i + k) ≡ at l i q k
      place_is k =
          place-behind (reading l₀ p) i k
          ∙ ap (λ (s : Reading). place H (one_plane (behind i on) 0) s k) (reading_eq (λ j. sym (r.rest (i + j) (omega arith))) (sym (stopped_not H r.at inside)))

      value_is : (k : ℕ) → k < n → cell l' (i + k) ≡ (pass H (i + n) X (reading l₀ p)).value (i + k)
      value_is k h = part.value k h ∙ rw (place_is k, r.rest (i + k) (omega arith))

      part_reads : Reads src X l₀ p l' q' (i + n)
      part_reads = record {
        value = λ k h. by_lt k i (λ lt. part.below k lt ∙ r.value k lt) (λ ge. let e : i + (k - i) ≡ k = omega arith in rw e at (value_is (k - i) (omega arith)));
        rest = λ k h. part.rest k h ∙ r.rest k (omega arith);
        at = rw (place_is n, ← part.end) (sym (stopped_in H part.near));
      }

    pub part_continues : Continues src X l q i l' q' (i + n)
    part_continues = record { reads = part_reads; rest = part.rest; near = omega (arith, part.near) }

  -- ---- by pairs of bits
  pair_taken : (c : Bool) (v : ℤ) (p r : ℕ) → suc p < 8 * length src → r ≡ choose c (gathered H.bit p 2) 0 → grown t true v (r / 2) (r % 2) ≡ choose c (taken H t v p) v
  unfolding gathered
  pair_taken true v p r h e =
      let b = bytes_binary src p in let s = bytes_binary src (suc p) in
      let f : p + 0 ≡ p = omega arith in let g : p + 1 ≡ suc p = omega arith in
      let d : r ≡ (0 * 2 + H.bit p) * 2 + H.bit (suc p) = rw (f, g) at e in
      let y : r / 2 ≡ H.bit p = omega arith in let z : r % 2 ≡ H.bit (suc p) = omega arith in
      rw (y, z, lt-ltb (suc p) (8 * length src) h)
  pair_taken false v p r h e = rw e (grown_by_none t true v 0)

  module _ {l : List ℤ} {i q : ℕ} where
    pub block_part : {l' : List ℤ} {pairs : List ℕ} {n q' : ℕ} → q + 2 * n ≤ 8 * length src → Takes H (behind i on) (reading_from l i q) n pairs q' → Grown t i n pairs l l' → Part l i q n l' q'
    block_part {n = n} h s g =
        let most = place_most H (bytes_binary src) (one_plane (behind i on) 0) (reading_from l i q) in
        record {
          below = g.below;
          value = λ k k<. g.each k k< ∙ pair_taken (on (i + k)) (cell l (i + k)) (at l i q k) _ (omega (arith, most k)) (s.pair k k<);
          rest = g.rest;
          end = s.at;
          near = omega (arith, s.at, most n);
        }

  -- ---- where the next bit of each is 0
  module _ (l : List ℤ) (i q n m : ℕ) (many : m ≡ count n (behind i on)) (zeros : (k : ℕ) → k < m → H.bit (q + k) ≡ 0) where
    zero_here : (k : ℕ) → k < n → on (i + k) ≡ true → H.bit (q + count k (behind i on)) ≡ 0
    zero_here k h o = zeros (count k (behind i on)) (omega (arith, count_marked k n (behind i on) h o))

    silent_place : (k : ℕ) → k ≤ n → at l i q k ≡ q + count k (behind i on)
    unfolding place count total
    silent_place zero h = omega arith
    silent_place (suc k) h = let e = silent_place k (omega arith) in by_bool (on (i + k))
        (λ o. rw (o, e, zero_here k (omega arith) o, used-zero (cell l (i + k))) (omega arith))
        (λ o. rw (o, e) (omega arith))

    silent_value : (k : ℕ) → k < n → choose (on (i + k)) (taken H t (cell l (i + k)) (at l i q k)) (cell l (i + k)) ≡ cell l (i + k)
    silent_value k h = by_bool (on (i + k))
        (λ o. let p = at l i q k in let z : H.bit p ≡ 0 = rw (silent_place k (omega arith)) (zero_here k h o) in rw (o, z) (grown_by_none t (ltb (suc p) (8 * length src)) (cell l (i + k)) (H.bit (suc p))))
        (λ o. rw o)

    pub silent_part : q + m ≤ 8 * length src → Part l i q n l (q + m)
    silent_part h = record {
      below = λ k g. refl;
      value = λ k g. sym (silent_value k g);
      rest = λ k g. refl;
      end = sym (silent_place n (omega arith) ∙ omega arith);
      near = h;
    }

  -- ---- what the code asks and finds
  pub block_none : {l : List ℤ} {i q : ℕ} (n : ℕ) → count n (behind i on) ≡ 0 → q ≤ suc (8 * length src) → Continues src X l q i l q (i + n)
  block_none {i = i} n e h = more_off n refl (count_none n (behind i on) e) (more_start i refl h)

  pub block_silent : {l : List ℤ} {i m q : ℕ} (n : ℕ) → m ≡ count n (behind i on) → gathered H.bit q m ≡ 0 → q + m ≤ 8 * length src → Continues src X l q i l (q + m) (i + n)
  block_silent {l} {i} {m} {q} n e z h = part_continues (silent_part l i q n m e (gathered_none H.bit q m z) h) (omega arith)

  pub block_small : {l : List ℤ} {i q q' : ℕ} {pairs : List ℕ} → Takes H (behind i on) (reading_from l i q) 16 pairs q' → Spare on t (cell l) i → Small t l i pairs
  block_small {l} {i} {q} s y =
      record {
        two = λ k h. rw (s.pair k h) (by_bool (on (i + k)) (λ o. rw o (omega (arith, gathered_small H.bit (at l i q k) 2 (bytes_binary src)))) (λ o. rw o (omega arith)));
        spare = λ k h g. by_bool (on (i + k))
            (λ o. y.each (i + k) (omega arith) o)
            (λ o. let z = s.pair k h in absurd (omega (arith, (rw o at z))));
      }
