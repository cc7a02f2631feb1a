-- Where the reader stops, and how a pass is read part by part. Assumes nothing.
use mathlib.Core.Path.{◌≡◌, refl, sym, ap, ◌∙◌}
use mathlib.Core.Bool.{Bool, true, false}
use mathlib.Core.List.{List}
use Prim.Native.Nat.{ℕ, zero, suc, ◌+◌, ◌*◌, ◌-◌, ◌<◌, ◌≤◌}
use native.Mathlib.Omega.{arith}
use native.Mathlib.Numerals.{add-one}
use lib.IntN.{ℤ, pos}
use lib.ListN.{length, set}
use lib.Seq.{get_or-set_same, get_or-set_other}
use borrow.Author.Count.{below_more}
use borrow.Author.Tests.{le-leb, lt-leb}
use Rattle.line.specs.Cells.{cell}
use Rattle.line.proofs.Cells.{by_lt}
use Rattle.bitplane.specs.Bits.{bit_at}
use Rattle.bitplane.specs.Body.{Pass, class, one_plane}
use Rattle.bitplane.specs.Reader.{Received, received, Reading, used, taken, place, pass}
use Rattle.bitplane.proofs.Passes.{Upto}
use Rattle.bitplane.proofs.Past.{bytes_binary, bytes_silent, used_most, place_on, place_taken, same_or}
use Rattle.reader.specs.Reads.{stopped, reading, Spare, PartReady, Reads, Continues, PassRead}

-- ---- where the reader stops
module _ (h : Received) where
  pub stopped_in : {p : ℕ} → p ≤ h.size → stopped h p ≡ p
  unfolding stopped
  stopped_in {p} g = rw (le-leb p h.size g)

  pub stopped_past : {p : ℕ} → h.size < p → stopped h p ≡ suc h.size
  unfolding stopped
  stopped_past {p} g = rw (lt-leb p h.size g)

  pub stopped_here : {p : ℕ} → p ≤ suc h.size → stopped h p ≡ p
  stopped_here {p} g = by_lt h.size p (λ lt. stopped_past lt ∙ omega arith) (λ ge. stopped_in ge)

  pub stopped_near : (p : ℕ) → stopped h p ≤ suc h.size
  stopped_near p = by_lt h.size p (λ lt. omega (arith, stopped_past lt)) (λ ge. omega (arith, stopped_in ge))

  -- what is stopped inside is the place itself, and what is stopped past the end is past it
  pub stopped_not : {p q : ℕ} → q ≡ stopped h p → q ≤ h.size → q ≡ p
  stopped_not {p} {q} e g = by_lt h.size p (λ lt. absurd (omega (arith, stopped_past lt))) (λ ge. e ∙ stopped_in ge)

  pub stopped_was : {p q : ℕ} → q ≡ stopped h p → h.size < q → h.size < p
  stopped_was {p} {q} e g = by_lt h.size p (λ lt. lt) (λ ge. absurd (omega (arith, stopped_in ge)))

  stopped_least : {p q : ℕ} → q ≡ stopped h p → h.size ≤ q → h.size ≤ p
  stopped_least {p} {q} e g = by_lt h.size p (λ lt. omega arith) (λ ge. omega (arith, stopped_in ge))

-- ---- what is not of the pass takes nothing
pub place_skip : (h : Received) (x : Pass) (r : Reading) (i j : ℕ) → i ≤ j → ((k : ℕ) → i ≤ k → k < j → x.on k ≡ false) → place h x r j ≡ place h x r i
unfolding place
place_skip h x r i zero g off = let e : i ≡ 0 = omega arith in rw e refl
place_skip h x r i (suc j) g off = by_lt j i
    (λ lt. let e : i ≡ suc j = omega arith in rw e refl)
    (λ ge. rw (off j ge (omega arith)) (omega (arith, place_skip h x r i j ge (λ k a b. off k a (omega arith)))))

-- ---- the pass: its first i coefficients are read
module _ (src : List ℕ) (x : Pass) (l₀ : List ℤ) (p : ℕ) where
  abbrev H : Received
  H = received src

  abbrev S : Reading
  S = reading l₀ p

  reads_start : p ≤ suc (8 * length src) → Reads src x l₀ p l₀ p 0
  unfolding place
  reads_start h = record { value = λ k h. absurd (omega arith); rest = λ k h. refl; at = sym (stopped_here H h) }

  -- none of the coefficients from i to j is of the pass
  reads_skip : {l : List ℤ} {q : ℕ} (i j : ℕ) → i ≤ j → ((k : ℕ) → i ≤ k → k < j → x.on k ≡ false) → Reads src x l₀ p l q i → Reads src x l₀ p l q j
  reads_skip i j g off r = record {
    value = λ k h. by_lt k i (r.value k) (λ ge. r.rest k ge ∙ rw (off k ge h));
    rest = λ k h. r.rest k (omega arith);
    at = r.at ∙ ap (stopped H) (sym (place_skip H x S i j g off));
  }

  -- no bit is left for them
  past_same : (l : List ℤ) {i : ℕ} → 8 * length src ≤ place H x S i → ((k : ℕ) → i ≤ k → cell l k ≡ cell l₀ k) → (k : ℕ) → i ≤ k → cell l k ≡ (pass H i x S).value k
  past_same l {i} g rest k ge = rest k ge ∙ sym (same_or H (bytes_silent src) i (x.on k) x.plane (place H x S k) (cell l₀ k) (omega (arith, place_on H x S i k ge)))

  reads_past : {l : List ℤ} {q : ℕ} (i j : ℕ) → i ≤ j → 8 * length src < q → Reads src x l₀ p l q i → Reads src x l₀ p l q j
  reads_past {l} i j g past r =
      let a = stopped_was H r.at past in
      record {
        value = λ k h. by_lt k i (r.value k) (past_same l (omega arith) r.rest k);
        rest = λ k h. r.rest k (omega arith);
        at = r.at ∙ stopped_past H a ∙ sym (stopped_past H {p = place H x S j} (omega (arith, place_on H x S i j g)));
      }

  -- a coefficient of the pass for which no bit is left
  reads_stop : {l : List ℤ} {q : ℕ} (i : ℕ) → x.on i ≡ true → 8 * length src ≤ q → Reads src x l₀ p l q i → Reads src x l₀ p l (8 * length src + 1) (i + 1)
  reads_stop {l} i o past r =
      let a = stopped_least H r.at past in
      record {
        value = λ k h. by_lt k i (r.value k) (past_same l a r.rest k);
        rest = λ k h. r.rest k (omega arith);
        at = sym (stopped_past H {p = place H x S (i + 1)} (omega (arith, place_taken H x S i (i + 1) (omega arith) o)) ∙ omega arith);
      }

  -- a coefficient of the pass with a bit for it
  reads_on : {l : List ℤ} {q i b u : ℕ} {v w : ℤ} → x.on i ≡ true → i < length l → q < 8 * length src → v ≡ cell l i → b ≡ bit_at src q → w ≡ taken H x.plane v q → u ≡ used v b
      → Reads src x l₀ p l q i → Reads src x l₀ p (set l i w) (q + u) (i + 1)
  unfolding place
  reads_on {l} {q} {i} {b} {u} {v} {w} e h n d f g j r =
      let a : v ≡ cell l₀ i = d ∙ r.rest i (omega arith) in
      let z : b < 2 = omega (arith, bytes_binary src q) in
      let y : q ≡ place H x S i = stopped_not H r.at (omega arith) in
      record {
        value = below_more _ i (λ k k<. get_or-set_other l i k w (pos 0) (omega arith) ∙ r.value k k<) (get_or-set_same l i w (pos 0) h ∙ rw (e, ← y, ← a) g);
        rest = λ k k>. get_or-set_other l i k w (pos 0) (omega arith) ∙ r.rest k (omega arith);
        at = rw (add-one, e, ← y, ← a, ← f, ← j) (sym (stopped_here H (omega (arith, j, used_most v b z))));
      }

  reads_all : {l : List ℤ} {q : ℕ} (i : ℕ) → length l₀ ≤ i → Upto (length l₀) x → Reads src x l₀ p l q i → PassRead H (length l₀) x S l q
  reads_all i h u r = record {
    value = λ k. by_lt k i (r.value k) (λ ge. r.rest k ge ∙ rw (u k (omega arith)));
    at = r.at ∙ ap (stopped H) (place_skip H x S (length l₀) i h (λ k a b. u k a));
  }

-- ---- the same, whatever was read before
module _ {src : List ℕ} {x : Pass} where
  pub more_start : {l : List ℤ} {q i : ℕ} (j : ℕ) → i ≡ j → q ≤ suc (8 * length src) → Continues src x l q i l q j
  more_start j e h = rw e (record { reads = λ l₀ p r. r; rest = λ k h. refl; near = h })

  more_both : {l l' l'' : List ℤ} {q q' q'' i j n : ℕ} → j ≤ n → Continues src x l q i l' q' j → Continues src x l' q' j l'' q'' n → Continues src x l q i l'' q'' n
  more_both h a b = record { reads = λ l₀ p r. b.reads l₀ p (a.reads l₀ p r); rest = λ k g. b.rest k g ∙ a.rest k (omega arith); near = b.near }

  -- the next n coefficients
  pub more_next : {l l' l'' : List ℤ} {q q' q'' i j m : ℕ} (n : ℕ) → j + n ≡ m → Continues src x l q i l' q' j → Continues src x l' q' j l'' q'' (j + n) → Continues src x l q i l'' q'' m
  more_next n e a b = rw (← e) (more_both (omega arith) a b)

  pub more_skip : {l l' : List ℤ} {q q' i : ℕ} (j n : ℕ) → j ≤ n → ((k : ℕ) → j ≤ k → k < n → x.on k ≡ false) → Continues src x l q i l' q' j → Continues src x l q i l' q' n
  more_skip j n h off a = more_both h a (record { reads = λ l₀ p. reads_skip src x l₀ p j n h off; rest = λ k g. refl; near = a.near })

  -- the same, where the next n coefficients are told by their distance
  pub more_off : {l l' : List ℤ} {q q' i j m : ℕ} (n : ℕ) → j + n ≡ m → ((k : ℕ) → k < n → x.on (j + k) ≡ false) → Continues src x l q i l' q' j → Continues src x l q i l' q' m
  more_off {j = j} {m} n e off a = more_skip j m (omega arith) (λ k g h. let d : j + (k - j) ≡ k = omega arith in rw d at (off (k - j) (omega arith))) a

  pub more_past : {l l' : List ℤ} {q q' i : ℕ} (j n : ℕ) → j ≤ n → 8 * length src < q' → Continues src x l q i l' q' j → Continues src x l q i l' q' n
  more_past j n h past a = more_both h a (record { reads = λ l₀ p. reads_past src x l₀ p j n h past; rest = λ k g. refl; near = a.near })

  pub more_stop : {l l' : List ℤ} {q q' i : ℕ} (j n : ℕ) → j < n → x.on j ≡ true → 8 * length src ≤ q' → Continues src x l q i l' q' j → Continues src x l q i l' (8 * length src + 1) n
  more_stop j n h o past a = more_past (j + 1) n (omega arith) (omega arith)
      (more_both (omega arith) a (record { reads = λ l₀ p. reads_stop src x l₀ p j o past; rest = λ k g. refl; near = omega arith }))

  pub more_on : {l l' : List ℤ} {q q' i b u : ℕ} {v w : ℤ} (j : ℕ) → x.on j ≡ true → j < length l' → q' < 8 * length src → v ≡ cell l' j → b ≡ bit_at src q' → w ≡ taken (received src) x.plane v q' → u ≡ used v b
      → Continues src x l q i l' q' j → Continues src x l q i (set l' j w) (q' + u) (j + 1)
  more_on {l' = l'} {q' = q'} {b = b} {v = v} {w = w} j e h n d f g y a = more_both (omega arith) a (record {
    reads = λ l₀ p. reads_on src x l₀ p e h n d f g y;
    rest = λ k k>. get_or-set_other l' j k w (pos 0) (omega arith);
    near = let z : b < 2 = omega (arith, bytes_binary src q') in omega (arith, y, used_most v b z);
  })

  pub more_all : {l l' : List ℤ} {q q' : ℕ} (i : ℕ) → q ≤ suc (8 * length src) → length l ≤ i → Upto (length l) x → Continues src x l q 0 l' q' i → PassRead (received src) (length l) x (reading l q) l' q'
  more_all {l} {q = q} i h g u a = reads_all src x l q i g u (a.reads l q (reads_start src x l q h))

-- ---- what is still to be read leaves room
pub spare_rest : {on : ℕ → Bool} {t i j : ℕ} {Y Z : ℕ → ℤ} → i ≤ j → ((k : ℕ) → j ≤ k → Z k ≡ Y k) → Spare on t Y i → Spare on t Z j
spare_rest h same s = record { each = λ k g o. rw (same k g) (s.each k (omega arith) o) }

pub part_next : {src mask : List ℕ} {l l' : List ℤ} {c t i j p q : ℕ} → length l' ≡ length l → i ≤ j → Continues src (one_plane (class mask c) t) l p i l' q j → PartReady src l mask c t i p → PartReady src l' mask c t j q
part_next e h a r = record {
  depth = r.depth;
  ready = record { class = r.ready.class; sizes = r.ready.sizes ∙ sym e; few = omega (arith, r.ready.few); place = a.near; small = r.ready.small };
  spare = spare_rest h a.rest r.spare;
}
