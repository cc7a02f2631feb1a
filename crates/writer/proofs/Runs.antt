-- The bits of a pass over a stretch of coefficients: joined from those of its parts, and bounded. Assumes nothing.
use mathlib.Core.Path.{◌≡◌, refl, sym, ap, ◌∙◌}
use mathlib.Core.Bool.{Bool, true, false}
use mathlib.Core.List.{List, [], ◌∷◌, ◌++◌, append_assoc, append-nil}
use Prim.Native.Nat.{ℕ, zero, suc, ◌+◌, ◌*◌, ◌-◌, ◌/◌, ◌%◌, ◌^◌, ◌<◌, ◌≤◌}
use native.Mathlib.Nat.{add-suc, zero-add}
use native.Mathlib.Numerals.{add-one}
use native.Mathlib.Omega.{arith}
use lib.IntN.{ℤ, nat_abs}
use lib.ListN.{length, length-append, set}
use lib.Seq.{get_or-set_same, get_or-set_other}
use lib.Pow.{pow_mono, shl_exact}
use Rattle.line.specs.Cells.{choose, behind, cell, total, count}
use Rattle.line.proofs.Cells.{by_lt}
use Rattle.bitplane.specs.Body.{Pass, class, sign_after, code, pass_bits}
use Rattle.bitplane.proofs.Empty.{bits_none}
use Rattle.bitplane.proofs.Bytes.{Binary, code_binary, pass_binary}
use Rattle.writer.specs.declared.Pass.{Pass as Turn}
use Rattle.writer.specs.declared.Gathered.{Gathered}
use Rattle.writer.specs.Written.{extended, Digits, given, Fits, Room, Sends, run}
use Rattle.writer.specs.Passes.{gives_at, Each}
use Rattle.writer.proofs.Digits.{extended-append, extended_behind, extended_small}
use Rattle.writer.proofs.Codes.{code-length}
use Rattle.writer.proofs.Passes.{sends_none, sends_both, room_fits}

-- ---- more digits behind those of a number
digits_more : {l : List ℕ} {number n v m : ℕ} (new : List ℕ) → Digits l number n → v ≡ extended number new → m ≡ length new → Digits (l ++ new) v (n + m)
digits_more {l} {number} {n} new d e f = record {
  value = e ∙ ap (λ k. extended k new) d.value ∙ sym (extended-append 0 l new);
  many = omega (arith, d.many, length-append l new);
}

-- what a member gives, by the test that made it one
pub given_is : (c : Bool) (t : ℕ) (z : ℤ) (m : ℕ) → m ≡ choose c 1 0 → given t z m ≡ choose c (code t z) []
given_is true t z m e = rw e
given_is false t z m e = rw e

given_length : (c : Bool) (t : ℕ) (z : ℤ) → (choose c 1 0 ≤ length (choose c (code t z) [])) × (length (choose c (code t z) []) ≤ 2)
given_length true t z = code-length t z
given_length false t z = (omega arith, omega arith)

-- the zeros of coefficients that have not begun
code-zero : (t : ℕ) (z : ℤ) → nat_abs z / 2 ^ t ≡ 0 → code t z ≡ 0 ∷ []
unfolding code sign_after
code-zero t z e = rw e

zero_digits : (c : Bool) (t : ℕ) (z : ℤ) → (c ≡ true → nat_abs z / 2 ^ t ≡ 0) → (0 ≡ extended 0 (choose c (code t z) [])) × (choose c 1 0 ≡ length (choose c (code t z) []))
unfolding extended
zero_digits true t z e = rw (code-zero t z (e refl)) (refl, refl)
zero_digits false t z e = (refl, refl)

module _ (x : Pass) (Z : ℕ → ℤ) where
  -- ---- a run and its parts
  run_more : (i n : ℕ) → run x Z i (n + 1) ≡ run x Z i n ++ choose (x.on (i + n)) (code x.plane (Z (i + n))) []
  unfolding run pass_bits
  run_more i n = rw (add-one n)

  pub run_one : {z : ℤ} (i : ℕ) → x.on i ≡ true → z ≡ Z i → run x Z i 1 ≡ code x.plane z
  unfolding run pass_bits
  run_one i o e = let d : i + 0 ≡ i = omega arith in rw (d, o, e)

  run-append : (i k m : ℕ) → run x Z i (k + m) ≡ run x Z i k ++ run x Z (i + k) m
  unfolding run pass_bits
  run-append i k zero = let e : k + 0 ≡ k = omega arith in rw (e, append-nil)
  run-append i k (suc m) = let e : i + (k + m) ≡ i + k + m = omega arith in rw (add-suc k m, e) (rw (run-append i k m) (append_assoc (run x Z i k) (run x Z (i + k) m) _))

  run_length : (i k m : ℕ) → length (run x Z i (k + m)) ≡ length (run x Z i k) + length (run x Z (i + k) m)
  run_length i k m = ap length (run-append i k m) ∙ length-append (run x Z i k) (run x Z (i + k) m)

  run_off : (i n : ℕ) → ((k : ℕ) → k < n → x.on (i + k) ≡ false) → run x Z i n ≡ []
  unfolding run
  run_off i n none = bits_none (behind i Z) (behind i x.on) x.plane n none

  -- past the last coefficient of the pass
  pub run_past : (i n m : ℕ) → n ≤ m → ((k : ℕ) → n ≤ k → x.on (i + k) ≡ false) → run x Z i m ≡ run x Z i n
  run_past i n m h none =
      let e : m ≡ n + (m - n) = omega arith in
      rw (e, run-append i n (m - n), run_off (i + n) (m - n) (λ k g. let d : i + n + k ≡ i + (n + k) = omega arith in rw d (none (n + k) (omega arith))), append-nil)

  pub run_all : (n : ℕ) → run x Z 0 n ≡ pass_bits x Z n
  unfolding run pass_bits
  run_all zero = refl
  run_all (suc n) = rw (zero-add n, run_all n)

  -- ---- what a loop over parts keeps
  pub sends_start : {o : List ℕ} (i p : ℕ) → Sends (run x Z i 0) p o o p
  unfolding run pass_bits
  sends_start i p = sends_none p

  pub sends_off : {o : List ℕ} (i n p : ℕ) → ((k : ℕ) → k < n → x.on (i + k) ≡ false) → Sends (run x Z i n) p o o p
  sends_off i n p none = rw (run_off i n none) (sends_none p)

  pub sends_next : {o a b : List ℕ} {p q r j n : ℕ} (i k m : ℕ) → i + k ≡ j → k + m ≡ n → Sends (run x Z i k) p o a q → Sends (run x Z j m) q a b r → Sends (run x Z i n) p o b r
  sends_next i k m e f s t = rw (← f, run-append i k m, e) (sends_both s t)

  pub sends_skip : {o a : List ℕ} {p q j n : ℕ} (i k m : ℕ) → i + k ≡ j → k + m ≡ n → ((d : ℕ) → d < m → x.on (j + d) ≡ false) → Sends (run x Z i k) p o a q → Sends (run x Z i n) p o a q
  sends_skip {q = q} {j = j} i k m e f none s = sends_next i k m e f s (sends_off j m q none)

  pub room_next : {o a : List ℕ} {p q j n : ℕ} (i k m : ℕ) → i + k ≡ j → k + m ≤ n → Sends (run x Z i k) p o a q → length a ≡ length o → Room (run x Z i n) p o → Room (run x Z j m) q a
  room_next {n = n} i k m e h s l r =
      let d : k + m + (n - (k + m)) ≡ n = omega arith in
      rw (← e) (record { fits = omega (arith, s.at, r.fits, run_length i k m, (rw d at (run_length i (k + m) (n - (k + m))))); small = omega (arith, r.small) })

  -- ---- what a loop over coefficients keeps
  pub run_start : (i : ℕ) → Digits (run x Z i 0) 0 0
  unfolding run pass_bits extended
  run_start i = record { value = refl; many = refl }

  -- ---- one coefficient more: its digits as a number a, w of them
  pub run_next : {number n a w : ℕ} (i k b : ℕ) → number < 2 ^ b → Digits (run x Z i k) number n → a ≡ extended 0 (choose (x.on (i + k)) (code x.plane (Z (i + k))) []) → w ≡ length (choose (x.on (i + k)) (code x.plane (Z (i + k))) [])
      → Digits (run x Z i (k + 1)) (number * 2 ^ w % 2 ^ (b + 2) + a) (n + w)
  run_next {number} {w = w} i k b h s e f =
      let new = choose (x.on (i + k)) (code x.plane (Z (i + k))) [] in let g = given_length (x.on (i + k)) x.plane (Z (i + k)) in
      let d : number * 2 ^ w % 2 ^ (b + 2) ≡ number * 2 ^ w = shl_exact b w (b + 2) h (omega arith) in
      rw (run_more i k) (digits_more new s (rw (d, e, f) (sym (extended_behind number new))) f)

  -- ---- bounds
  pub run_binary : (i n : ℕ) → Binary (run x Z i n)
  unfolding run
  run_binary i n = pass_binary _ (behind i Z) n

  pub run_many : (i n : ℕ) → (count n (behind i x.on) ≤ length (run x Z i n)) × (length (run x Z i n) ≤ 2 * n)
  unfolding run pass_bits count total
  run_many i zero = (omega arith, omega arith)
  run_many i (suc n) =
      let a = run_many i n in let g = given_length (x.on (i + n)) x.plane (Z (i + n)) in
      omega (arith, length-append (run x Z i n) (choose (x.on (i + n)) (code x.plane (Z (i + n))) []))

  -- 16 coefficients of which one is of the class
  pub run_fits : {number n p m : ℕ} {out : List ℕ} (i : ℕ) → m ≡ count 16 (behind i x.on) → (m ≡ 0 → ⊥) → Digits (run x Z i 16) number n → Room (run x Z i 16) p out → Fits number n p out
  run_fits i e some d r = let b = run_many i 16 in room_fits (run_binary i 16) d (omega arith) (omega arith) r

  pub run_small : {number count : ℕ} (i n b : ℕ) → 2 * n ≤ b → Digits (run x Z i n) number count → number < 2 ^ b
  run_small i n b h d = omega (arith, d.value, extended_small (run x Z i n) (run_binary i n), pow_mono {i = length (run x Z i n)} {j = b} (omega (arith, run_many i n)))

  -- ---- no member among n coefficients has begun
  zero-run : (i n : ℕ) → ((k : ℕ) → k < n → x.on (i + k) ≡ true → nat_abs (Z (i + k)) / 2 ^ x.plane ≡ 0) → Digits (run x Z i n) 0 (count n (behind i x.on))
  unfolding run pass_bits count total extended
  zero-run i zero z = record { value = refl; many = refl }
  zero-run i (suc n) z =
      let g = zero_digits (x.on (i + n)) x.plane (Z (i + n)) (z n (omega arith)) in
      digits_more (choose (x.on (i + n)) (code x.plane (Z (i + n))) []) (zero-run i n (λ k h. z k (omega arith))) g.0 g.1

  pub run-zero : {m : ℕ} (i n : ℕ) → m ≡ count n (behind i x.on) → ((k : ℕ) → k < n → x.on (i + k) ≡ true → nat_abs (Z (i + k)) / 2 ^ x.plane ≡ 0) → Digits (run x Z i n) 0 m
  run-zero i n e z = rw e (zero-run i n z)

-- ---- what a loop over some coefficients keeps of each; m is 1 for a member
module _ {s : Turn} {i : ℕ} {found : List Gathered} where
  pub each_start : Each s i 0 found
  each_start = record { digits = λ k d h. absurd (omega arith) }

  pub each_more : {z : ℤ} {m : ℕ} (k : ℕ) (d : Gathered) → k < length found → z ≡ cell s.plane.now (i + k) → m ≡ choose (class s.mask.now s.class (i + k)) 1 0 → Digits (given s.t z m) d.number d.count
      → Each s i k found → Each s i (k + 1) (set found k d)
  each_more {z} {m} k d h e f g x =
      let same : given s.t z m ≡ gives_at s (i + k) = rw e (given_is (class s.mask.now s.class (i + k)) s.t (cell s.plane.now (i + k)) m f) in
      let gives : Digits (gives_at s (i + k)) d.number d.count = rw same at g in
      record {
        digits = λ j d' j<. by_lt j k
            (λ lt. rw (get_or-set_other found k j d d' (omega arith)) (x.digits j d' lt))
            (λ ge. let same : j ≡ k = omega arith in rw (same, get_or-set_same found k d d' h) gives);
      }

-- no coefficient gives more than two digits, and these are no larger than 3
pub gives_few : {number count : ℕ} (s : Turn) (i : ℕ) → Digits (gives_at s i) number count → (count ≤ 2) × (number < 4)
gives_few s i d =
    let new = gives_at s i in let g = given_length (class s.mask.now s.class i) s.t (cell s.plane.now i) in
    (omega (arith, d.many), omega (arith, d.value, extended_small new (code_binary (class s.mask.now s.class i) s.t (cell s.plane.now i)), pow_mono {i = length new} {j = 2} g.1))
