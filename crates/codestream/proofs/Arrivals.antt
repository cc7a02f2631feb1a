-- What `arrived` leaves of the first bytes of a stream is the stream cut to them. Assumes nothing.
use mathlib.Core.Path.{◌≡◌, refl, sym, ap, ◌∙◌}
use mathlib.Core.Bool.{false}
use mathlib.Core.List.{List, ◌++◌}
use Prim.Native.Nat.{ℕ, ◌+◌, ◌*◌, ◌-◌, ◌<◌, ◌≤◌}
use native.Mathlib.Omega.{arith}
use lib.ListN.{length, take, drop, length-take, take-append-drop}
use lib.Seq.{take_all}
use borrow.Author.Tests.{lt-ltb, le-ltb}
use Rattle.line.proofs.Cells.{by_lt}
use Rattle.refusal.specs.Numbers.{first}
use Rattle.header.specs.Header.{number, front_length, bad_header}
use Rattle.header.specs.Fields.{bytes_of}
use Rattle.header.specs.Arrival.{cut_to, sent_length, bad_arrival, arrived_of, arrival_numbers}
use Rattle.header.proofs.Fields.{number_before, bytes_number}
use Rattle.header.proofs.Arrivals.{whole_cut}
use Rattle.header.proofs.Parts.{front_whole, front_good, good_total}
use Rattle.codestream.specs.Cutting.{Bytes}

-- the first c bytes of a stream have its numbers
front_number : (l : List ℕ) (c n at : ℕ) → at + n ≤ length (take c l) → number n (take c l) at ≡ number n l at
front_number l c n at h = sym (number_before n (take c l) (drop c l) at h) ∙ ap (λ (k : List ℕ). number n k at) (take-append-drop c l)

module _ (l : List ℕ) (good : bad_header l ≡ false) (c : ℕ) (low : front_length l ≤ c) (high : c ≤ length l) where
  size : length (take c l) ≡ c
  size = length-take c l ∙ omega arith

  sent : sent_length (take c l) ≡ length l
  sent = ap (λ (n : ℕ). n + 4) (front_number l c 4 0 (omega (arith, size))) ∙ good_total l good

  taken : bad_arrival (take c l) ≡ false
  taken =
      let f : front_length (take c l) ≡ front_length l = ap (λ (k : ℕ). 14 + 8 * k) (front_number l c 1 12 (omega (arith, size))) in
      (front_good (take c l) (front_whole (take c l) (omega (arith, size)) (omega (arith, size, f)))).1 ∙ le-ltb (sent_length (take c l)) (length (take c l)) (omega (arith, size, sent))

  -- the call accepts them, and tells the length of the stream
  pub arrived_numbers : arrival_numbers (take c l) ≡ record { refusal = 0; sent = length l }
  unfolding first
  arrived_numbers = rw (taken, sent) refl

  short : c < length l → arrived_of (take c l) ≡ cut_to l c
  unfolding first
  short h =
      rw (taken, lt-ltb (length (take c l)) (sent_length (take c l)) (omega (arith, size, sent))) refl
      ∙ ap (cut_to (take c l)) size ∙ ap (λ (k : List ℕ). bytes_of 4 (c - 4) ++ drop 4 k) (take_all c (take c l) (omega (arith, size)))

  all : length l ≤ c → arrived_of (take c l) ≡ take c l
  unfolding first
  all h = rw (taken, le-ltb (length (take c l)) (sent_length (take c l)) (omega (arith, size, sent))) refl

  -- cut to its own length a stream is itself
  uncut : Bytes l → cut_to l (length l) ≡ l
  uncut bytes =
      let e : length l - 4 ≡ number 4 l 0 = omega (arith, good_total l good) in
      whole_cut l ∙ ap (λ (k : List ℕ). k ++ drop 4 l) (ap (bytes_of 4) e ∙ bytes_number l bytes 4 (omega arith)) ∙ take-append-drop 4 l

  -- the theorem
  pub arrived_cut : Bytes l → arrived_of (take c l) ≡ cut_to l c
  arrived_cut bytes = by_lt c (length l) short
      (λ ge. let e : c ≡ length l = omega arith in all ge ∙ take_all c l (omega arith) ∙ sym (ap (cut_to l) e ∙ uncut bytes))
