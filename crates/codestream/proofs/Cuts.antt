-- A stream cut to c bytes: its header is that of the uncut one but for the length field, its body is the front of the uncut one's, and the cutter
-- takes c exactly from the region mark of a stream whose marked part is whole up to its length.
--
--   Headed l c       == the header and the body's part of the stream l cut to c bytes
--   Cuttable l n m c == the reader accepts l, its marked part is whole, and c is from its region mark to its length
--
-- Assumes nothing.
use mathlib.Core.Path.{◌≡◌, refl, sym, ap, ap₂, ◌∙◌}
use mathlib.Core.Bool.{Bool, true, false, not, ◌||◌}
use mathlib.Core.List.{List, [], ◌∷◌}
use Prim.Native.Nat.{ℕ, zero, suc, ◌+◌, ◌*◌, ◌-◌, ◌^◌, ◌<◌, ◌≤◌}
use native.Mathlib.Nat.{pow-suc}
use native.Mathlib.Omega.{arith}
use lib.Dec.{ltb}
use lib.ListN.{length, get_or, take, drop, length-append, length-take, length-drop}
use lib.Seq.{get_or-append-add, get_or-take, get_or-drop, ext_get_or}
use borrow.Author.Tests.{eq-eqb, not-false, ltb-false, le-ltb}
use Rattle.refusal.specs.Numbers.{test, first, accepted}
use Rattle.refusal.proofs.Ordered.{passes_test, numbered, accepted_both, accepted_join}
use Rattle.refusal.proofs.Passed.{neither}
use Rattle.header.specs.Header.{number, front_length, bad_header, bad_version, body_tests, body_of}
use Rattle.header.specs.Fields.{bytes_of, numbers, shot_of}
use Rattle.header.specs.Arrival.{cut_to}
use Rattle.header.proofs.Fields.{bytes_length, number_at}
use Rattle.header.proofs.Parts.{else_length, good_total}
use Rattle.codestream.specs.Reading.{answer_of, read_tests}
use Rattle.codestream.specs.Cutting.{bad_cut, cut_tests, Bytes}

number_small : (n : ℕ) (l : List ℕ) (at : ℕ) → Bytes l → number n l at < 256 ^ n
unfolding number
number_small zero l at b = omega arith
number_small (suc n) l at b = omega (arith, pow-suc 256 n, number_small n l at b, b (at + n))

-- ---- the bytes of a cut stream
module _ (l : List ℕ) (c : ℕ) (some : 4 ≤ c) (most : c ≤ length l) where
  -- the length field is mended
  cut_field : c - 4 < 4294967296 → number 4 (cut_to l c) 0 ≡ c - 4
  cut_field small = number_at [] 4 (c - 4) (drop 4 (take c l)) small

  pub cut_length : length (cut_to l c) ≡ c
  cut_length =
      length-append (bytes_of 4 (c - 4)) (drop 4 (take c l)) ∙ omega (arith, bytes_length 4 (c - 4), length-drop 4 (take c l), length-take c l)

  cut_byte : (i : ℕ) → 4 ≤ i → i < c → get_or (cut_to l c) i 0 ≡ get_or l i 0
  cut_byte i low high =
      let p = bytes_of 4 (c - 4) in
      let e : i ≡ length p + (i - 4) = omega (arith, bytes_length 4 (c - 4)) in
      let d : 4 + (i - 4) ≡ i = omega arith in
      ap (λ n. get_or (cut_to l c) n 0) e ∙ get_or-append-add p (drop 4 (take c l)) (i - 4) 0
      ∙ get_or-drop 4 (take c l) (i - 4) 0 ∙ ap (λ n. get_or (take c l) n 0) d ∙ get_or-take c l i 0 high

  cut_number : (n at : ℕ) → 4 ≤ at → at + n ≤ c → number n (cut_to l c) at ≡ number n l at
  unfolding number
  cut_number zero at low high = refl
  cut_number (suc n) at low high = ap₂ (λ (a b : ℕ). a * 256 + b) (cut_number n at low (omega arith)) (cut_byte (at + n) (omega arith) (omega arith))

  cut_numbers : (n at : ℕ) → 4 ≤ at → at + 2 * n ≤ c → numbers n (cut_to l c) at ≡ numbers n l at
  unfolding numbers
  cut_numbers zero at low high = refl
  cut_numbers (suc n) at low high = ap₂ (λ (a : ℕ) (b : List ℕ). a ∷ b) (cut_number 2 at low (omega arith)) (cut_numbers n (at + 2) (omega arith) (omega arith))

  cut_behind : (f : ℕ) → 4 ≤ f → f ≤ c → drop f (cut_to l c) ≡ take (c - f) (drop f l)
  cut_behind f low high =
      let a : length (drop f (cut_to l c)) ≡ c - f = length-drop f (cut_to l c) ∙ omega (arith, cut_length) in
      let b : length (take (c - f) (drop f l)) ≡ c - f = length-take (c - f) (drop f l) ∙ omega (arith, length-drop f l) in
      ext_get_or 0 (drop f (cut_to l c)) (take (c - f) (drop f l)) (a ∙ sym b) λ i h.
      get_or-drop f (cut_to l c) i 0 ∙ cut_byte (f + i) (omega arith) (omega arith) ∙ sym (get_or-take (c - f) (drop f l) i 0 (omega arith) ∙ get_or-drop f l i 0)

-- ---- an accepted header that is whole in the cut
pub record Headed (l : List ℕ) (c : ℕ) : Type 0 where
  pub size : length (cut_to l c) ≡ c
  pub tests : accepted (body_tests (cut_to l c)) ≡ true
  pub front : front_length (cut_to l c) ≡ front_length l
  pub shot : shot_of (cut_to l c) ≡ shot_of l
  pub body : body_of (cut_to l c) ≡ take (c - front_length l) (body_of l)
  pub rest : length (body_of l) ≡ length l - front_length l

module _ (l : List ℕ) (c : ℕ) (bytes : Bytes l) (ok : accepted (body_tests l) ≡ true) (low : front_length l ≤ c) (high : c ≤ length l) where
  good_header : bad_header l ≡ false
  good_header = (passes_test (bad_header l) 11 _ ok).0

  good_version : bad_version l ≡ false
  good_version = (passes_test (bad_version l) 12 _ (passes_test (bad_header l) 11 _ ok).1).0

  field : number 4 l 0 + 4 ≡ length l
  field = good_total l good_header

  small : c - 4 < 4294967296
  small = omega (arith, field, number_small 4 l 0 bytes)

  -- the fields behind the length field
  fixed : (n at : ℕ) → 4 ≤ at → at + n ≤ 14 → number n (cut_to l c) at ≡ number n l at
  fixed n at a b = cut_number l c (omega arith) high n at a (omega arith)

  front_cut : front_length (cut_to l c) ≡ front_length l
  front_cut = ap (λ (k : ℕ). 14 + 8 * k) (fixed 1 12 (omega arith) (omega arith))

  header_cut : bad_header (cut_to l c) ≡ false
  header_cut =
      let n = cut_length l c (omega arith) high in
      else_length (cut_to l c) (omega arith) (omega (arith, front_cut))
      ∙ ap not (eq-eqb (number 4 (cut_to l c) 0 + 4) (length (cut_to l c)) (omega (arith, cut_field l c (omega arith) high small)))

  version_cut : bad_version (cut_to l c) ≡ false
  version_cut = rw (fixed 1 4 (omega arith) (omega arith)) good_version

  shot_cut : shot_of (cut_to l c) ≡ shot_of l
  shot_cut =
      let rectangles = cut_numbers l c (omega arith) high (4 * number 1 l 12) 14 (omega arith) (omega arith) in
      rw (
        fixed 1 5 (omega arith) (omega arith),
        fixed 1 6 (omega arith) (omega arith),
        fixed 1 7 (omega arith) (omega arith),
        fixed 2 8 (omega arith) (omega arith),
        fixed 2 10 (omega arith) (omega arith),
        fixed 1 13 (omega arith) (omega arith),
        fixed 1 12 (omega arith) (omega arith),
        rectangles,
      )

  body_uncut : body_of l ≡ drop (front_length l) l
  unfolding first
  body_uncut = rw (good_header, good_version)

  body_cut : body_of (cut_to l c) ≡ drop (front_length (cut_to l c)) (cut_to l c)
  unfolding first
  body_cut = rw (header_cut, version_cut)

  tests_cut : accepted (body_tests (cut_to l c)) ≡ true
  unfolding first
  tests_cut = rw (header_cut, version_cut) refl

  pub headed : Headed l c
  headed = record {
    size = cut_length l c (omega arith) high;
    tests = tests_cut;
    front = front_cut;
    shot = shot_cut;
    body = body_cut ∙ ap (λ (f : ℕ). drop f (cut_to l c)) front_cut ∙ cut_behind l c (omega arith) high (front_length l) (omega arith) low
        ∙ ap (take (c - front_length l)) (sym body_uncut);
    rest = ap length body_uncut ∙ length-drop (front_length l) l;
  }

-- ---- the cutter's tests
pub record Cuttable (l : List ℕ) (n m c : ℕ) : Type 0 where
  pub read : accepted (read_tests l n m) ≡ true
  pub whole : (answer_of l).whole ≡ true
  pub low : (answer_of l).region_mark ≤ c
  pub high : c ≤ length l

module _ (l : List ℕ) (n m c o : ℕ) where
  pub cut_passed : accepted (cut_tests l n m c o) ≡ true → Cuttable l n m c × (c ≤ o)
  unfolding numbered
  cut_passed ok =
      let mark = (answer_of l).region_mark in
      let a = accepted_both _ (read_tests l n m) refl ok in
      let b = passes_test (bad_cut l c) 14 _ a.1 in
      let d = passes_test (ltb o c) 10 _ b.1 in
      let e = neither (not (answer_of l).whole || ltb c mark) (ltb (length l) c) b.0 in
      let f = neither (not (answer_of l).whole) (ltb c mark) e.0 in
      (record { read = a.0; whole = not-false _ f.0; low = ltb-false c mark f.1; high = ltb-false (length l) c e.1 }, ltb-false o c d.0)

none_of_three : (w a b : Bool) → w ≡ true → a ≡ false → b ≡ false → (not w || a || b) ≡ false
none_of_three w a b p q r = rw (p, q, r)

both_pass : (a b : Bool) → a ≡ false → b ≡ false → accepted (test a 15 ∷ test b 11 ∷ []) ≡ true
unfolding first
both_pass a b p q = rw (p, q)

module _ (l : List ℕ) (n m c o : ℕ) where
  pub cut_taken : Cuttable l n m c → c ≤ o → accepted (cut_tests l n m c o) ≡ true
  cut_taken p h =
      let mark = (answer_of l).region_mark in
      let bad = none_of_three (answer_of l).whole (ltb c mark) (ltb (length l) c) p.whole (le-ltb c mark p.low) (le-ltb (length l) c p.high) in
      accepted_join _ (read_tests l n m) p.read (both_pass (bad_cut l c) (ltb o c) bad (le-ltb o c h))
