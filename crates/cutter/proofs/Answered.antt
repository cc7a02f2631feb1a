-- What is answered, by the number of the first test that holds. Assumes nothing.
use mathlib.Core.Path.{◌≡◌, refl, sym, ap, ◌∙◌}
use mathlib.Core.Bool.{Bool, true, false, not, ◌||◌, false≢true}
use mathlib.Core.List.{List, [], ◌∷◌, ◌++◌}
use Prim.Native.Nat.{ℕ, ◌<◌, ◌≤◌}
use native.Mathlib.Omega.{arith}
use lib.Dec.{ltb, eqb}
use lib.ListN.{length, drop}
use borrow.Author.Tests.{lt-ltb, le-ltb}
use Rattle.line.specs.Cells.{choose}
use Rattle.line.proofs.Cells.{by_bool}
use Rattle.refusal.specs.Numbers.{Test, test, refusal_number, first, accepted}
use Rattle.refusal.specs.declared.Refusal.{Refusal}
use Rattle.refusal.proofs.Named.{named, none_needed}
use Rattle.refusal.proofs.Ordered.{none, here, next, numbered, first-append, passes_test}
use Rattle.header.specs.Header.{front_length}
use Rattle.header.specs.Arrival.{cut_to}
use Rattle.codestream.specs.Reading.{answer_of, read_tests, read_numbers, plane_after, mask_after}
use Rattle.codestream.specs.Reading as reading
use Rattle.codestream.specs.Cutting.{bad_cut, length_tests, cut_tests}
use Rattle.decoder.specs.Answers as decoder
use Rattle.decoder.specs.declared.Reading.{Reading}
use Rattle.cutter.specs.Inner.{Read, Answered}
use Rattle.std.specs.Prelude.{Result, Ok, Err}
use Rattle.refusal.specs.declared.Refusal.TheVariants.{Room}

module _ {l out : List ℕ} {c : ℕ} where
  -- a refusal that is not 11 leaves the stream buffer alone
  pub refused : {f : ℕ} (r : Refusal) → eqb (refusal_number r) 11 ≡ false → refusal_number r ≡ f → Answered f l c out out (Err r)
  refused r b e = rw (← e) (record { numbers = rw (named r, b, none_needed r b); held = rw (named r) })

  pub too_short : {f : ℕ} → 11 ≡ f → Answered f l c out out (Err (Room c))
  too_short e = rw (← e) (record { numbers = refl; held = refl })

  pub done : {f : ℕ} {out' : List ℕ} → 0 ≡ f → out' ≡ cut_to l c ++ drop c out → Answered f l c out out' (Ok c)
  done e h = rw (← e) (record { numbers = refl; held = h })

-- ---- the tests behind those of the reader, one after the other
module _ {l : List ℕ} {w : Bool} {mark : ℕ} (k : Read l w mark) where
  is_whole : w ≡ true → (answer_of l).whole ≡ true
  is_whole e = sym k.whole_is ∙ e

  pub front_most : w ≡ true → front_length l ≤ mark
  front_most e = rw (k.mark_is, is_whole e) (omega arith)

  module _ (c o : ℕ) where
    pub not_whole : w ≡ false → 15 ≡ first (length_tests l c o)
    not_whole e = let f : (answer_of l).whole ≡ false = sym k.whole_is ∙ e in here _ 15 _ (rw f)

    module _ (whole : w ≡ true) where
      mark_next : (b d : Bool) → not (answer_of l).whole || b || d ≡ b || d
      mark_next b d = rw (is_whole whole)

      pub below_mark : c < mark → 15 ≡ first (length_tests l c o)
      below_mark h = here _ 15 _ (mark_next _ _ ∙ rw (lt-ltb c (answer_of l).region_mark (omega (arith, k.mark_is))))

      module _ (at_mark : mark ≤ c) where
        stream_next : (d : Bool) → not (answer_of l).whole || ltb c (answer_of l).region_mark || d ≡ d
        stream_next d = mark_next _ d ∙ rw (le-ltb c (answer_of l).region_mark (omega (arith, k.mark_is)))

        pub above_stream : length l < c → 15 ≡ first (length_tests l c o)
        above_stream h = here _ 15 _ (stream_next _ ∙ lt-ltb (length l) c h)

        module _ (inside : c ≤ length l) where
          good : bad_cut l c ≡ false
          good = stream_next _ ∙ le-ltb (length l) c inside

          pub no_room : o < c → 11 ≡ first (length_tests l c o)
          no_room h = next _ 11 15 _ good (here _ 11 _ (lt-ltb o c h))

          pub passed : c ≤ o → 0 ≡ first (length_tests l c o)
          passed h = next _ 0 15 _ good (next _ 0 11 _ (le-ltb o c h) none)

-- ---- behind those of the reader
-- no test of a list refuses with number 11; of a list that is written out this computes
unfoldable roomless : List Test → Bool
roomless [] = true
roomless (test b n ∷ ts) = choose (eqb n 11) false (roomless ts)

roomless-first : (ts : List Test) → roomless ts ≡ true → eqb (first ts) 11 ≡ false
unfolding first roomless
roomless-first [] p = refl
roomless-first (test b n ∷ ts) p = by_bool (eqb n 11)
    (λ e. absurd (false≢true (rw e at p)))
    (λ e. by_bool b (λ t. rw t e) (λ t. rw t (roomless-first ts (rw e at p))))

module _ (l : List ℕ) (n m : ℕ) where
  apart : (c o : ℕ) → first (cut_tests l n m c o) ≡ choose (accepted (read_tests l n m)) (first (length_tests l c o)) (first (read_tests l n m))
  unfolding numbered
  apart c o = first-append _ (read_tests l n m) refl

  never_room : eqb (first (read_tests l n m)) 11 ≡ false
  unfolding roomless
  never_room = roomless-first (read_tests l n m) refl

  module _ {x : Result Reading Refusal} (e : decoder.numbers_of x ≡ read_numbers l n m) where
    pub reader_refused : {c : ℕ} {out : List ℕ} (r : Refusal) → x ≡ Err r → Answered (first (cut_tests l n m c (length out))) l c out out (Err r)
    reader_refused {c} {out} r h =
        let f : refusal_number r ≡ first (read_tests l n m) = ap (λ (a : reading.Numbers). a.refusal) (sym (ap decoder.numbers_of h) ∙ e) in
        refused r (ap (λ (k : ℕ). eqb k 11) f ∙ never_room) (f ∙ sym (apart c (length out) ∙ rw (← f, named r)))

    module _ (a : Reading) (h : x ≡ Ok a) where
      found : decoder.numbers_of (Ok a) ≡ read_numbers l n m
      found = sym (ap decoder.numbers_of h) ∙ e

      taken : 0 ≡ first (read_tests l n m)
      taken = ap (λ (a : reading.Numbers). a.refusal) found

      pub read_so : Read l (decoder.is_whole a.body.region_mark) (decoder.place_of a.body.region_mark)
      read_so =
          let ok : accepted (read_tests l n m) ≡ true = ap (λ (k : ℕ). eqb k 0) (sym taken) in
          record {
            header = (passes_test _ 11 _ ok).0;
            whole_is = ap (λ (a : reading.Numbers). a.whole) found ∙ rw ok;
            mark_is = ap (λ (a : reading.Numbers). a.region_mark) found ∙ rw ok;
          }

      pub cut_so : {c : ℕ} {out out' : List ℕ} {r : Result ℕ Refusal} → Answered (first (length_tests l c (length out))) l c out out' r → Answered (first (cut_tests l n m c (length out))) l c out out' r
      cut_so {c} {out} a = let f : first (length_tests l c (length out)) ≡ first (cut_tests l n m c (length out)) = sym (apart c (length out) ∙ rw (← taken)) in rw f at a
