-- From the answer of a test, or of the body, to that of the call. Assumes nothing.
use mathlib.Core.Path.{◌≡◌, sym, ap, ◌∙◌, subst}
use mathlib.Core.Bool.{Bool, true, false, false≢true}
use mathlib.Core.List.{List, [], ◌∷◌}
use Prim.Native.Nat.{ℕ, ◌*◌, ◌≤◌}
use native.Mathlib.Omega.{arith}
use lib.Dec.{eqb}
use lib.IntN.{ℤ}
use lib.ListN.{length, get_or, take, replicate}
use borrow.Author.Tests.{ne_eqb}
use Rattle.kernel.specs.declared.Kernel.{Kernel}
use Rattle.line.proofs.Lists.{listed-length}
use Rattle.refusal.specs.Numbers.{test, refusal_number, first}
use Rattle.refusal.specs.declared.Refusal.{Refusal}
use Rattle.refusal.proofs.Named.{named}
use Rattle.refusal.proofs.Passed.{Sides}
use Rattle.header.specs.Header.{number}
use Rattle.header.specs.Fields.{shot_of}
use Rattle.shot.specs.Shots.{mask_bytes, shot_mask}
use Rattle.shot.specs.Inner.{Drawable}
use Rattle.codestream.specs.Reading.{header_tests, buffer_tests, filling_test, read_tests}
use Rattle.codestream.specs.Reading as reading
use Rattle.header_reader.specs.declared.Header.{Header}
use Rattle.header_reader.specs.Answers.{header_for}
use Rattle.header_reader.proofs.Arrays.{numbers-length, array_front}
use Rattle.decoder.specs.Inner.{Taken, Found, Answered}
use Rattle.decoder.specs.declared.Body.{Body}
use Rattle.std.specs.Prelude.{Result, Ok, Err}
use Rattle.decoder.specs.declared.Reading.{Reading}
use Rattle.decoder.proofs.Tests.{passed, header_most, refused_first, passed_first}

-- ---- refusals
module _ {l : List ℕ} {plane : List ℤ} {mask : List ℕ} where
  -- a refusal other than 16 leaves the buffers
  pub refused_answer : {f : ℕ} (r : Refusal) → eqb (refusal_number r) 16 ≡ false → refusal_number r ≡ f → Answered f l plane plane mask mask (Err r)
  refused_answer {f} r n h = subst (λ (f : ℕ). Answered f l plane plane mask mask (Err r)) h (record {
    numbers = rw (named r);
    header = tt;
    plane_held = rw (named r, n);
    mask_held = rw (named r, n);
  })

  -- ---- the body's answer
  module _ {drawn : List ℕ} (size : length drawn ≡ length mask) {plane' : List ℤ} {mask' : List ℕ} where
    refused_so : (b : Bool) (r : Refusal) → Found (first (test b 16 ∷ [])) l plane plane' drawn mask' (Err r) → Answered (first (test b 16 ∷ [])) l plane plane' mask mask' (Err r)
    unfolding first
    refused_so true r f = record { numbers = f.numbers; header = tt; plane_held = f.plane_held; mask_held = f.mask_held ∙ ap (λ (n : ℕ). replicate n 0) size }
    refused_so false r f = absurd (false≢true (sym (named r) ∙ ap (λ (x : reading.Numbers). eqb x.refusal 0) f.numbers))

    done_so : (b : Bool) (x : Body) (h : Header) → h ≡ header_for (shot_of l) → Found (first (test b 16 ∷ [])) l plane plane' drawn mask' (Ok x)
        → Answered (first (test b 16 ∷ [])) l plane plane' mask mask' (Ok (record { header = h; body = x }))
    unfolding first
    done_so true x h e f = absurd (false≢true (sym (ap (λ (x : reading.Numbers). eqb x.refusal 0) f.numbers)))
    done_so false x h e f = record { numbers = f.numbers; header = e; plane_held = f.plane_held; mask_held = f.mask_held }

    module _ {f : ℕ} (is : first (filling_test l) ≡ f) {o : Result Body Refusal} (found : Found (first (filling_test l)) l plane plane' drawn mask' o) where
      pub body_refused : (r : Refusal) → o ≡ Err r → Answered f l plane plane' mask mask' (Err r)
      body_refused r e = subst (λ (f : ℕ). Answered f l plane plane' mask mask' (Err r)) is (refused_so _ r (subst (λ (o : Result Body Refusal). Found (first (filling_test l)) l plane plane' drawn mask' o) e found))

      pub body_done : (x : Body) {h : Header} → o ≡ Ok x → h ≡ header_for (shot_of l) → Answered f l plane plane' mask mask' (Ok (record { header = h; body = x }))
      body_done x {h} e i = subst (λ (f : ℕ). Answered f l plane plane' mask mask' (Ok (record { header = h; body = x }))) is (done_so _ x h i (subst (λ (o : Result Body Refusal). Found (first (filling_test l)) l plane plane' drawn mask' o) e found))

-- ---- the rectangles of a header that passed, and their mask
module _ (l : List ℕ) {k : Kernel} {h : Header} (t : Taken l k h) where
  count : h.count ≡ number 1 l 12
  count = ap (λ (h : Header). h.count) t.header ∙ omega (arith, numbers-length (4 * number 1 l 12) l 14)

  pub few : h.count ≤ 32
  few = omega (arith, (passed l t.tests).rectangles.few, numbers-length (4 * number 1 l 12) l 14, count)

  pub room : length h.rectangles ≡ 128
  room = ap (λ (h : Header). length h.rectangles) t.header ∙ listed-length 128 (λ i. get_or (shot_of l).rectangles i 0)

  pub sides : Sides h.width h.height
  sides = rw t.header (passed l t.tests).setting.sides

  module _ {n : ℕ} (four : n ≡ 4 * h.count) where
    front_is : take n h.rectangles ≡ (shot_of l).rectangles
    front_is = ap (λ (h : Header). take n h.rectangles) t.header ∙ array_front l (number 1 l 12) n (omega (arith, count, few)) (omega (arith, count))

    pub front_length : n ≡ length (take n h.rectangles)
    front_length = omega (arith, ap length front_is, numbers-length (4 * number 1 l 12) l 14, count)

    pub drawable : {m : ℕ} → m ≡ h.width * h.height → Drawable h.levels h.width h.height (take n h.rectangles) m
    drawable full =
        let p = passed l t.tests in
        record { levels = rw t.header p.setting.levels.0; size = rw t.header p.setting.size; inside = rw (front_is, t.header) p.rectangles.inside; full = full }

    pub mask_drawn : mask_bytes k h.levels h.width h.height (take n h.rectangles) ≡ shot_mask (shot_of l)
    mask_drawn = rw (front_is, t.kernel, t.header)

-- ---- the call
module _ {l : List ℕ} {plane : List ℤ} {mask : List ℕ} where
  pub header_refused : (r : Refusal) → refusal_number r ≡ first (header_tests l) → Answered (first (read_tests l (length plane) (length mask))) l plane plane mask mask (Err r)
  header_refused r n = refused_answer r (ne_eqb (refusal_number r) 16 (omega (arith, header_most l))) (refused_first l (length plane) (length mask) n (named r))

  pub headed_answer : {x : Result Reading Refusal} {plane' : List ℤ} {mask' : List ℕ} → first (header_tests l) ≡ 0 → Answered (first (buffer_tests l (length plane) (length mask))) l plane plane' mask mask' x
      → Answered (first (read_tests l (length plane) (length mask))) l plane plane' mask mask' x
  headed_answer {x} {plane'} {mask'} e a = subst (λ (f : ℕ). Answered f l plane plane' mask mask' x) (passed_first l (length plane) (length mask) e) a
