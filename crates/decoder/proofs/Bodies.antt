-- What is found in the body of a stream whose mask is drawn. Assumes nothing.
use mathlib.Core.Path.{◌≡◌, refl, sym, ap, ◌∙◌, subst}
use mathlib.Core.Bool.{true, false}
use mathlib.Core.List.{List, []}
use Prim.Native.Nat.{ℕ, ◌+◌, ◌*◌, ◌-◌, ◌/◌, ◌^◌, ◌<◌, ◌≤◌}
use native.Mathlib.Omega.{arith}
use lib.IntN.{ℤ, pos}
use lib.ListN.{length, get_or, take, drop, replicate, length-take, length-drop, length-replicate, get_or-replicate, get_or-eq_default}
use lib.Seq.{ext_get_or}
use borrow.Author.Tests.{ltb-false, le-leb, lt-leb, lt-ltb, le-ltb}
use Rattle.line.specs.Cells.{cell, count}
use Rattle.line.proofs.Cells.{by_lt}
use Rattle.line.proofs.Lists.{is_listed}
use Rattle.bitplane.specs.Body.{class, planes}
use Rattle.bitplane.specs.Reader.{received, read, start, bad_filling}
use Rattle.refusal.specs.Numbers.{first}
use Rattle.refusal.specs.declared.Refusal.TheVariants.{Filling}
use Rattle.refusal.proofs.Ordered.{none, here, next}
use Rattle.refusal.proofs.Passed.{sides, area_most}
use Rattle.region.specs.Drawing.{Filled}
use Rattle.scan.specs.Inner.{mark_count}
use Rattle.header.specs.Header.{front_length, bad_header, body_of}
use Rattle.header.specs.Fields.{shot_of}
use Rattle.header.proofs.Parts.{good_small}
use Rattle.reader.specs.Reads.{BodyRead}
use Rattle.reader.proofs.Passes.{stopped_near, stopped_not, stopped_was}
use Rattle.reader.proofs.Filling.{filling_stopped}
use Rattle.shot.specs.Shots.{marks}
use Rattle.shot.proofs.Masks.{mask_length, mask_binary}
use Rattle.codestream.specs.Stream.{area, marked_passes, unmarked_passes}
use Rattle.codestream.specs.Reading.{answer_of, plane_of, filling_test}
use Rattle.decoder.specs.Inner.{Masked, Found}
use Rattle.decoder.specs.Answers.{is_whole, place_of}
use Rattle.std.specs.Prelude.{Option, Some, None, Ok, Err}

-- the length field bounds the body
pub body_small : (l : List ℕ) → ((i : ℕ) → get_or l i 0 < 256) → bad_header l ≡ false → (m : ℕ) → 8 * length (take (length l - m) (drop m l)) < 2 ^ 62
body_small l bytes g m = simp (length-take, length-drop) (omega (arith, good_small l bytes g))

-- where the marked part of a body ends
abbrev marked_end : List ℕ → ℕ
marked_end l = (read (received (body_of l)) (area (shot_of l)) (marked_passes (shot_of l)) start).at

-- ---- buffers of zeros
zeros : {A : Type 0} (o : A) (n : ℕ) (l : List A) → length l ≡ n → ((i : ℕ) → get_or l i o ≡ o) → l ≡ replicate n o
zeros o n l e z = ext_get_or o l (replicate n o) (e ∙ sym (length-replicate n o)) (λ i h. z i ∙ sym (get_or-replicate n i o o (omega arith)))

cleared : {m m' : List ℕ} → Filled 0 0 (length m) m m' → m' ≡ replicate (length m) 0
cleared {m} {m'} f = zeros 0 (length m) m' f.size (λ i. f.cell i ∙ by_lt i (length m)
    (λ lt. rw (le-leb 0 i (omega arith), lt-ltb i (0 + length m) (omega arith)))
    (λ ge. rw (le-leb 0 i (omega arith), le-ltb i (0 + length m) (omega arith)) (get_or-eq_default m 0 ge)))

module _ {l : List ℕ} {plane : List ℤ} {mask : List ℕ} {T : ℕ} (k : Masked l plane mask T) where
  -- ---- what the reader of the body asks
  pub few : T ≤ 22
  few = ltb-false 22 T k.few

  pub sizes : length mask ≡ length plane
  sizes = ap length k.mask_is ∙ (mask_length _ _ _ _ _ ∙ sym k.full)

  pub small_area : length plane ≤ 16777216
  small_area = rw k.full (area_most (sides _ _ k.size))

  pub binary : (i : ℕ) → i < length mask → get_or mask i 2 < 2
  binary i h = rw k.mask_is (mask_binary _ _ _ _ _ i (omega (arith, sizes, k.full)))

  pub marks_are : {n : ℕ} → n ≡ mark_count mask → n ≡ count (length mask) (class mask 1)
  unfolding mark_count
  marks_are e = e

  -- ---- what it finds, in the terms of the stream
  module _ {b : List ℕ} (is : b ≡ body_of l) {after : List ℤ} {m e q : ℕ}
      (r : BodyRead (received b) (length plane) (planes (class mask 1) T) (planes (class mask 0) T) after m e q) where
    abbrev Here : Type 0
    Here = BodyRead (received (body_of l)) (area (shot_of l)) (marked_passes (shot_of l)) (unmarked_passes (shot_of l)) after m e q

    found : Here
    found = rw (← is, ← k.full, ← k.mask_is, ← k.planes) r

    pub filling_is : bad_filling b e ≡ bad_filling (body_of l) (answer_of l).end
    filling_is = rw (is, found.end) (filling_stopped (body_of l) (answer_of l).end)

    pub end_small : 8 * length b < 2 ^ 62 → e < 2 ^ 62
    end_small h = omega (arith, r.end, stopped_near (received b) (read (received b) (length plane) (planes (class mask 0) T) (read (received b) (length plane) (planes (class mask 1) T) start)).at)

    pub marked_small : 8 * length b < 2 ^ 62 → m < 2 ^ 62
    marked_small h = omega (arith, r.marked, stopped_near (received b) (read (received b) (length plane) (planes (class mask 1) T) start).at)

    -- the refusal zeroes both buffers
    pub found_filling : {plane' : List ℤ} {mask' : List ℕ} → true ≡ bad_filling b e → length plane' ≡ length plane → ((i : ℕ) → cell plane' i ≡ pos 0) → Filled 0 0 (length mask) mask mask'
        → Found (first (filling_test l)) l plane plane' mask mask' (Err Filling)
    found_filling {plane'} {mask'} t s z f = subst (λ (n : ℕ). Found n l plane plane' mask mask' (Err Filling)) (here _ 16 [] (sym (t ∙ filling_is)))
        (record { numbers = refl; plane_held = zeros (pos 0) (length plane) plane' s z; mask_held = cleared f })

    -- ---- a body that is taken
    module _ (t : false ≡ bad_filling b e) (s : length after ≡ length plane) {n : ℕ} (c : n ≡ mark_count mask) where
      plane_is : after ≡ plane_of l
      plane_is = is_listed (area (shot_of l)) _ (pos 0) after (s ∙ k.full) found.value

      marks_is : n ≡ marks (shot_of l)
      unfolding mark_count
      marks_is = c ∙ rw (k.mask_is, mask_length)

      done : {x : Option ℕ} → is_whole x ≡ (answer_of l).whole → place_of x ≡ (answer_of l).region_mark → Found (first (filling_test l)) l plane after mask mask (Ok (record { marks = n; region_mark = x; missing = q }))
      done {x} f g = subst (λ (f : ℕ). Found f l plane after mask mask (Ok (record { marks = n; region_mark = x; missing = q }))) (next _ 0 16 [] (sym (t ∙ filling_is)) none)
          (record { numbers = rw (f, g, marks_is, found.missing); plane_held = plane_is; mask_held = k.mask_is })

      pub found_cut : 8 * length b < m → Found (first (filling_test l)) l plane after mask mask (Ok (record { marks = n; region_mark = None; missing = q }))
      found_cut h =
          let w : (answer_of l).whole ≡ false = lt-leb (marked_end l) (8 * length (body_of l)) (stopped_was (received (body_of l)) found.marked (rw (← is) h)) in
          done (sym w) (rw w)

      pub found_whole : {front : ℕ} → front ≡ front_length l → m ≤ 8 * length b → Found (first (filling_test l)) l plane after mask mask (Ok (record { marks = n; region_mark = Some (front + (m + 7) / 8); missing = q }))
      found_whole {front} f h =
          let p : m ≡ marked_end l = stopped_not (received (body_of l)) found.marked (rw (← is) h) in
          let w : (answer_of l).whole ≡ true = le-leb (marked_end l) (8 * length (body_of l)) (rw (← p, ← is) h) in
          done (sym w) (rw (w, f, p))
