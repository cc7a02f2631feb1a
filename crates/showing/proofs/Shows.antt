-- From what was read to what is shown. Assumes nothing.
use mathlib.Core.Path.{◌≡◌, refl, sym, ap, subst, ◌∙◌}
use mathlib.Core.Bool.{true, false}
use mathlib.Core.List.{List}
use Prim.Native.Nat.{ℕ, ◌-◌, ◌^◌, ◌≤◌}
use lib.Dec.{eqb}
use lib.IntN.{ℤ, pos}
use lib.ListN.{length}
use Rattle.kernel.specs.declared.Kernel.{Kernel}
use Rattle.grid.specs.Picture.{side}
use Rattle.plane.specs.Inner.{Below}
use Rattle.refusal.specs.Numbers.{first}
use Rattle.refusal.specs.Tests.{bad_magnitude}
use Rattle.refusal.specs.Results.{Result}
use Rattle.refusal.specs.declared.Refusal.{Refusal}
use Rattle.refusal.proofs.Named.{named}
use Rattle.refusal.proofs.Ordered.{here, next}
use Rattle.wavelet.specs.Wavelet.{coefficients_of}
use Rattle.samples.specs.Samples.{in_range}
use Rattle.level_picture.specs.Level.{bad_area}
use Rattle.level_picture.specs.Inner.{level_at, Lent}
use Rattle.level_picture.proofs.Areas.{good_area, area_below}
use Rattle.header.specs.Fields.{shot_of}
use Rattle.codestream.specs.Stream.{area}
use Rattle.codestream.specs.Reading.{plane_of, buffer_tests, numbers_under, shot_under, held_under}
use Rattle.codestream.specs.Reading as reading
use Rattle.codestream.proofs.Planes.{plane_accepted}
use Rattle.header_reader.specs.declared.Header.{Header}
use Rattle.decoder.specs.Answers.{numbers_of}
use Rattle.decoder.specs.Inner.{Taken, Answered}
use Rattle.std.specs.Prelude.{Ok, Err, Result as Answer}
use Rattle.decoder.specs.declared.Reading.{Reading}
use Rattle.decoder.proofs.Tests.{passed, passed_first}
use Rattle.decoder.proofs.Answered.{sides}
use Rattle.exactness.specs.Shown.{level_number_at, level_sample_at, area_tests}
use Rattle.showing.specs.Inner.{LevelShown}

-- ---- a header that was taken
module _ {l : List ℕ} {k : Kernel} {h : Header} (t : Taken l k h) where
  pub few : h.levels ≤ 5
  few = rw t.header (passed l t.tests).setting.levels.1

  depth_most : h.depth ≤ 10
  depth_most = rw t.header (passed l t.tests).setting.depth.1

  -- the area's test, by the header's numbers
  module _ (r n m u s : ℕ) where
    area_is : bad_area r h.width h.height u s ≡ bad_area r (shot_of l).width (shot_of l).height u s
    area_is = ap (λ (h : Header). bad_area r h.width h.height u s) t.header

    pub other_area : bad_area r h.width h.height u s ≡ true → 5 ≡ first (area_tests l r n m u s)
    other_area e = here _ 5 _ (sym area_is ∙ e)

    pub good_first : bad_area r h.width h.height u s ≡ false → first (buffer_tests l n m) ≡ first (area_tests l r n m u s)
    good_first e = next _ _ 5 _ (sym area_is ∙ e) refl

  -- a body that was read: its plane can be undone
  module _ (n m r u s : ℕ) (full : first (buffer_tests l n m) ≡ 0) (level : r ≤ h.levels) (good : bad_area r h.width h.height u s ≡ false) {plane : List ℤ} (is : plane ≡ plane_of l) where
    small : (bad_magnitude (plane_of l) ≡ false) × (length (plane_of l) ≡ area (shot_of l))
    small = plane_accepted l n m (ap (λ (f : ℕ). eqb f 0) (sym (passed_first l n m t.tests) ∙ full))

    pub lent : Lent h.levels r h.depth h.width h.height (length plane) u s
    lent = let a = good_area r h.width h.height u s good in let z = sides l t in record {
      few = few;
      level = level;
      depth = depth_most;
      some_w = z.width.0;
      some_h = z.height.0;
      w_most = z.width.1;
      h_most = z.height.1;
      plane = ap length is ∙ small.1 ∙ rw t.header refl;
      undone = a.0;
      shown = a.1;
    }

    pub below : Below (2 ^ 22 - 1) (side r h.width) (side r h.height) (coefficients_of h.width plane)
    below = rw (is, t.header) (area_below r (shot_of l).width (shot_of l).height (plane_of l) small.1 small.0)

  module _ (r : ℕ) {plane : List ℤ} (is : plane ≡ plane_of l) where
    pub numbers_at : {u u' : List ℤ} → Result (pos 0) true (level_at k h.levels r h.width h.height plane) u u' → Result (pos 0) true (level_number_at r l) u u'
    numbers_at p = rw (is, t.kernel, t.header) at p

    pub samples_at : {s s' : List ℕ} → Result 0 true (λ i. in_range h.depth (level_at k h.levels r h.width h.height plane i)) s s' → Result 0 true (level_sample_at r l) s s'
    samples_at p = rw (is, t.kernel, t.header) at p

-- ---- the answer of the reader tells which test held
module _ {f : ℕ} {l : List ℕ} {plane plane' : List ℤ} {mask mask' : List ℕ} {a : Answer Reading Refusal} (x : Answered f l plane plane' mask mask' a) where
  pub done_first : (b : Reading) → a ≡ Ok b → f ≡ 0
  done_first b e = sym (ap (λ (v : reading.Numbers). v.refusal) x.numbers) ∙ ap (λ (o : Answer Reading Refusal). (numbers_of o).refusal) e

  pub refused_first : (r : Refusal) → a ≡ Err r → eqb f 0 ≡ false
  refused_first r e = ap (λ (n : ℕ). eqb n 0) (sym (ap (λ (v : reading.Numbers). v.refusal) x.numbers) ∙ ap (λ (o : Answer Reading Refusal). (numbers_of o).refusal) e) ∙ named r

  pub plane_is : f ≡ 0 → plane' ≡ plane_of l
  plane_is e = x.plane_held ∙ rw e

  -- ---- the whole answer
  module _ {r : ℕ} {undone : List ℤ} {shown : List ℕ} where
    pub shown_refused : eqb f 0 ≡ false → LevelShown f r l plane plane' mask mask' undone undone shown shown a
    shown_refused e = record { answered = x; numbers = record { size = refl; cell = λ i h. rw e }; samples = record { size = refl; cell = λ i h. rw e } }

    pub shown_done : f ≡ 0 → {undone' : List ℤ} {shown' : List ℕ} → Result (pos 0) true (level_number_at r l) undone undone' → Result 0 true (level_sample_at r l) shown shown'
        → LevelShown f r l plane plane' mask mask' undone undone' shown shown' a
    shown_done e p q = record { answered = x; numbers = rw e p; samples = rw e q }

-- another test of the same number
pub shown_as : {f g r : ℕ} {l : List ℕ} {plane plane' : List ℤ} {mask mask' : List ℕ} {undone undone' : List ℤ} {shown shown' : List ℕ} {a : Answer Reading Refusal} → f ≡ g
    → LevelShown f r l plane plane' mask mask' undone undone' shown shown' a → LevelShown g r l plane plane' mask mask' undone undone' shown shown' a
shown_as {f} {g} {r} {l} {plane} {plane'} {mask} {mask'} {undone} {undone'} {shown} {shown'} {a} e x =
    subst (λ (f : ℕ). LevelShown f r l plane plane' mask mask' undone undone' shown shown' a) e x
