-- What brightness is to pictures and regions: a record with a field for each law (docs/FORMAT.md, "Brightness").
--
--   Brightness == the brightness of every region of every picture:
--     division of an accepted call, quotient times number plus remainder is the sum, and the remainder is below the number
--     joined   where two regions have no sample in common and the calls on both are accepted, so is the call on what `join` fills from them: its
--              number is the sum of their numbers, its sum the sum of their sums
--     alike    two pictures with the same samples in the region give the same result numbers, whether the calls are accepted or not
--
-- Assumes nothing: these are definitions. `proofs/Laws.antt` proves Brightness.
use Rattle.std.specs.Prelude.{◌≡◌, ◌≢◌, true, List, ℕ, ◌+◌, ◌*◌, ◌<◌, length, get_or}
use Rattle.refusal.specs.Numbers.{accepted}
use Rattle.joining.specs.Join.{join_byte}
use Rattle.joining.specs.Laws.{filled}
use Rattle.brightness.specs.Brightness.{brightness_tests, Numbers, brightness_numbers}

pub record Brightness : Type 0 where
  pub division : (W H : ℕ) (picture region : List ℕ) → accepted (brightness_tests W H picture region) ≡ true → let r = brightness_numbers W H picture region in
      (r.quotient * r.number + r.remainder ≡ r.sum) × (r.remainder < r.number)
  pub joined : (W H : ℕ) (picture a b : List ℕ) → accepted (brightness_tests W H picture a) ≡ true → accepted (brightness_tests W H picture b) ≡ true
      → ((i : ℕ) → get_or a i 0 ≡ 1 → get_or b i 0 ≢ 1)
      → let of : List ℕ → Numbers = brightness_numbers W H picture in let both = filled W H (join_byte a b) in
      (accepted (brightness_tests W H picture both) ≡ true) × ((of both).number ≡ (of a).number + (of b).number) × ((of both).sum ≡ (of a).sum + (of b).sum)
  pub alike : (W H : ℕ) (picture picture' region : List ℕ) → length picture ≡ length picture'
      → ((i : ℕ) → i < W * H → get_or region i 0 ≡ 1 → get_or picture i 0 ≡ get_or picture' i 0)
      → brightness_numbers W H picture region ≡ brightness_numbers W H picture' region
