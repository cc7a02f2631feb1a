-- The brightness of a region of a picture (docs/FORMAT.md, "Brightness" and "Calls").
--
--   has region i                    == the region has the sample at place i: its byte there is 1
--   number region                   == how many samples the region has
--   region_sample picture region i  == the sample at place i where the region has it, else 0
--   sum picture region              == the sum of the samples that the region has
--   no_sample region                == 19: a region without a sample
--   brightness_tests W H p region   == the refusals of the call on a picture p, in order: 4, 5, 9, 19
--   Numbers                         == the call's result numbers: refusal, number, sum, quotient, remainder
--   measured p region               == those of an accepted call
--   refused_with n                  == those under refusal n: the others are 0
--   brightness_numbers W H p region == the result numbers of the call
--
-- Assumes nothing: these are definitions.
use Rattle.std.specs.Prelude.{Bool, List, [], ◌∷◌, ℕ, ◌/◌, ◌%◌, eqb, length, get_or}
use Rattle.line.specs.Cells.{Line, choose, total, count}
use Rattle.line.specs.Mask.{marked}
use Rattle.refusal.specs.Numbers.{Test, test, first, accepted}
use Rattle.refusal.specs.Tests.{bad_size, bad_length, bad_mark}

abbrev pub has : List ℕ → Line Bool
has region i = marked (get_or region i 0)

abbrev pub number : List ℕ → ℕ
number region = count (length region) (has region)

abbrev pub region_sample : List ℕ → List ℕ → Line ℕ
region_sample picture region i = choose (has region i) (get_or picture i 0) 0

abbrev pub sum : List ℕ → List ℕ → ℕ
sum picture region = total (length region) (region_sample picture region)

abbrev pub no_sample : List ℕ → Bool
no_sample region = eqb (number region) 0

abbrev pub brightness_tests : ℕ → ℕ → List ℕ → List ℕ → List Test
brightness_tests W H picture region =
    test (bad_size W H) 4 ∷ test (bad_length W H (length picture)) 5 ∷ test (bad_length W H (length region)) 5 ∷ test (bad_mark region) 9 ∷ test (no_sample region) 19 ∷ []

pub record Numbers : Type 0 where
  pub refusal : ℕ
  pub number : ℕ
  pub sum : ℕ
  pub quotient : ℕ
  pub remainder : ℕ

abbrev pub measured : List ℕ → List ℕ → Numbers
measured picture region = let n = number region in let s = sum picture region in
    record { refusal = 0; number = n; sum = s; quotient = s / n; remainder = s % n }

abbrev pub refused_with : ℕ → Numbers
refused_with n = record { refusal = n; number = 0; sum = 0; quotient = 0; remainder = 0 }

unfoldable pub brightness_numbers : ℕ → ℕ → List ℕ → List ℕ → Numbers
brightness_numbers W H picture region = let ts = brightness_tests W H picture region in choose (accepted ts) (measured picture region) (refused_with (first ts))
