-- The worked lines, pictures and masks (docs/FORMAT.md, "Worked examples"): what each starts from, and what is stated of it.
--
--   Example  == a line and its lows and highs, a line's marks and those of its lows and highs, or a picture of rows of W and its plane
--   made e   == what the definitions make of the example
--   stated e == what is stated; a mark is 1 or 0
--   examples == the table
--
-- Assumes nothing: these are definitions.
use Rattle.std.specs.Prelude.{List, [], ◌∷◌, map, ℕ, zero, suc, ◌/◌, ◌%◌, ℤ, pos, neg_ℤ, length, get_or}
use Rattle.kernel.specs.declared.Kernel.{Kernel}
use Rattle.kernel.specs.declared.Kernel.TheVariants.{S, SPlusP, TT, FiveThree}
use Rattle.line.specs.Cells.{Line}
use Rattle.line.specs.Transform.{forward}
use Rattle.line.specs.Mask.{marked, byte_of, mask_line}
use Rattle.grid.specs.Picture.{picture}
use Rattle.plane.specs.Plane.{transformed}

pub data Example : Type 0 where
  line : Kernel → List ℤ → List ℤ → Example
  mask : Kernel → List ℕ → List ℕ → Example
  shot : Kernel → ℕ → ℕ → ℕ → List ℤ → List ℤ → Example

-- the first n cells of a line from its cell i on
abbrev pub cells_from : {A : Type 0} → ℕ → ℕ → Line A → List A
cells_from i zero X = []
cells_from i (suc n) X = X i ∷ cells_from (suc i) n X

unfoldable pub made : Example → List ℤ
made (line k X s) = cells_from 0 (length X) (forward k (length X) (λ i. get_or X i (pos 0)))
made (mask k B s) = map (λ m. pos (byte_of m)) (cells_from 0 (length B) (mask_line k (length B) (λ i. marked (get_or B i 0))))
made (shot k J W H X s) = cells_from 0 (length X) (λ i. transformed k J W H (picture (pos 0) W X) (i / W) (i % W))

unfoldable pub stated : Example → List ℤ
stated (line k X s) = s
stated (mask k B s) = map pos s
stated (shot k J W H X s) = s

abbrev ten_seven_four_four : List ℤ
ten_seven_four_four = pos 10 ∷ pos 7 ∷ pos 4 ∷ pos 4 ∷ []

abbrev twelve : List ℤ
twelve =
    pos 310 ∷ pos 145 ∷ pos 926 ∷ pos 535 ∷ pos 897 ∷ pos 932 ∷ pos 384 ∷ pos 626 ∷ pos 433 ∷ pos 832 ∷ pos 795 ∷ pos 28 ∷ []

abbrev eight_by_four : List ℤ
eight_by_four =
    pos 12 ∷ pos 12 ∷ pos 14 ∷ pos 90 ∷ pos 200 ∷ pos 40 ∷ pos 41 ∷ pos 43
    ∷ pos 12 ∷ pos 13 ∷ pos 20 ∷ pos 120 ∷ pos 220 ∷ pos 60 ∷ pos 44 ∷ pos 40
    ∷ pos 13 ∷ pos 16 ∷ pos 60 ∷ pos 180 ∷ pos 90 ∷ pos 50 ∷ pos 46 ∷ pos 45
    ∷ pos 15 ∷ pos 15 ∷ pos 15 ∷ pos 16 ∷ pos 14 ∷ pos 15 ∷ pos 16 ∷ pos 15 ∷ []

abbrev eight_by_four_plane : List ℤ
eight_by_four_plane =
    neg_ℤ (pos 16) ∷ pos 109 ∷ neg_ℤ (pos 54) ∷ neg_ℤ (pos 127) ∷ pos 3 ∷ neg_ℤ (pos 39) ∷ neg_ℤ (pos 91) ∷ pos 0
    ∷ pos 51 ∷ neg_ℤ (pos 45) ∷ pos 116 ∷ pos 117 ∷ neg_ℤ (pos 13) ∷ pos 68 ∷ neg_ℤ (pos 19) ∷ neg_ℤ (pos 2)
    ∷ pos 4 ∷ neg_ℤ (pos 26) ∷ pos 58 ∷ neg_ℤ (pos 6) ∷ pos 8 ∷ neg_ℤ (pos 44) ∷ neg_ℤ (pos 23) ∷ neg_ℤ (pos 4)
    ∷ pos 12 ∷ neg_ℤ (pos 65) ∷ neg_ℤ (pos 97) ∷ neg_ℤ (pos 25) ∷ pos 20 ∷ neg_ℤ (pos 103) ∷ pos 18 ∷ pos 0 ∷ []

-- lines of odd length: the last sample is unpaired
abbrev ten_seven_forty_nine : List ℤ
ten_seven_forty_nine = pos 10 ∷ pos 7 ∷ pos 49 ∷ []

abbrev five_samples : List ℤ
five_samples = pos 10 ∷ pos 7 ∷ pos 4 ∷ pos 4 ∷ pos 49 ∷ []

abbrev three_by_three : List ℤ
three_by_three = pos 10 ∷ pos 7 ∷ pos 49 ∷ pos 4 ∷ pos 4 ∷ pos 1 ∷ pos 20 ∷ pos 9 ∷ pos 30 ∷ []

-- a bright end, in lines of two and of three lows: the border of kernel 2
abbrev bright_end : List ℤ
bright_end = pos 0 ∷ pos 0 ∷ pos 64 ∷ pos 64 ∷ []

abbrev bright_middle : List ℤ
bright_middle = pos 0 ∷ pos 0 ∷ pos 64 ∷ pos 64 ∷ pos 0 ∷ pos 0 ∷ []

abbrev bright_odd : List ℤ
bright_odd = pos 0 ∷ pos 0 ∷ pos 64 ∷ pos 64 ∷ pos 0 ∷ []

-- of 8 samples only sample 3 marked
abbrev third : List ℕ
third = 0 ∷ 0 ∷ 0 ∷ 1 ∷ 0 ∷ 0 ∷ 0 ∷ 0 ∷ []

-- sample 6, and both
abbrev sixth : List ℕ
sixth = 0 ∷ 0 ∷ 0 ∷ 0 ∷ 0 ∷ 0 ∷ 1 ∷ 0 ∷ []

abbrev third_and_sixth : List ℕ
third_and_sixth = 0 ∷ 0 ∷ 0 ∷ 1 ∷ 0 ∷ 0 ∷ 1 ∷ 0 ∷ []

-- of 7 samples only sample 3 marked, and only the unpaired one
abbrev third_of_seven : List ℕ
third_of_seven = 0 ∷ 0 ∷ 0 ∷ 1 ∷ 0 ∷ 0 ∷ 0 ∷ []

abbrev unpaired : List ℕ
unpaired = 0 ∷ 0 ∷ 0 ∷ 0 ∷ 0 ∷ 0 ∷ 1 ∷ []

unfoldable pub examples : List Example
unfolding ten_seven_four_four twelve eight_by_four eight_by_four_plane third ten_seven_forty_nine five_samples three_by_three bright_end bright_middle bright_odd third_of_seven unpaired
examples =
    line S ten_seven_four_four (pos 8 ∷ pos 4 ∷ pos 3 ∷ pos 0 ∷ [])
    ∷ line SPlusP ten_seven_four_four (pos 8 ∷ pos 4 ∷ pos 2 ∷ neg_ℤ (pos 1) ∷ [])
    ∷ line TT ten_seven_four_four (pos 8 ∷ pos 4 ∷ pos 3 ∷ pos 0 ∷ [])
    ∷ line FiveThree ten_seven_four_four (pos 10 ∷ pos 4 ∷ pos 0 ∷ pos 0 ∷ [])
    ∷ line S (neg_ℤ (pos 3) ∷ pos 0 ∷ []) (neg_ℤ (pos 2) ∷ neg_ℤ (pos 3) ∷ [])
    ∷ line FiveThree (pos 1 ∷ pos 5 ∷ pos 2 ∷ pos 7 ∷ []) (pos 3 ∷ pos 4 ∷ pos 4 ∷ pos 5 ∷ [])
    ∷ line S twelve
    (pos 227 ∷ pos 730 ∷ pos 914 ∷ pos 505 ∷ pos 632 ∷ pos 411
    ∷ pos 165 ∷ pos 391 ∷ neg_ℤ (pos 35) ∷ neg_ℤ (pos 242) ∷ neg_ℤ (pos 399) ∷ pos 767 ∷ [])
    ∷ line SPlusP twelve
    (pos 227 ∷ pos 730 ∷ pos 914 ∷ pos 505 ∷ pos 632 ∷ pos 411
    ∷ pos 291 ∷ pos 563 ∷ neg_ℤ (pos 91) ∷ neg_ℤ (pos 312) ∷ neg_ℤ (pos 422) ∷ pos 712 ∷ [])
    ∷ line TT twelve
    (pos 227 ∷ pos 730 ∷ pos 914 ∷ pos 505 ∷ pos 632 ∷ pos 411
    ∷ pos 330 ∷ pos 615 ∷ neg_ℤ (pos 130) ∷ neg_ℤ (pos 323) ∷ neg_ℤ (pos 407) ∷ pos 686 ∷ [])
    ∷ line FiveThree twelve
    (pos 74 ∷ pos 714 ∷ pos 876 ∷ pos 512 ∷ pos 542 ∷ pos 658
    ∷ neg_ℤ (pos 473) ∷ neg_ℤ (pos 376) ∷ pos 292 ∷ pos 218 ∷ pos 218 ∷ neg_ℤ (pos 767) ∷ [])
    ∷ line S (neg_ℤ (pos 7) ∷ []) (neg_ℤ (pos 7) ∷ [])
    ∷ line SPlusP (neg_ℤ (pos 7) ∷ []) (neg_ℤ (pos 7) ∷ [])
    ∷ line TT (neg_ℤ (pos 7) ∷ []) (neg_ℤ (pos 7) ∷ [])
    ∷ line FiveThree (neg_ℤ (pos 7) ∷ []) (neg_ℤ (pos 7) ∷ [])
    ∷ line S ten_seven_forty_nine (pos 8 ∷ pos 49 ∷ pos 3 ∷ [])
    ∷ line SPlusP ten_seven_forty_nine (pos 8 ∷ pos 49 ∷ pos 14 ∷ [])
    ∷ line TT ten_seven_forty_nine (pos 8 ∷ pos 49 ∷ pos 18 ∷ [])
    ∷ line FiveThree ten_seven_forty_nine (neg_ℤ (pos 1) ∷ pos 38 ∷ neg_ℤ (pos 22) ∷ [])
    ∷ line S five_samples (pos 8 ∷ pos 4 ∷ pos 49 ∷ pos 3 ∷ pos 0 ∷ [])
    ∷ line SPlusP five_samples (pos 8 ∷ pos 4 ∷ pos 49 ∷ pos 2 ∷ pos 11 ∷ [])
    ∷ line TT five_samples (pos 8 ∷ pos 4 ∷ pos 49 ∷ pos 1 ∷ pos 13 ∷ [])
    ∷ line FiveThree five_samples (pos 10 ∷ neg_ℤ (pos 1) ∷ pos 38 ∷ pos 0 ∷ neg_ℤ (pos 22) ∷ [])
    ∷ line TT (pos 10 ∷ pos 7 ∷ []) (pos 8 ∷ pos 4 ∷ [])
    ∷ line SPlusP bright_end (pos 0 ∷ pos 64 ∷ pos 16 ∷ pos 16 ∷ [])
    ∷ line TT bright_end (pos 0 ∷ pos 64 ∷ pos 23 ∷ pos 23 ∷ [])
    ∷ line TT bright_odd (pos 0 ∷ pos 64 ∷ pos 0 ∷ pos 26 ∷ pos 1 ∷ [])
    ∷ line TT bright_middle (pos 0 ∷ pos 64 ∷ pos 0 ∷ pos 26 ∷ pos 1 ∷ neg_ℤ (pos 24) ∷ [])
    ∷ shot S 1 2 2 ten_seven_four_four (pos 6 ∷ pos 1 ∷ pos 4 ∷ pos 3 ∷ [])
    ∷ shot SPlusP 1 2 2 ten_seven_four_four (pos 6 ∷ pos 1 ∷ pos 4 ∷ pos 3 ∷ [])
    ∷ shot TT 1 2 2 ten_seven_four_four (pos 6 ∷ pos 2 ∷ pos 5 ∷ pos 4 ∷ [])
    ∷ shot FiveThree 1 2 2 ten_seven_four_four (pos 7 ∷ neg_ℤ (pos 1) ∷ neg_ℤ (pos 5) ∷ pos 3 ∷ [])
    ∷ shot FiveThree 2 8 4 eight_by_four eight_by_four_plane
    ∷ shot S 2 3 3 three_by_three (pos 18 ∷ neg_ℤ (pos 18) ∷ pos 1 ∷ neg_ℤ (pos 7) ∷ neg_ℤ (pos 3) ∷ pos 11 ∷ pos 4 ∷ pos 48 ∷ pos 3 ∷ [])
    ∷ shot TT 1 3 3 three_by_three (pos 6 ∷ pos 25 ∷ pos 9 ∷ pos 14 ∷ pos 30 ∷ pos 17 ∷ pos 8 ∷ pos 51 ∷ pos 22 ∷ [])
    ∷ shot FiveThree 2 3 3 three_by_three (pos 11 ∷ pos 11 ∷ neg_ℤ (pos 11) ∷ neg_ℤ (pos 2) ∷ neg_ℤ (pos 29) ∷ neg_ℤ (pos 5) ∷ pos 0 ∷ neg_ℤ (pos 28) ∷ pos 21 ∷ [])
    ∷ mask S third (0 ∷ 1 ∷ 0 ∷ 0 ∷ 0 ∷ 1 ∷ 0 ∷ 0 ∷ [])
    ∷ mask SPlusP third (1 ∷ 1 ∷ 1 ∷ 0 ∷ 0 ∷ 1 ∷ 0 ∷ 0 ∷ [])
    ∷ mask TT third (1 ∷ 1 ∷ 1 ∷ 1 ∷ 0 ∷ 1 ∷ 0 ∷ 0 ∷ [])
    ∷ mask FiveThree third (0 ∷ 1 ∷ 1 ∷ 0 ∷ 1 ∷ 1 ∷ 1 ∷ 0 ∷ [])
    ∷ mask S sixth (0 ∷ 0 ∷ 0 ∷ 1 ∷ 0 ∷ 0 ∷ 0 ∷ 1 ∷ [])
    ∷ mask SPlusP sixth (0 ∷ 0 ∷ 1 ∷ 1 ∷ 0 ∷ 0 ∷ 0 ∷ 1 ∷ [])
    ∷ mask TT sixth (0 ∷ 1 ∷ 1 ∷ 1 ∷ 0 ∷ 0 ∷ 0 ∷ 1 ∷ [])
    ∷ mask FiveThree sixth (0 ∷ 0 ∷ 0 ∷ 1 ∷ 0 ∷ 0 ∷ 1 ∷ 1 ∷ [])
    ∷ mask S third_and_sixth (0 ∷ 1 ∷ 0 ∷ 1 ∷ 0 ∷ 1 ∷ 0 ∷ 1 ∷ [])
    ∷ mask SPlusP third_and_sixth (1 ∷ 1 ∷ 1 ∷ 1 ∷ 0 ∷ 1 ∷ 0 ∷ 1 ∷ [])
    ∷ mask TT third_and_sixth (1 ∷ 1 ∷ 1 ∷ 1 ∷ 0 ∷ 1 ∷ 0 ∷ 1 ∷ [])
    ∷ mask FiveThree third_and_sixth (0 ∷ 1 ∷ 1 ∷ 1 ∷ 1 ∷ 1 ∷ 1 ∷ 1 ∷ [])
    ∷ mask S third_of_seven (0 ∷ 1 ∷ 0 ∷ 0 ∷ 0 ∷ 1 ∷ 0 ∷ [])
    ∷ mask SPlusP third_of_seven (1 ∷ 1 ∷ 1 ∷ 0 ∷ 0 ∷ 1 ∷ 0 ∷ [])
    ∷ mask TT third_of_seven (1 ∷ 1 ∷ 1 ∷ 1 ∷ 0 ∷ 1 ∷ 0 ∷ [])
    ∷ mask FiveThree third_of_seven (0 ∷ 1 ∷ 1 ∷ 0 ∷ 1 ∷ 1 ∷ 1 ∷ [])
    ∷ mask S unpaired (0 ∷ 0 ∷ 0 ∷ 1 ∷ 0 ∷ 0 ∷ 0 ∷ [])
    ∷ mask SPlusP unpaired (0 ∷ 0 ∷ 0 ∷ 1 ∷ 0 ∷ 0 ∷ 0 ∷ [])
    ∷ mask TT unpaired (0 ∷ 0 ∷ 0 ∷ 1 ∷ 0 ∷ 0 ∷ 0 ∷ [])
    ∷ mask FiveThree unpaired (0 ∷ 0 ∷ 0 ∷ 1 ∷ 0 ∷ 0 ∷ 1 ∷ [])
    ∷ []
