-- The parts of the writer: what only inner contracts and proofs cite.
--
--   Masked s l m big signs == what is known of a call once the mask m is drawn
--   Answered f ..          == the answer r, and what the buffers then hold, where f is the number of the first test that holds, 0 if none does
--
-- Assumes nothing: these are definitions.
use Rattle.std.specs.Prelude.{◌≡◌, true, false, List, ℕ, ℤ, length, Result}
use Rattle.refusal.specs.Numbers.{accepted}
use Rattle.refusal.specs.Tests.{bad_magnitude}
use Rattle.scan.specs.Inner.{sign_count}
use Rattle.scan.specs.Scan.{largest, plane_count}
use Rattle.header.specs.Fields.{Shot}
use Rattle.shot.specs.Shots.{shot_mask, setting_tests, rectangle_tests}
use Rattle.codestream.specs.Stream.{area}
use Rattle.codestream.specs.Writing.{numbers_under, mask_under, stream_under}
use Rattle.refusal.specs.declared.Refusal.{Refusal}
use Rattle.encoder.specs.declared.Lengths.{Lengths}
use Rattle.encoder.specs.Answers.{numbers_of}

pub record Masked (s : Shot) (l : List ℤ) (m : List ℕ) (big signs : ℕ) : Type 0 where
  pub setting : accepted (setting_tests s.kernel s.levels s.depth s.width s.height) ≡ true
  pub drawing : accepted (rectangle_tests s.width s.height s.rectangles) ≡ true
  pub full : length l ≡ area s
  pub magnitude : bad_magnitude l ≡ false
  pub planes : s.planes ≡ plane_count l
  pub largest_is : big ≡ largest l
  pub signs_are : signs ≡ sign_count l
  pub mask : m ≡ shot_mask s

pub record Answered (f : ℕ) (s : Shot) (l : List ℤ) (mask mask' out out' : List ℕ) (r : Result Lengths Refusal) : Type 0 where
  pub numbers : numbers_of r ≡ numbers_under f s l
  pub mask_held : mask' ≡ mask_under f s mask
  pub stream_held : out' ≡ stream_under f s l out
