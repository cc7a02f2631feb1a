-- The parts of the cutter: what only inner contracts and proofs cite.
--
--   Read l whole mark == the stream l was accepted by the reader, with these numbers
--   Answered f ..     == the answer r, and what the stream buffer then holds, where f is the number of the first test that holds, 0 if none does
--
-- Assumes nothing: these are definitions.
use Rattle.std.specs.Prelude.{◌≡◌, Bool, false, List, ℕ, Result}
use Rattle.refusal.specs.declared.Refusal.{Refusal}
use Rattle.header.specs.Header.{bad_header}
use Rattle.codestream.specs.Reading.{answer_of}
use Rattle.codestream.specs.Cutting.{numbers_under, stream_under}
use Rattle.cutter.specs.Answers.{numbers_of}

pub record Read (l : List ℕ) (whole : Bool) (mark : ℕ) : Type 0 where
  pub header : bad_header l ≡ false
  pub whole_is : whole ≡ (answer_of l).whole
  pub mark_is : mark ≡ (answer_of l).region_mark

pub record Answered (f : ℕ) (l : List ℕ) (c : ℕ) (out out' : List ℕ) (r : Result ℕ Refusal) : Type 0 where
  pub numbers : numbers_of r ≡ numbers_under f c
  pub held : out' ≡ stream_under f l c out
