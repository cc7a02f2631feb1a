-- A codestream cut to a length, and what a call that broke off has left of one (docs/FORMAT.md, "Cutting", "A call that breaks off" and "Calls").
--
--   cut_to l c        == the stream l cut to c bytes: its first c bytes with c − 4 in the length field
--   sent_length l     == the length that was sent, by the length field
--   bad_arrival l     == 12: fewer than 14 bytes, or than 14 + 8k, or more than were sent
--   arrival_tests l   == the refusals of the call: 12
--   broken_off l      == the header is whole, and fewer bytes are there than were sent
--   arrived_of l      == the stream cut to what arrived, where the call broke off; else what it was
--   Numbers           == the call's result numbers: refusal, length that was sent
--   arrival_numbers l == the result numbers of the call
--
-- Assumes nothing: these are definitions.
use Rattle.std.specs.Prelude.{Bool, ◌&&◌, ◌||◌, List, [], ◌∷◌, ◌++◌, ℕ, ◌+◌, ◌-◌, ltb, length, take, drop}
use Rattle.line.specs.Cells.{choose}
use Rattle.refusal.specs.Numbers.{Test, test, first, accepted}
use Rattle.header.specs.Header.{number, bad_front}
use Rattle.header.specs.Fields.{bytes_of}

abbrev pub cut_to : List ℕ → ℕ → List ℕ
cut_to l c = bytes_of 4 (c - 4) ++ drop 4 (take c l)

abbrev pub sent_length : List ℕ → ℕ
sent_length l = number 4 l 0 + 4

abbrev pub bad_arrival : List ℕ → Bool
bad_arrival l = bad_front l || ltb (sent_length l) (length l)

abbrev pub arrival_tests : List ℕ → List Test
arrival_tests l = test (bad_arrival l) 12 ∷ []

abbrev pub broken_off : List ℕ → Bool
broken_off l = accepted (arrival_tests l) && ltb (length l) (sent_length l)

abbrev pub arrived_of : List ℕ → List ℕ
arrived_of l = choose (broken_off l) (cut_to l (length l)) l

pub record Numbers : Type 0 where
  pub refusal : ℕ
  pub sent : ℕ

abbrev pub arrival_numbers : List ℕ → Numbers
arrival_numbers l = record { refusal = first (arrival_tests l); sent = choose (accepted (arrival_tests l)) (sent_length l) 0 }
