-- The body of a written stream gives its plane back.
--
--   bits_up_to s l n == the bits of a body of n coefficients
--   body_answer s b  == what the reader finds in the bytes b of the body of the shot s
--
-- Assumes nothing.
use mathlib.Core.Path.{◌≡◌, sym, subst}
use mathlib.Core.Bool.{false}
use mathlib.Core.List.{List, ◌++◌}
use Prim.Native.Nat.{ℕ, ◌*◌, ◌≤◌}
use native.Mathlib.Omega.{arith}
use lib.IntN.{ℤ, pos}
use lib.ListN.{length}
use Rattle.line.specs.Cells.{cell, listed}
use Rattle.line.proofs.Lists.{listed_cell, is_listed}
use Rattle.bitplane.specs.Bits.{byte_at, bytes}
use Rattle.bitplane.specs.Body.{body}
use Rattle.bitplane.specs.Reader.{received, Answer, answer, bad_filling}
use Rattle.bitplane.proofs.Back.{Whole}
use Rattle.bitplane.proofs.Bytes.{Holds, binary_append, body_binary}
use Rattle.bitplane.proofs.Filling.{good_filling}
use Rattle.bitplane.proofs.Round.{bytes_back, bytes_end}
use Rattle.header.specs.Fields.{Shot}
use Rattle.shot.specs.Shots.{shot_mask}
use Rattle.codestream.specs.Stream.{area, front, marked_passes, unmarked_passes, marked_part, body_bits, packed}
use Rattle.codestream.proofs.Accepted.{Writable, each_small}
use Rattle.codestream.proofs.Lengths.{shot_mask_length, shot_mask_binary}
use Rattle.codestream.proofs.Parts.{packed-length}

abbrev bits_up_to : Shot → List ℤ → ℕ → List ℕ
bits_up_to s l n = body (marked_passes s) (cell l) n ++ body (unmarked_passes s) (cell l) n

abbrev pub body_answer : Shot → List ℕ → Answer
body_answer s b = answer (front s) (received b) (area s) (marked_passes s) (unmarked_passes s)

-- ---- bits and the bytes that hold them
packed_holds : (l : List ℕ) → Holds l (packed l)
packed_holds l j h = listed_cell {A = ℕ} (bytes (length l)) (byte_at l) 0 j h

packed_room : (l : List ℕ) → length l ≤ 8 * length (packed l)
packed_room l = omega (arith, packed-length l)

pub filled : (s : Shot) (l : List ℤ) → bad_filling (packed (body_bits s l)) (length (body_bits s l)) ≡ false
filled s l =
    good_filling (body_bits s l) (packed (body_bits s l))
    (binary_append (marked_part s l) (body (unmarked_passes s) (cell l) (area s)) (body_binary (marked_passes s) (cell l) (area s)) (body_binary (unmarked_passes s) (cell l) (area s)))
    (packed_holds (body_bits s l))
    (packed-length (body_bits s l))

module _ {s : Shot} {l : List ℤ} (w : Writable s l) where
  pub body_whole : Whole (body_answer s (packed (body_bits s l))) (front s) (area s) (cell l) (marked_part s l)
  body_whole =
      let b = bits_up_to s l (length (shot_mask s)) in
      subst
      (λ n. Whole (answer (front s) (received (packed (bits_up_to s l n))) n (marked_passes s) (unmarked_passes s)) (front s) n (cell l) (body (marked_passes s) (cell l) n))
      (shot_mask_length s)
      (bytes_back (shot_mask s) (shot_mask_binary s) s.planes (cell l) (each_small w) (packed b) (packed_holds b) (packed_room b) (front s))

  pub body_ends : (body_answer s (packed (body_bits s l))).end ≡ length (body_bits s l)
  body_ends =
      let b = bits_up_to s l (length (shot_mask s)) in
      subst
      (λ n. (answer (front s) (received (packed (bits_up_to s l n))) n (marked_passes s) (unmarked_passes s)).end ≡ length (bits_up_to s l n))
      (shot_mask_length s)
      (bytes_end (shot_mask s) (shot_mask_binary s) s.planes (cell l) (each_small w) (packed b) (packed_holds b) (packed_room b) (front s))

  pub body_plane : listed (area s) (body_answer s (packed (body_bits s l))).value ≡ l
  body_plane = sym (is_listed (area s) (body_answer s (packed (body_bits s l))).value (pos 0) l w.full (λ i h. sym (body_whole.value i h)))
