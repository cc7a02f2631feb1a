-- The parts of a written stream, as its reader finds them.
--
--   Parts x s l == the reader finds in x the header of s and the body of the plane l
--
-- Assumes nothing.
use mathlib.Core.Path.{◌≡◌, refl, sym, ap, ◌∙◌}
use mathlib.Core.Bool.{true, false, not}
use mathlib.Core.List.{List}
use Prim.Native.Nat.{ℕ, ◌+◌}
use native.Mathlib.Omega.{arith}
use borrow.Author.Tests.{eq-eqb}
use lib.IntN.{ℤ}
use lib.ListN.{length, length-append}
use lib.Seq.{drop_at}
use Rattle.line.proofs.Lists.{listed-length}
use Rattle.bitplane.specs.Bits.{byte_at, bytes}
use Rattle.refusal.specs.Numbers.{first, accepted}
use Rattle.header.specs.Header.{number, front_length, bad_header, bad_version, body_tests, body_of}
use Rattle.header.specs.Fields.{Shot, header, shot_of}
use Rattle.header.proofs.Fields.{length_back, version_back, header-length, shot_back}
use Rattle.header.proofs.Parts.{else_length}
use Rattle.header.proofs.Writing.{header_size}
use Rattle.codestream.specs.Stream.{front, body_bits, packed, total_length, stream}
use Rattle.codestream.proofs.Accepted.{Writable}
use Rattle.codestream.proofs.Headers.{held}

pub packed-length : (l : List ℕ) → length (packed l) ≡ bytes (length l)
packed-length l = listed-length (bytes (length l)) (byte_at l)

pub stream-length : (s : Shot) (l : List ℤ) → length (stream s l) ≡ total_length s l
stream-length s l =
    let h = header s (total_length s l) in
    length-append h (packed (body_bits s l)) ∙ omega (arith, header_size s (total_length s l), packed-length (body_bits s l))

pub record Parts (x : List ℕ) (s : Shot) (l : List ℤ) : Type 0 where
  pub tests : accepted (body_tests x) ≡ true
  pub front : front_length x ≡ front s
  pub shot : shot_of x ≡ s
  pub body : body_of x ≡ packed (body_bits s l)

module _ {s : Shot} {l : List ℤ} (w : Writable s l) where
  shot_read : shot_of (stream s l) ≡ s
  shot_read = shot_back s (total_length s l) (held w) (packed (body_bits s l))

  front_read : front_length (stream s l) ≡ front s
  front_read = sym (header-length s (total_length s l) (held w) (packed (body_bits s l))) ∙ header_size s (total_length s l)

  good_header : bad_header (stream s l) ≡ false
  good_header =
      let e = length_back s (total_length s l) (held w) (packed (body_bits s l)) in
      let n = stream-length s l in
      else_length (stream s l) (omega arith) (omega (arith, front_read))
      ∙ ap not (eq-eqb (number 4 (stream s l) 0 + 4) (length (stream s l)) (omega arith))

  good_version : bad_version (stream s l) ≡ false
  good_version = ap not (eq-eqb (number 1 (stream s l) 4) 1 (version_back s (total_length s l) (held w) (packed (body_bits s l))))

  good_front : accepted (body_tests (stream s l)) ≡ true
  unfolding first
  good_front = rw (good_header, good_version) refl

  body_read : body_of (stream s l) ≡ packed (body_bits s l)
  unfolding first
  body_read = rw (good_header, good_version) (drop_at (header s (total_length s l)) (packed (body_bits s l)) (front_length (stream s l)) (header-length s (total_length s l) (held w) (packed (body_bits s l))))

  pub stream_parts : Parts (stream s l) s l
  stream_parts = record { tests = good_front; front = front_read; shot = shot_read; body = body_read }
