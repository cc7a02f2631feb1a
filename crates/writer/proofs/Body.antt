-- The two parts of a body, one behind the other. Assumes nothing.
use mathlib.Core.Path.{◌≡◌, refl, ◌∙◌}
use mathlib.Core.List.{List, [], ◌++◌}
use Prim.Native.Nat.{ℕ, ◌+◌, ◌<◌}
use native.Mathlib.Omega.{arith}
use lib.IntN.{ℤ}
use lib.ListN.{length, get_or, length-append}
use Rattle.line.specs.Cells.{cell, count}
use Rattle.bitplane.specs.Body.{class}
use Rattle.bitplane.proofs.Empty.{body_none, count_none, classes_count}
use Rattle.bitplane.proofs.Bytes.{bits_hold}
use Rattle.writer.specs.Written.{Written, Room, Sends, PassReady, part, BodyReady, BodyWritten}
use Rattle.writer.proofs.Bits.{written_none}
use Rattle.writer.proofs.Passes.{sends_none, sends_both}

-- a class that has no member has no bits
pub class_none : {o : List ℕ} (mask : List ℕ) (top : ℕ) (plane : List ℤ) (c p : ℕ) → length mask ≡ length plane → count (length mask) (class mask c) ≡ 0 → Sends (part mask top plane c) p o o p
class_none mask top plane c p e z = rw (body_none (cell plane) (class mask c) top (length plane) (count_none (length plane) (class mask c) (rw e at z))) (sends_none p)

module _ {mask : List ℕ} {top : ℕ} {plane : List ℤ} {marks : ℕ} {out : List ℕ} (b : BodyReady mask top plane marks out) where
  abbrev marked : List ℕ
  marked = part mask top plane 1

  abbrev unmarked : List ℕ
  unmarked = part mask top plane 0

  pub class_ready : (c : ℕ) → c < 2 → PassReady mask plane c
  class_ready c h = record { over = b.over; size = b.size; known = h }

  -- the coefficients that are not marked
  pub others : marks + count (length mask) (class mask 0) ≡ length plane
  others = omega (arith, classes_count mask b.binary (length mask) (omega arith), b.counted, b.over)

  pub marked_room : Room marked 0 out
  marked_room = let r = b.room in record { fits = omega (arith, r.fits, length-append marked unmarked); small = r.small }

  pub unmarked_room : {m : List ℕ} {p : ℕ} → Sends marked 0 out m p → length m ≡ length out → Room unmarked p m
  unmarked_room s e = let r = b.room in record { fits = omega (arith, r.fits, s.at, length-append marked unmarked); small = omega (arith, r.small) }

-- the bits of both parts in the buffer, byte by byte
pub body_written : {marked unmarked o m n : List ℕ} {p q : ℕ} → Sends marked 0 o m p → Sends unmarked p m n q → ((j : ℕ) → get_or n j 0 < 256) → BodyWritten marked unmarked o n p
body_written {marked} {unmarked} {o} {n = n} s t small =
    let w : Written (marked ++ unmarked) o n = (sends_both s t).bits [] o refl (written_none o) in
    record {
      len = w.len;
      held = bits_hold (marked ++ unmarked) n small w.bit;
      rest = w.rest;
      at = s.at ∙ omega arith;
    }
