-- A stream in its buffer: the header in front, the body behind it, and what the buffer held past them. Assumes nothing.
use mathlib.Core.Path.{◌≡◌, refl, sym, ap, ap₂, ◌∙◌}
use mathlib.Core.List.{List, ◌++◌, append_assoc}
use Prim.Native.Nat.{ℕ, ◌+◌, ◌*◌, ◌-◌, ◌/◌, ◌≤◌}
use native.Mathlib.Omega.{arith}
use native.Mathlib.Nat.{mul-le-mul}
use lib.Dec.{ltb}
use lib.IntN.{ℤ, nat_abs}
use lib.ListN.{length, take, drop, length-append, length-drop}
use lib.Seq.{ext_get_or, length-take-le, get_or-take, get_or-drop}
use borrow.Rule.Slice.PartMut.{mid_of, put_mid, Post-is, mid_len}
use Rattle.line.specs.Cells.{cell}
use Rattle.line.proofs.Counts.{count-le}
use Rattle.line.proofs.Lists.{is_listed}
use Rattle.bitplane.specs.Bits.{byte_at, bytes}
use Rattle.bitplane.specs.Body.{class, planes, body}
use Rattle.scan.specs.Inner.{sign_count, mark_count}
use Rattle.scan.specs.Scan.{digits}
use Rattle.header.specs.Fields.{Shot, header}
use Rattle.header.specs.Writing.{Fit, Headed}
use Rattle.header.proofs.Writing.{header_size}
use Rattle.writer.specs.Written.{part, BodyReady, BodyWritten}
use Rattle.shot.specs.Shots.{shot_mask, marks}
use Rattle.codestream.specs.Stream.{area, front, unmarked_passes, marked_part, body_bits, packed, total_length, stream}
use Rattle.codestream.proofs.Accepted.{Writable, rectangles_of, planes_most}
use Rattle.codestream.proofs.Lengths.{shot_mask_length, shot_mask_binary, body_length, small_area, total_most}
use Rattle.codestream.proofs.Headers.{held}
use Rattle.encoder.specs.Inner.{Masked}

-- ---- the buffer
header_in : (s : Shot) (total : ℕ) (out x : List ℕ) → Headed s total out x → front s ≤ length out → take (front s) x ≡ header s total
header_in s total out x h room =
    let n : length (take (front s) x) ≡ front s = length-take-le (front s) x (omega (arith, h.len)) in
    ext_get_or 0 (take (front s) x) (header s total) (n ∙ sym (header_size s total))
    (λ i b. get_or-take (front s) x i 0 (omega arith) ∙ h.front i (omega arith))

rest_kept : (s : Shot) (total : ℕ) (out x : List ℕ) → Headed s total out x → front s ≤ total → drop total x ≡ drop total out
rest_kept s total out x h room =
    ext_get_or 0 (drop total x) (drop total out) (length-drop total x ∙ omega (arith, h.len, length-drop total out))
    (λ i b. get_or-drop total x i 0 ∙ h.rest (total + i) (omega arith) ∙ sym (get_or-drop total out i 0))

-- T planes were found, and the mask m has so many marks
module _ {s : Shot} {l : List ℤ} {m : List ℕ} {big signs T many : ℕ} (k : Masked s l m big signs) (found : T ≡ digits big) (counted : many ≡ mark_count m) where
  writable : Writable s l
  writable = record { setting = k.setting; drawing = k.drawing; full = k.full; magnitude = k.magnitude; planes = k.planes }

  planes_found : T ≡ s.planes
  planes_found = found ∙ ap digits k.largest_is ∙ sym k.planes

  pub bits_most : T * length l + signs ≤ 23 * 16777216
  unfolding sign_count
  bits_most =
      let b : T * length l ≤ 22 * 16777216 = rw (planes_found, k.full) (mul-le-mul (planes_most writable) (small_area writable)) in
      omega (arith, k.signs_are, k.full, small_area writable, count-le (length l) (λ i. ltb 0 (nat_abs (cell l i))))

  pub total_found : front s + (T * length l + signs + 7) / 8 ≡ total_length s l
  total_found = rw (planes_found, k.full, k.signs_are, body_length writable) refl

  pub marks_found : many ≡ marks s
  unfolding mark_count
  marks_found = counted ∙ rw (k.mask, shot_mask_length s) refl

  part_is : (c : ℕ) → part m T l c ≡ body (planes (class (shot_mask s) c) s.planes) (cell l) (area s)
  part_is c = rw (k.mask, planes_found, k.full) refl

  pub fit : (out : List ℕ) (total : ℕ) → total ≡ total_length s l → total ≤ length out → Fit (record { kernel = s.kernel; levels = s.levels; depth = s.depth; width = s.width; height = s.height; planes = T; rectangles = s.rectangles }) total out
  fit out total e room =
      let h = held writable in
      record {
        room = omega arith;
        long = omega arith;
        all = omega (arith, h.all);
        kernel = h.kernel;
        levels = h.levels;
        depth = h.depth;
        width = h.width;
        height = h.height;
        planes = omega (arith, planes_found, h.planes);
        few = omega (arith, h.fours, (rectangles_of writable).few);
        each = λ i b. h.rectangle i;
      }

  -- the part of the buffer x behind the header
  room_length : (x : List ℕ) (total : ℕ) → total ≡ total_length s l → total ≤ length x → length (mid_of (front s) (total - front s) x) ≡ bytes (length (body_bits s l))
  room_length x total e room = mid_len (front s) total x room ∙ omega arith

  pub body_ready : (x : List ℕ) (total : ℕ) → total ≡ total_length s l → total ≤ length x → BodyReady m T l many (mid_of (front s) (total - front s) x)
  unfolding mark_count
  body_ready x total e room =
      let n = room_length x total e room in
      record {
        few = omega (arith, planes_found, planes_most writable);
        over = ap length k.mask ∙ shot_mask_length s ∙ sym k.full;
        counted = counted;
        size = omega (arith, k.full, small_area writable);
        binary = rw k.mask (shot_mask_binary s);
        room = rw (part_is 1, part_is 0) (record { fits = omega arith; small = omega (arith, total_most writable) });
      }

  pub marked_most : length (part m T l 1) ≤ 23 * 16777216
  marked_most = rw (part_is 1) (omega (arith, bits_most, body_length writable, ap length (part_is 1), length-append (marked_part s l) (body (unmarked_passes s) (cell l) (area s)), planes_found, k.full, k.signs_are, total_found))

  -- the body ys in the place of the part behind the header
  pub stream_laid : (out x ys : List ℕ) (total r : ℕ) → total ≡ total_length s l → total ≤ length out
      → Headed (record { kernel = s.kernel; levels = s.levels; depth = s.depth; width = s.width; height = s.height; planes = T; rectangles = s.rectangles }) total out x
      → BodyWritten (part m T l 1) (part m T l 0) (mid_of (front s) (total - front s) x) ys r
      → (put_mid (front s) (total - front s) x ys ≡ stream s l ++ drop (total_length s l) out) × (r ≡ length (marked_part s l))
  stream_laid out x ys total r e room h' w =
      let h : Headed s total out x = rw planes_found at h' in
      let b = rw (part_is 1, part_is 0) at w in
      let y : ys ≡ packed (body_bits s l) = is_listed (bytes (length (body_bits s l))) (byte_at (body_bits s l)) 0 ys (b.len ∙ room_length x total e (omega (arith, h.len))) b.held in (
        rw (← e) (ap₂ (λ (a z : List ℕ). a ++ z) (header_in s total out x h (omega arith))
            (ap₂ (λ (a z : List ℕ). a ++ z) y (Post-is (front s) total x (omega arith) ∙ rest_kept s total out x h (omega arith)))
            ∙ sym (append_assoc (header s total) (packed (body_bits s l)) (drop total out))),
        b.at,
      )
