-- A written stream is a list of bytes. Assumes nothing.
use mathlib.Core.Path.{◌≡◌}
use mathlib.Core.List.{List, [], ◌∷◌, ◌++◌}
use Prim.Native.Nat.{ℕ, zero, suc, ◌*◌, ◌/◌, ◌%◌, ◌<◌}
use native.Mathlib.Omega.{arith}
use lib.IntN.{ℤ}
use lib.ListN.{length, get_or, get_or-eq_default}
use Rattle.line.specs.Cells.{cell}
use Rattle.line.proofs.Cells.{by_lt}
use Rattle.line.proofs.Lists.{listed-length, listed_cell}
use Rattle.bitplane.specs.Bits.{byte_at, bytes}
use Rattle.bitplane.specs.Body.{body}
use Rattle.bitplane.proofs.Bytes.{Binary, gathered_small, binary_append, body_binary}
use Rattle.header.specs.Fields.{bytes_of, Field, laid, Shot, fixed_fields, rectangle_fields, header}
use Rattle.codestream.specs.Stream.{area, marked_passes, unmarked_passes, marked_part, body_bits, packed, total_length, stream}
use Rattle.codestream.specs.Cutting.{Bytes}

bytes_none : Bytes []
bytes_none i = omega arith

bytes_cons : (x : ℕ) (l : List ℕ) → x < 256 → Bytes l → Bytes (x ∷ l)
bytes_cons x l h b zero = h
bytes_cons x l h b (suc i) = b i

bytes_append : (l m : List ℕ) → Bytes l → Bytes m → Bytes (l ++ m)
bytes_append [] m b c = c
bytes_append (x ∷ l) m b c = bytes_cons x (l ++ m) (b 0) (bytes_append l m (λ i. b (suc i)) c)

-- ---- the header's fields
number_bytes : (n x : ℕ) → Bytes (bytes_of n x)
unfolding bytes_of
number_bytes zero x = bytes_none
number_bytes (suc n) x = bytes_append (bytes_of n (x / 256)) (x % 256 ∷ []) (number_bytes n (x / 256)) (bytes_cons (x % 256) [] (omega arith) bytes_none)

laid_bytes : (fs : List Field) → Bytes (laid fs)
unfolding laid
laid_bytes [] = bytes_none
laid_bytes (f ∷ fs) = bytes_append (bytes_of f.size f.value) (laid fs) (number_bytes f.size f.value) (laid_bytes fs)

-- ---- the body's bits, eight a byte
packed_bytes : (l : List ℕ) → Binary l → Bytes (packed l)
packed_bytes l s i = by_lt i (bytes (length l))
    (λ lt. rw (listed_cell {A = ℕ} (bytes (length l)) (byte_at l) 0 i lt) (gathered_small (λ i. get_or l i 0) (8 * i) 8 s))
    (λ ge. let z : get_or (packed l) i 0 ≡ 0 = get_or-eq_default (packed l) 0 (omega (arith, listed-length (bytes (length l)) (byte_at l))) in omega arith)

pub stream_bytes : (s : Shot) (l : List ℤ) → Bytes (stream s l)
stream_bytes s l =
    bytes_append (header s (total_length s l)) (packed (body_bits s l)) (laid_bytes (fixed_fields s (total_length s l) ++ rectangle_fields s.rectangles))
    (packed_bytes (body_bits s l)
    (binary_append (marked_part s l) (body (unmarked_passes s) (cell l) (area s)) (body_binary (marked_passes s) (cell l) (area s)) (body_binary (unmarked_passes s) (cell l) (area s))))
