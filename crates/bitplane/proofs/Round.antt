-- A plane written under a mask is read back from its bytes. Assumes nothing.
use mathlib.Core.Path.{◌≡◌}
use mathlib.Core.List.{List, ◌++◌}
use Prim.Native.Nat.{ℕ, ◌*◌, ◌^◌, ◌<◌, ◌≤◌}
use native.Mathlib.Omega.{arith}
use lib.IntN.{ℤ, nat_abs}
use lib.ListN.{length, get_or}
use Rattle.bitplane.specs.Body.{class, planes, body}
use Rattle.bitplane.specs.Reader.{received, answer}
use Rattle.bitplane.proofs.Classes.{class_past, classes_apart}
use Rattle.bitplane.proofs.Back.{Whole, body_back, body_end}
use Rattle.bitplane.proofs.Bytes.{Binary, Holds, binary_append, body_binary, holds_carries}

-- ---- a mask, the plane's coefficients row by row, and bytes m that hold the body
module _ (mask : List ℕ) (marks : (i : ℕ) → i < length mask → get_or mask i 2 < 2) (T : ℕ) (Z : ℕ → ℤ) (small : (i : ℕ) → nat_abs (Z i) < 2 ^ T) where
  abbrev pub part : ℕ → List ℕ
  part c = body (planes (class mask c) T) Z (length mask)

  pub parts_binary : Binary (part 1 ++ part 0)
  parts_binary = binary_append (part 1) (part 0) (body_binary _ Z (length mask)) (body_binary _ Z (length mask))

  module _ (m : List ℕ) (holds : Holds (part 1 ++ part 0) m) (room : length (part 1 ++ part 0) ≤ 8 * length m) where
    pub bytes_back : (front : ℕ) → Whole (answer front (received m) (length mask) (planes (class mask 1) T) (planes (class mask 0) T)) front (length mask) Z (part 1)
    bytes_back front = body_back (length mask) T (received m) Z (class mask 1) (class mask 0) small (λ i g. class_past mask 1 i (omega arith) g) (λ i g. class_past mask 0 i (omega arith) g)
        (λ i g. classes_apart mask i (marks i g)) (holds_carries (part 1 ++ part 0) m parts_binary holds) room front

    pub bytes_end : (front : ℕ) → (answer front (received m) (length mask) (planes (class mask 1) T) (planes (class mask 0) T)).end ≡ length (part 1 ++ part 0)
    bytes_end front = body_end (length mask) T (received m) Z (class mask 1) (class mask 0) small (λ i g. class_past mask 1 i (omega arith) g) (λ i g. class_past mask 0 i (omega arith) g)
        (λ i g. classes_apart mask i (marks i g)) (holds_carries (part 1 ++ part 0) m parts_binary holds) room
