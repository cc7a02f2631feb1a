-- A body: the marked part, and then the unmarked. Assumes nothing.
use mathlib.Core.Path.{◌≡◌, refl, ◌∙◌}
use mathlib.Core.List.{List}
use Prim.Native.Nat.{ℕ, ◌+◌, ◌*◌, ◌≤◌}
use native.Mathlib.Omega.{arith}
use lib.IntN.{ℤ, pos}
use lib.ListN.{length}
use Rattle.line.specs.Cells.{cell}
use Rattle.bitplane.specs.Body.{class, planes}
use Rattle.bitplane.specs.Reader.{received, read, start}
use Rattle.bitplane.proofs.Classes.{one_class}
use Rattle.bitplane.proofs.Passes.{reading_eq}
use Rattle.bitplane.proofs.Past.{bytes_silent}
use Rattle.bitplane.proofs.Empty.{read_other}
use Rattle.reader.specs.Reads.{reading, Unread, PlanesRead, BodyRead}
use Rattle.reader.proofs.Passes.{stopped_near}
use Rattle.reader.proofs.Planes.{planes_from}

-- l₀ is the plane cleared, and l₁ with the marked part read
module _ (src mask : List ℕ) (top n : ℕ) (l₀ l₁ : List ℤ) {m k : ℕ} (size : length l₀ ≡ n) (zero : (i : ℕ) → cell l₀ i ≡ pos 0)
    (marked : PlanesRead (received src) (length l₀) (planes (class mask 1) top) (reading l₀ 0) l₁ m k) where
  from_start : PlanesRead (received src) n (planes (class mask 1) top) start l₁ m k
  from_start = let e : reading l₀ 0 ≡ start = reading_eq zero refl in rw (← size, ← e) marked

  -- a place that the second part can start from
  pub marked_near : m ≤ 8 * length src + 1
  marked_near = omega (arith, from_start.at, stopped_near (received src) (read (received src) n (planes (class mask 1) top) start).at)

  pub unmarked_zero : Unread (class mask 0) (cell l₁)
  unmarked_zero i o = from_start.value i ∙ read_other (received src) n (class mask 1) top start i (one_class mask 0 1 i (λ e. omega arith) o)

  pub body_read : {l₂ : List ℤ} {e j : ℕ} → length l₁ ≡ n → PlanesRead (received src) (length l₁) (planes (class mask 0) top) (reading l₁ m) l₂ e j
      → BodyRead (received src) n (planes (class mask 1) top) (planes (class mask 0) top) l₂ m e j
  body_read f unmarked =
      let y = planes_from {s = read (received src) n (planes (class mask 1) top) start} (bytes_silent src) from_start.value from_start.at (rw f at unmarked) in
      record { value = λ i h. y.value i; marked = from_start.at; end = y.at; missing = y.missing }
