-- A loop that moves the numbers of a run by amounts, one after the other.
--
--   Moving add amount s n l l' k == so far the first k of n numbers from place s on are moved
--
-- Assumes nothing.
use mathlib.Core.Path.{◌≡◌, ◌∙◌}
use mathlib.Core.Bool.{Bool}
use mathlib.Core.List.{List}
use Prim.Native.Nat.{ℕ, ◌+◌, ◌<◌, ◌≤◌, ◌^◌}
use native.Mathlib.Omega.{arith}
use lib.IntN.{ℤ}
use lib.ListN.{length, set}
use lib.Signed.{mag}
use mir.Syntax.{w32, w64}
use mir.Val.{SFits, to_z, of_z, hbits}
use mir.Facts.{to_z-of_z}
use borrow.Author.Rules.{sfits_of}
use Rattle.line.specs.Cells.{cell}
use Rattle.earlier_passes.specs.Moved.{moved}
use Rattle.earlier_passes.specs.Written.{Written}
use Rattle.earlier_passes.proofs.Writes.{written_none, written_more, written_all}

pub record Moving (add : Bool) (amount : ℕ → ℤ) (s n : ℕ) (l l' : List ℤ) (k : ℕ) : Type 0 where
  pub room : s + n ≤ length l
  pub count : k ≤ n
  pub so_far : Written (λ i. moved add (cell l (s + i)) (amount i)) s k l l'

pub moving_none : {add : Bool} {amount : ℕ → ℤ} {s n : ℕ} {l : List ℤ} → s + n ≤ length l → Moving add amount s n l l 0
moving_none h = record { room = h; count = omega arith; so_far = written_none }

pub moving_all : {add : Bool} {amount : ℕ → ℤ} {s n k : ℕ} {l l' : List ℤ} → Moving add amount s n l l' k → n ≤ k → Written (λ i. moved add (cell l (s + i)) (amount i)) s n l l'
moving_all {n = n} m h = written_all n m.so_far (omega (arith, m.count))

-- a turn moves the next number by an amount z, each of the two read back from its bits
module _ {add : Bool} {amount : ℕ → ℤ} {s n k : ℕ} {l l' : List ℤ} {z : ℤ}
    (m : Moving add amount s n l l' k) (f : mag (cell l' (s + k)) < 2 ^ hbits w32) (g : mag z < 2 ^ hbits w64) (e : z ≡ amount k) where
  read : moved add (to_z w32 (of_z w32 (cell l' (s + k)))) (to_z w64 (of_z w64 z)) ≡ moved add (cell l (s + k)) (amount k)
  read = rw (to_z-of_z (sfits_of f), to_z-of_z (sfits_of g), m.so_far.above (s + k) (omega arith), e)

  pub move_fits : SFits w32 (moved add (cell l (s + k)) (amount k)) → SFits w32 (moved add (to_z w32 (of_z w32 (cell l' (s + k)))) (to_z w64 (of_z w64 z)))
  move_fits h = rw read h

  pub moving_more : {v : ℤ} → k < n → mag v < 2 ^ hbits w32 → v ≡ moved add (to_z w32 (of_z w32 (cell l' (s + k)))) (to_z w64 (of_z w64 z))
      → Moving add amount s n l (set l' (s + k) (to_z w32 (of_z w32 v))) (k + 1)
  moving_more h o d = record { room = m.room; count = omega arith; so_far = written_more (s + k) m.so_far (omega arith) (omega (arith, m.room)) (to_z-of_z {w = w32} (sfits_of o) ∙ d ∙ read) }
