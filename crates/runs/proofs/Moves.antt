-- A loop that moves the numbers of a run by amounts, one after the other, from numbers of the same buffer that it does not write.
--
--   Moving add amount s n l l' k == so far the first k of n numbers from place s on are moved
--
-- Assumes nothing.
use mathlib.Core.Path.{◌≡◌, ap, ◌∙◌}
use mathlib.Core.Bool.{Bool}
use mathlib.Core.List.{List}
use Prim.Native.Nat.{ℕ, ◌+◌, ◌<◌, ◌≤◌, ◌^◌}
use native.Mathlib.Omega.{arith}
use lib.IntN.{ℤ}
use lib.ListN.{length, set}
use lib.Signed.{mag}
use mir.Syntax.{w32}
use mir.Val.{SFits, to_z, of_z, hbits}
use mir.Facts.{to_z-of_z}
use borrow.Author.Rules.{sfits_of}
use Rattle.line.specs.Cells.{cell}
use Rattle.steps.specs.Moved.{moved}
use Rattle.runs.specs.Cells.{Written}
use Rattle.runs.specs.Steps.{formula, around, amount_at, Apart, Room, NearBy, Near}
use Rattle.runs.specs.Step.{Step}
use Rattle.runs.specs.declared.Around.{Around}
use Rattle.runs.specs.declared.Taps.{Taps}
use Rattle.runs.proofs.Writes.{written_none, written_more, written_all, written_kept}

pub record Moving (add : Bool) (amount : ℕ → ℤ) (s n : ℕ) (l l' : List ℤ) (k : ℕ) : Type 0 where
  pub room : s + n ≤ length l
  pub count : k ≤ n
  pub so_far : Written (λ i. moved add (cell l (s + i)) (amount i)) s k l l'

pub moving_none : {add : Bool} {amount : ℕ → ℤ} {s n : ℕ} {l : List ℤ} → s + n ≤ length l → Moving add amount s n l l 0
moving_none h = record { room = h; count = omega arith; so_far = written_none }

pub moving_all : {add : Bool} {amount : ℕ → ℤ} {s n k : ℕ} {l l' : List ℤ} → Moving add amount s n l l' k → n ≤ k
    → Written (λ i. moved add (cell l (s + i)) (amount i)) s n l l'
moving_all {n = n} m h = written_all n m.so_far (omega (arith, m.count))

-- the numbers around the next one are as they were
module _ {add : Bool} {amount : ℕ → ℤ} {p : Taps} {n k : ℕ} {l l' : List ℤ} (room : Room p n l) (m : Moving add amount p.at n l l' k) (h : k < n) where
  kept : (q : ℕ) → Apart p.at q n → cell l' (q + k) ≡ cell l (q + k)
  kept q a = written_kept m.so_far (q + k) (λ j j< e. a j k (omega arith) h e)

  here : cell l' (p.here + k) ≡ cell l (p.here + k)
  here = kept p.here room.here_apart

  before2 : cell l' (p.before2 + k) ≡ cell l (p.before2 + k)
  before2 = kept p.before2 room.before2_apart

  before : cell l' (p.before + k) ≡ cell l (p.before + k)
  before = kept p.before room.before_apart

  after : cell l' (p.after + k) ≡ cell l (p.after + k)
  after = kept p.after room.after_apart

  after2 : cell l' (p.after2 + k) ≡ cell l (p.after2 + k)
  after2 = kept p.after2 room.after2_apart

  around_kept : around l' p k ≡ around l p k
  around_kept = rw (here, before2, before, after, after2)

  -- so what is read of them is what the step takes, and what it computes is the amount
  module _ (s : Step) {x : Around} (read : x ≡ around l' p k) where
    pub near_read : Near s l p n → NearBy s x
    near_read w = rw (read, around_kept) (w.each k h)

    pub amount_read : formula s x ≡ amount_at s l p k
    amount_read = ap (formula s) (read ∙ around_kept)

-- a turn moves the next number by an amount z, each of the two read back from its bits
module _ {add : Bool} {amount : ℕ → ℤ} {s n k : ℕ} {l l' : List ℤ} {z : ℤ} (m : Moving add amount s n l l' k) (h : k < n)
    (f : mag (cell l' (s + k)) < 2 ^ hbits w32) (g : mag z < 2 ^ hbits w32) (e : z ≡ amount k) where
  read : moved add (to_z w32 (of_z w32 (cell l' (s + k)))) (to_z w32 (of_z w32 z)) ≡ moved add (cell l (s + k)) (amount k)
  read = rw (to_z-of_z {w = w32} (sfits_of f), to_z-of_z {w = w32} (sfits_of g), m.so_far.above (s + k) (omega arith), e)

  pub move_fits : SFits w32 (moved add (cell l (s + k)) (amount k)) → SFits w32 (moved add (to_z w32 (of_z w32 (cell l' (s + k)))) (to_z w32 (of_z w32 z)))
  move_fits fit = rw read fit

  pub moving_more : {v : ℤ} → mag v < 2 ^ hbits w32 → v ≡ moved add (to_z w32 (of_z w32 (cell l' (s + k)))) (to_z w32 (of_z w32 z))
      → Moving add amount s n l (set l' (s + k) (to_z w32 (of_z w32 v))) (k + 1)
  moving_more o d = record {
    room = m.room;
    count = omega arith;
    so_far = written_more (s + k) m.so_far (omega arith) (omega (arith, m.room)) (to_z-of_z {w = w32} (sfits_of o) ∙ d ∙ read);
  }
