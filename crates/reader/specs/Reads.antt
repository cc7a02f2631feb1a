-- What the reader of a body does to a plane of coefficients. It stops at the end of a cut body.
--
--   stopped h p  == the place p, where every place past what was received counts as the first one past it
--   reading l p  == the coefficients of the plane l, and p as the place of the next bit
--   Ready        == what a reading of class c from place p on needs: a class, a mask of the plane's size, at most 2^24 coefficients, a place the reader can have come to, a body whose places have 64 bits
--   Spare on t Z i == from i on the coefficients of a class leave room for the planes below t
--   Unread on Z  == the coefficients of a class are 0
--   PartReady    == what a reading of plane t of class c needs, from coefficient i and place p on
--   Reads src x l₀ p l q i == l is l₀ with the first i coefficients of the pass x read, from place p on; q is the place of the next bit, as stopped
--   Continues src x l q i l' q' j == whatever was read before, the coefficients from i to j are read next: l and q become l' and q'
--   PassRead     == the plane `after` and the place r are those after the pass x, the place as stopped
--   PlanesRead   == the same of the passes xs; k of them were not wholly received
--   BodyRead     == the plane `after` is what a body gives of the marked passes xs and the unmarked ys; m and e are the places behind the two parts, as stopped; k passes of ys were not wholly received
--
-- Assumes nothing: these are definitions.
use Rattle.std.specs.Prelude.{◌≡◌, Bool, true, List, ℕ, suc, ◌+◌, ◌*◌, ◌^◌, ◌<◌, ◌≤◌, leb, ℤ, pos, nat_abs, length}
use Rattle.line.specs.Cells.{choose, cell}
use Rattle.bitplane.specs.Body.{Pass, Order, class}
use Rattle.bitplane.specs.Reader.{Received, received, Reading, place, pass, read, missing, start}

unfoldable pub stopped : Received → ℕ → ℕ
stopped h p = choose (leb p h.size) p (suc h.size)

abbrev pub reading : List ℤ → ℕ → Reading
reading l p = record { value = cell l; at = p }

pub record Ready (body : List ℕ) (plane : List ℤ) (mask : List ℕ) (c p : ℕ) : Type 0 where
  pub class : c < 2
  pub sizes : length mask ≡ length plane
  pub few : length plane ≤ 16777216
  pub place : p ≤ suc (8 * length body)
  pub small : 8 * length body < 2 ^ 62

pub record Spare (on : ℕ → Bool) (t : ℕ) (Z : ℕ → ℤ) (i : ℕ) : Type 0 where
  pub each : (k : ℕ) → i ≤ k → on k ≡ true → nat_abs (Z k) + 2 ^ t ≤ 1073741824

abbrev pub Unread : (ℕ → Bool) → (ℕ → ℤ) → Type 0
Unread on Z = (i : ℕ) → on i ≡ true → Z i ≡ pos 0

pub record PartReady (body : List ℕ) (plane : List ℤ) (mask : List ℕ) (c t i p : ℕ) : Type 0 where
  pub depth : t < 30
  pub ready : Ready body plane mask c p
  pub spare : Spare (class mask c) t (cell plane) i

pub record Reads (src : List ℕ) (x : Pass) (l₀ : List ℤ) (p : ℕ) (l : List ℤ) (q i : ℕ) : Type 0 where
  pub value : (k : ℕ) → k < i → cell l k ≡ (pass (received src) i x (reading l₀ p)).value k
  pub rest : (k : ℕ) → i ≤ k → cell l k ≡ cell l₀ k
  pub at : q ≡ stopped (received src) (place (received src) x (reading l₀ p) i)

pub record Continues (src : List ℕ) (x : Pass) (l : List ℤ) (q i : ℕ) (l' : List ℤ) (q' j : ℕ) : Type 0 where
  pub reads : (l₀ : List ℤ) (p : ℕ) → Reads src x l₀ p l q i → Reads src x l₀ p l' q' j
  pub rest : (k : ℕ) → j ≤ k → cell l' k ≡ cell l k
  pub near : q' ≤ suc (8 * length src)

pub record PassRead (h : Received) (n : ℕ) (x : Pass) (before : Reading) (after : List ℤ) (r : ℕ) : Type 0 where
  pub value : (i : ℕ) → cell after i ≡ (pass h n x before).value i
  pub at : r ≡ stopped h (pass h n x before).at

pub record PlanesRead (h : Received) (n : ℕ) (xs : Order) (before : Reading) (after : List ℤ) (r k : ℕ) : Type 0 where
  pub value : (i : ℕ) → cell after i ≡ (read h n xs before).value i
  pub at : r ≡ stopped h (read h n xs before).at
  pub missing : k ≡ missing h n xs before

pub record BodyRead (h : Received) (n : ℕ) (xs ys : Order) (after : List ℤ) (m e k : ℕ) : Type 0 where
  pub value : (i : ℕ) → i < n → cell after i ≡ (read h n ys (read h n xs start)).value i
  pub marked : m ≡ stopped h (read h n xs start).at
  pub end : e ≡ stopped h (read h n ys (read h n xs start)).at
  pub missing : k ≡ missing h n ys (read h n xs start)
