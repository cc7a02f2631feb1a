-- What the writer of a body does to a buffer of bytes.
--
--   Written l o m            == m is o with the bits l in its first bytes, the last of them filled with zeros
--   Appends new p before now == `now` is `before` with the bits new behind the p bits that it held
--   extended v l             == the number v with the binary digits l written behind it
--   Digits l number n        == l are the binary digits of number, n of them, the highest first
--   given t z member         == what coefficient z gives to plane t if it is a member of the class (1), and nothing if not
--   Fits number n p out      == the n binary digits of number, 1 to 32 of them, fit behind p bits, and every place has 64 bits
--   Puts number n p before now         == `now` is `before` with the n binary digits of number behind the p bits that it held
--   Room new p out           == the bits new fit behind p bits, and every place has 64 bits
--   Sends new p before now r == that, and r is the place behind them
--   run x Z i n              == the bits of pass x over the n coefficients from i on
--   share mask t plane c i n == the bits that those of class c among them give to bit plane t
--   PassReady mask plane c   == the mask has a byte for each coefficient, of which there are at most 2^24, and c is 0 or 1
--   part mask top plane c    == the bits that class c of a plane gives to its body
--   BodyReady mask top plane marks out == the mask has a 0 or a 1 for each coefficient, at most 2^24 of them, 1 for `marks`, and the body fits into out
--   BodyWritten a b before now r       == `now` is `before` with the bits a and then b in its first bytes; r is the place behind a
--
-- Assumes nothing: these are definitions.
use Rattle.std.specs.Prelude.{◌≡◌, List, [], ◌∷◌, ◌++◌, ℕ, ◌+◌, ◌*◌, ◌^◌, ◌<◌, ◌≤◌, eqb, ℤ, length, get_or}
use Rattle.line.specs.Cells.{choose, behind, cell, count}
use Rattle.bitplane.specs.Bits.{bit_at, byte_at, bytes}
use Rattle.bitplane.specs.Body.{Pass, class, one_plane, planes, code, pass_bits, body}

pub record Written (l o m : List ℕ) : Type 0 where
  pub len : length m ≡ length o
  pub bit : (k : ℕ) → k < 8 * bytes (length l) → bit_at m k ≡ get_or l k 0
  pub rest : (j : ℕ) → bytes (length l) ≤ j → get_or m j 0 ≡ get_or o j 0

abbrev pub Appends : List ℕ → ℕ → List ℕ → List ℕ → Type 0
Appends new p before now = (l o : List ℕ) → length l ≡ p → Written l o before → Written (l ++ new) o now

unfoldable pub extended : ℕ → List ℕ → ℕ
extended v [] = v
extended v (b ∷ l) = extended (v * 2 + b) l

pub record Digits (l : List ℕ) (number n : ℕ) : Type 0 where
  pub value : number ≡ extended 0 l
  pub many : n ≡ length l

abbrev pub given : ℕ → ℤ → ℕ → List ℕ
given t z member = choose (eqb member 1) (code t z) []

pub record Fits (number n p : ℕ) (out : List ℕ) : Type 0 where
  pub some : 0 < n
  pub most : n ≤ 32
  pub digits : number < 2 ^ n
  pub fits : p + n ≤ 8 * length out
  pub small : 8 * length out < 2 ^ 64

abbrev pub Puts : ℕ → ℕ → ℕ → List ℕ → List ℕ → Type 0
Puts number n p before now = (new : List ℕ) → ((i : ℕ) → get_or new i 0 < 2) → Digits new number n → Appends new p before now

pub record Room (new : List ℕ) (p : ℕ) (out : List ℕ) : Type 0 where
  pub fits : p + length new ≤ 8 * length out
  pub small : 8 * length out < 2 ^ 64

pub record Sends (new : List ℕ) (p : ℕ) (before now : List ℕ) (r : ℕ) : Type 0 where
  pub bits : Appends new p before now
  pub at : r ≡ p + length new

unfoldable pub run : Pass → (ℕ → ℤ) → ℕ → ℕ → List ℕ
run x Z i n = pass_bits (one_plane (behind i x.on) x.plane) (behind i Z) n

abbrev pub share : List ℕ → ℕ → List ℤ → ℕ → ℕ → ℕ → List ℕ
share mask t plane c i n = run (one_plane (class mask c) t) (cell plane) i n

pub record PassReady (mask : List ℕ) (plane : List ℤ) (c : ℕ) : Type 0 where
  pub over : length mask ≡ length plane
  pub size : length plane ≤ 16777216
  pub known : c < 2

abbrev pub part : List ℕ → ℕ → List ℤ → ℕ → List ℕ
part mask top plane c = body (planes (class mask c) top) (cell plane) (length plane)

pub record BodyReady (mask : List ℕ) (top : ℕ) (plane : List ℤ) (marks : ℕ) (out : List ℕ) : Type 0 where
  pub few : top ≤ 32
  pub over : length mask ≡ length plane
  pub size : length plane ≤ 16777216
  pub counted : marks ≡ count (length mask) (class mask 1)
  pub binary : (i : ℕ) → i < length mask → get_or mask i 2 < 2
  pub room : Room (part mask top plane 1 ++ part mask top plane 0) 0 out

pub record BodyWritten (marked unmarked before now : List ℕ) (r : ℕ) : Type 0 where
  pub len : length now ≡ length before
  pub held : (j : ℕ) → j < bytes (length (marked ++ unmarked)) → get_or now j 0 ≡ byte_at (marked ++ unmarked) j
  pub rest : (j : ℕ) → bytes (length (marked ++ unmarked)) ≤ j → get_or now j 0 ≡ get_or before j 0
  pub at : r ≡ length marked
