-- The two parts of c lines side by side in one buffer, evens and odds or lows and highs, in rows of c numbers, t apart.
--
--   lane a t l j          == line j of the part that begins at a: its number n is at a + n · t + j
--   In a t m c n          == m rows of the part that begins at a are inside n places
--   Parts a b t p q c n   == two parts, p rows at a and q rows at b, inside n places and apart; p and q below 2^32, c above 0 and at most t
--   Bounded r a t m c l   == the numbers of m rows of the part at a are within r
--   Rows F a t c d e l l' == l' is l with F n j in line j of the part at a, for n from d up to e
--   Both F G a b t c d p q l l'
--                         == l' is l with each line's parts A and B, at a and b, replaced by F A B, for n from d up to p, and G A B, for n from d up to q
--
-- Assumes nothing: these are definitions.
use Rattle.std.specs.Prelude.{◌≡◌, List, ℕ, ◌+◌, ◌*◌, ◌^◌, ◌<◌, ◌≤◌, ℤ, length}
use Rattle.line.specs.Cells.{Line, cell}
use Rattle.line.specs.Inner.{AllWithin}

abbrev pub lane : ℕ → ℕ → List ℤ → ℕ → Line ℤ
lane a t l j n = cell l (a + n * t + j)

pub record In (a t m c size : ℕ) : Type 0 where
  pub place : (n j : ℕ) → n < m → j < c → a + n * t + j < size

pub record Parts (a b t p q c size : ℕ) : Type 0 where
  pub few : (p < 2 ^ 32) × (q < 2 ^ 32)
  pub lines : 0 < c
  pub wide : c ≤ t
  pub first : In a t p c size
  pub second : In b t q c size
  pub apart : (n j n' j' : ℕ) → n < p → j < c → n' < q → j' < c → a + n * t + j ≡ b + n' * t + j' → ⊥

pub record Bounded (r a t m c : ℕ) (l : List ℤ) : Type 0 where
  pub each : (j : ℕ) → j < c → AllWithin r m (lane a t l j)

pub record Rows (F : ℕ → ℕ → ℤ) (a t c d e : ℕ) (l l' : List ℤ) : Type 0 where
  pub size : length l' ≡ length l
  pub on : (n j : ℕ) → d ≤ n → n < e → j < c → lane a t l' j n ≡ F n j
  pub off : (i : ℕ) → ((n j : ℕ) → d ≤ n → n < e → j < c → i ≡ a + n * t + j → ⊥) → cell l' i ≡ cell l i

pub record Both (F G : Line ℤ → Line ℤ → Line ℤ) (a b t c d p q : ℕ) (l l' : List ℤ) : Type 0 where
  pub size : length l' ≡ length l
  pub first : (n j : ℕ) → d ≤ n → n < p → j < c → lane a t l' j n ≡ F (lane a t l j) (lane b t l j) n
  pub second : (n j : ℕ) → d ≤ n → n < q → j < c → lane b t l' j n ≡ G (lane a t l j) (lane b t l j) n
  pub off : (i : ℕ) → ((n j : ℕ) → d ≤ n → n < p → j < c → i ≡ a + n * t + j → ⊥) → ((n j : ℕ) → d ≤ n → n < q → j < c → i ≡ b + n * t + j → ⊥)
      → cell l' i ≡ cell l i
