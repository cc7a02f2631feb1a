-- Numbers by their binary digits: digits behind a number, and the bits of a window of bytes. Assumes nothing.
use mathlib.Core.Path.{◌≡◌, refl, sym, ap, ◌∙◌}
use mathlib.Core.List.{List, [], ◌∷◌, ◌++◌}
use Prim.Native.Nat.{ℕ, zero, suc, ◌+◌, ◌*◌, ◌-◌, ◌/◌, ◌%◌, ◌^◌, ◌<◌, ◌≤◌}
use native.Mathlib.Omega.{arith}
use native.Mathlib.Nat.{add-mul, pow-succ', mul_assoc, pow-suc, div-one, div-lt_iff_lt-mul}
use lib.ListN.{length, get_or, get_or-eq_default}
use lib.Pow.{pow_pos, pow-add, shl-shr, shr-shr, field, mod-mod-pow}
use Rattle.line.proofs.Cells.{by_lt}
use Rattle.bitplane.specs.Bits.{bit_of}
use Rattle.bitplane.proofs.Passes.{halved}
use Rattle.bitplane.proofs.Bytes.{Binary}
use Rattle.writer.specs.Written.{extended}

-- ---- digits behind a number
pub extended-append : (v : ℕ) (l m : List ℕ) → extended v (l ++ m) ≡ extended (extended v l) m
unfolding extended
extended-append v [] m = refl
extended-append v (b ∷ l) m = extended-append (v * 2 + b) l m

pub extended_behind : (v : ℕ) (l : List ℕ) → extended v l ≡ v * 2 ^ length l + extended 0 l
unfolding extended
extended_behind v [] = omega arith
extended_behind v (b ∷ l) =
    let n = length l in
    omega (arith, extended_behind (v * 2 + b) l, extended_behind (0 * 2 + b) l, add-mul (v * 2) b (2 ^ n), mul_assoc v 2 (2 ^ n), ap (λ k. v * k) (pow-succ' 2 n))

extended_high : (v : ℕ) (l : List ℕ) → Binary l → extended v l / 2 ^ length l ≡ v
unfolding extended
extended_high v [] h = div-one v
extended_high v (b ∷ l) h = halved (length l) (extended (v * 2 + b) l) ∙ ap (λ n. n / 2) (extended_high (v * 2 + b) l (λ i. h (suc i))) ∙ omega (arith, h 0)

pub extended_small : (l : List ℕ) → Binary l → extended 0 l < 2 ^ length l
extended_small l h = omega (arith, (div-lt_iff_lt-mul {x = extended 0 l} {y = 1} (pow_pos (length l))).0 (omega (arith, extended_high 0 l h)))

-- digit k of them, from the highest on
extended_digit : (v : ℕ) (l : List ℕ) (k e : ℕ) → Binary l → k + suc e ≡ length l → bit_of e (extended v l) ≡ get_or l k 0
unfolding extended
extended_digit v [] k e h n = absurd (omega arith)
extended_digit v (b ∷ l) zero e h n = let d : e ≡ length l = omega arith in rw (d, extended_high (v * 2 + b) l (λ i. h (suc i))) (omega (arith, h 0))
extended_digit v (b ∷ l) (suc k) e h n = extended_digit (v * 2 + b) l k e (λ i. h (suc i)) (omega arith)

-- ---- digits with z zeros behind them
under : (y d e : ℕ) → bit_of e (y * 2 ^ (suc d + e)) ≡ 0
under y d e = rw (pow-add 2 (suc d) e, ← mul_assoc y (2 ^ suc d) (2 ^ e), shl-shr (y * 2 ^ suc d) e, pow-suc 2 d, ← mul_assoc y (2 ^ d) 2) (omega arith)

pub filled_digit : (l : List ℕ) (z k e : ℕ) → Binary l → k + suc e ≡ length l + z → bit_of e (extended 0 l * 2 ^ z) ≡ get_or l k 0
filled_digit l z k e h n = by_lt k (length l)
    (λ lt. let d : e ≡ z + (e - z) = omega arith in rw (d, ← shr-shr (extended 0 l * 2 ^ z) z (e - z), shl-shr (extended 0 l) z) (extended_digit 0 l k (e - z) h (omega arith)))
    (λ ge. let d : z ≡ suc (z - suc e) + e = omega arith in rw d (under (extended 0 l) (z - suc e) e) ∙ sym (get_or-eq_default l 0 ge))

-- ---- bit e of the byte of x whose lowest bit is bit s
pub byte_bit : (x s e : ℕ) → e < 8 → bit_of e (x / 2 ^ s % 256) ≡ bit_of (s + e) x
byte_bit x s e h =
    let y = x / 2 ^ s in
    let d : 8 - e + e ≡ 8 = omega arith in let g : 8 - e ≡ 7 - e + 1 = omega arith in
    let a : y % 256 / 2 ^ e ≡ y / 2 ^ e % 2 ^ (8 - e) = rw d at (field y (8 - e) e) in
    ap (λ n. n % 2) (a ∙ ap (λ n. y / 2 ^ e % 2 ^ n) g) ∙ mod-mod-pow (y / 2 ^ e) (7 - e) 1 ∙ ap (λ n. n % 2) (shr-shr x s e)

-- ---- the first bits of a byte, from bit j on, and digits behind them
front : (x : ℕ) (l : List ℕ) (j : ℕ) → j + length l ≤ 8 → ((k : ℕ) → k < length l → get_or l k 0 ≡ bit_of (7 - (j + k)) x) → extended (x / 2 ^ (8 - j)) l ≡ x / 2 ^ (8 - (j + length l))
unfolding extended
front x [] j h f = ap (λ n. x / 2 ^ (8 - n)) (omega arith)
front x (b ∷ l) j h f =
    let e : 8 - j ≡ suc (8 - suc j) = omega arith in
    let i : 7 - (j + 0) ≡ 8 - suc j = omega arith in
    let n : suc j + length l ≡ j + suc (length l) = omega arith in
    let d : x / 2 ^ (8 - j) * 2 + b ≡ x / 2 ^ (8 - suc j) = rw (e, halved (8 - suc j) x, f 0 (omega arith), i) (omega arith) in
    rw (d, ← n) (front x l (suc j) (omega arith) (λ k g. f (suc k) (omega arith) ∙ ap (λ m. bit_of (7 - m) x) (omega arith)))

pub front_digits : (x : ℕ) (l new : List ℕ) → x < 256 → length l ≤ 8 → ((k : ℕ) → k < length l → get_or l k 0 ≡ bit_of (7 - k) x)
    → x / 2 ^ (8 - length l) * 2 ^ length new + extended 0 new ≡ extended 0 (l ++ new)
front_digits x l new s h f =
    let a : x / 2 ^ (8 - 0) ≡ 0 = omega arith in
    let b : extended 0 l ≡ x / 2 ^ (8 - length l) = rw a at (front x l 0 (omega arith) (λ k g. f k g ∙ ap (λ m. bit_of (7 - m) x) (omega arith))) ∙ ap (λ m. x / 2 ^ (8 - m)) (omega arith) in
    rw (← b) (sym (extended-append 0 l new ∙ extended_behind (extended 0 l) new))
