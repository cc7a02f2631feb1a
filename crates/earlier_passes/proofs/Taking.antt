-- Lines that are taken from a plane, transformed and put back: each is then its transform, and every number fits. Assumes nothing.
use mathlib.Core.Path.{◌≡◌, sym, ap, ◌∙◌}
use mathlib.Core.Bool.{Bool, true, false, not}
use mathlib.Core.List.{List}
use Prim.Native.Nat.{ℕ, ◌+◌, ◌*◌, ◌-◌, ◌/◌, ◌^◌, ◌<◌}
use native.Mathlib.Omega.{arith}
use lib.IntN.{ℤ, pos}
use lib.ListN.{length, get_or}
use Rattle.whole.specs.Within.{Within}
use Rattle.kernel.specs.declared.Kernel.{Kernel}
use Rattle.line.specs.Inner.{Agree}
use Rattle.line.specs.Cells.{Line, low_side, joined, paired, behind}
use Rattle.line.specs.Transform.{low, high, undone_evens, undone_odds, forward, back}
use Rattle.line.proofs.Cells.{by_lt, by_parity, joined_low, joined_high, paired_even, paired_odd}
use Rattle.line.proofs.Local.{low_local, high_local, first_local, second_local}
use Rattle.grid.specs.Buffer.{strided, InBuffer, Taken, Put, Lines}
use Rattle.earlier_passes.specs.Strip.{lane, Small}
use Rattle.earlier_passes.specs.Lines.{line_numbers, Samples, Coefficients, Forward, Back}
use Rattle.earlier_passes.proofs.Strips.{Lanes, lanes_cell}
use Rattle.earlier_passes.specs.Passes.{line_transform, part_step, part_at, Liftable, LiftedStrips, Takes}
use Rattle.earlier_passes.proofs.Places.{even_place, odd_place, high_place, apart}

forward_double : (k : Kernel) (m : ℕ) (X : Line ℤ) → forward k (2 * m) X ≡ joined m (low k m m X) (high k m m X)
unfolding forward
forward_double k m X = let e : 2 * m / 2 ≡ m = omega arith in let f : low_side (2 * m) ≡ m = omega arith in rw (e, f)

back_double : (k : Kernel) (m : ℕ) (Y : Line ℤ) → back k (2 * m) Y ≡ paired (undone_evens k m m Y (behind m Y)) (undone_odds k m m Y (behind m Y))
unfolding back
back_double k m Y = let e : 2 * m / 2 ≡ m = omega arith in let f : low_side (2 * m) ≡ m = omega arith in rw (e, f)

-- ---- what is taken: l has c lines from s on, t apart; X j is line j
module _ (l : List ℤ) (s t m c : ℕ) (a b a' b' : List ℤ) where
  line : ℕ → Line ℤ
  line j = strided (pos 0) l (s + j) t

  place : (n j : ℕ) → get_or l (s + n * t + j) (pos 0) ≡ line j n
  unfolding line
  place n j = ap (λ i. get_or l i (pos 0)) (omega arith)

  module _ (p : Taken (pos 0) l s (2 * t) m c a a') (q : Taken (pos 0) l (s + t) (2 * t) m c b b') where
    even_taken : (n j : ℕ) → n < m → j < c → lane c a' j n ≡ line j (2 * n)
    even_taken n j h k = p.on n j h k ∙ ap (λ i. get_or l i (pos 0)) (even_place s t n j) ∙ place (2 * n) j

    odd_taken : (n j : ℕ) → n < m → j < c → lane c b' j n ≡ line j (2 * n + 1)
    odd_taken n j h k = q.on n j h k ∙ ap (λ i. get_or l i (pos 0)) (odd_place s t n j) ∙ place (2 * n + 1) j

    pairs_taken : (j : ℕ) → j < c → Agree (m + m) (line_numbers c a' b' j) (line j)
    pairs_taken j k = by_parity (λ x. x < m + m → line_numbers c a' b' j x ≡ line j x)
        (λ n h. paired_even (lane c a' j) (lane c b' j) n ∙ even_taken n j (omega arith) k)
        (λ n h. paired_odd (lane c a' j) (lane c b' j) n ∙ odd_taken n j (omega arith) k)

  module _ (p : Taken (pos 0) l s t m c a a') (q : Taken (pos 0) l (s + m * t) t m c b b') where
    low_taken : (j : ℕ) → j < c → Agree m (lane c a' j) (line j)
    low_taken j k n h = p.on n j h k ∙ place n j

    high_taken : (j : ℕ) → j < c → Agree m (lane c b' j) (behind m (line j))
    high_taken j k n h = q.on n j h k ∙ ap (λ i. get_or l i (pos 0)) (high_place s t n j m) ∙ place (m + n) j

-- ---- forward: evens and odds taken, transformed, and put back as lows and highs
module _ (k : Kernel) (l : List ℤ) (s t m c : ℕ) (a b a' b' a'' b'' l₁ l₂ : List ℤ) (i : InBuffer l s t (2 * m) c)
    (p : Taken (pos 0) l s (2 * t) m c a a') (q : Taken (pos 0) l (s + t) (2 * t) m c b b') (f : Forward k m c a' b' a'' b'')
    (u : Put (pos 0) a'' s t m c l l₁) (v : Put (pos 0) b'' (s + m * t) t m c l₁ l₂) where
  forward_low : (n j : ℕ) → n < m → j < c → get_or l₂ (s + n * t + j) (pos 0) ≡ low k m m (line l s t m c a b a' b' j) n
  forward_low n j h r =
      v.off (s + n * t + j) (λ n' j' h' r' e. omega (arith, apart s t c n j (m + n') j' i.apart r r' (e ∙ high_place s t n' j' m)))
      ∙ u.on n j h r ∙ f.lows.on n j (omega arith) h r
      ∙ low_local m m (line_numbers c a' b' j) _ (omega arith) (omega arith) (pairs_taken l s t m c a b a' b' p q j r) k n h

  forward_high : (n j : ℕ) → n < m → j < c → get_or l₂ (s + (m + n) * t + j) (pos 0) ≡ high k m m (line l s t m c a b a' b' j) n
  forward_high n j h r =
      ap (λ x. get_or l₂ x (pos 0)) (sym (high_place s t n j m)) ∙ v.on n j h r ∙ f.highs.on n j (omega arith) h r
      ∙ high_local m m (line_numbers c a' b' j) _ (omega arith) (omega arith) (pairs_taken l s t m c a b a' b' p q j r) k n h

  pub forward_lines : Lines (forward k) (pos 0) s t (2 * m) c l l₂
  unfolding line
  forward_lines = record {
    size = v.size ∙ u.size;
    on = λ n j h r.
        let X = strided (pos 0) l (s + j) t in let L = low k m m X in let D = high k m m X in
        rw (forward_double k m X) (by_lt n m
        (λ lt. forward_low n j lt r ∙ sym (joined_low m L D n lt))
        (λ ge. let e : m + (n - m) ≡ n = omega arith in
        let z : get_or l₂ (s + (m + (n - m)) * t + j) (pos 0) ≡ joined m L D (m + (n - m)) = forward_high (n - m) j (omega arith) r ∙ sym (joined_high m L D (n - m)) in
        rw e at z));
    off = λ x none.
        v.off x (λ n j h r e. none (m + n) j (omega arith) r (e ∙ high_place s t n j m))
        ∙ u.off x (λ n j h r e. none n j (omega arith) r e);
  }

-- ---- back: lows and highs taken, taken back, and put back as evens and odds
module _ (k : Kernel) (l : List ℤ) (s t m c : ℕ) (a b a' b' a'' b'' l₁ l₂ : List ℤ) (i : InBuffer l s t (2 * m) c)
    (p : Taken (pos 0) l s t m c a a') (q : Taken (pos 0) l (s + m * t) t m c b b') (f : Back k m c a' b' a'' b'')
    (u : Put (pos 0) a'' s (2 * t) m c l l₁) (v : Put (pos 0) b'' (s + t) (2 * t) m c l₁ l₂) where
  back_even : (n j : ℕ) → n < m → j < c → let X = line l s t m c a b a' b' j in get_or l₂ (s + 2 * n * t + j) (pos 0) ≡ undone_evens k m m X (behind m X) n
  back_even n j h r =
      v.off (s + 2 * n * t + j) (λ n' j' h' r' e. omega (arith, apart s t c (2 * n) j (2 * n' + 1) j' i.apart r r' (e ∙ odd_place s t n' j')))
      ∙ ap (λ x. get_or l₁ x (pos 0)) (sym (even_place s t n j)) ∙ u.on n j h r ∙ f.evens.on n j (omega arith) h r
      ∙ first_local m m (lane c a' j) (lane c b' j) _ _ (omega arith) (low_taken l s t m c a b a' b' p q j r) (high_taken l s t m c a b a' b' p q j r) k n h

  back_odd : (n j : ℕ) → n < m → j < c → let X = line l s t m c a b a' b' j in get_or l₂ (s + (2 * n + 1) * t + j) (pos 0) ≡ undone_odds k m m X (behind m X) n
  back_odd n j h r =
      ap (λ x. get_or l₂ x (pos 0)) (sym (odd_place s t n j)) ∙ v.on n j h r ∙ f.odds.on n j (omega arith) h r
      ∙ second_local m m (lane c a' j) (lane c b' j) _ _ (omega arith) (low_taken l s t m c a b a' b' p q j r) (high_taken l s t m c a b a' b' p q j r) k n h

  pub back_lines : Lines (back k) (pos 0) s t (2 * m) c l l₂
  unfolding line
  back_lines = record {
    size = v.size ∙ u.size;
    on = λ n j h r.
        let X = strided (pos 0) l (s + j) t in let E = undone_evens k m m X (behind m X) in let O = undone_odds k m m X (behind m X) in
        rw (back_double k m X) (by_parity (λ x. x < 2 * m → get_or l₂ (s + x * t + j) (pos 0) ≡ paired E O x)
        (λ x lt. back_even x j (omega arith) r ∙ sym (paired_even E O x))
        (λ x lt. back_odd x j (omega arith) r ∙ sym (paired_odd E O x)) n h);
    off = λ x none.
        v.off x (λ n j h r e. none (2 * n + 1) j (omega arith) r (e ∙ odd_place s t n j))
        ∙ u.off x (λ n j h r e. none (2 * n) j (omega arith) r (e ∙ even_place s t n j));
  }

-- ---- what the lifting asks of the numbers that are taken
small_of : (r m c : ℕ) (x : List ℤ) → ((n j : ℕ) → n < m → j < c → Within r (lane c x j n)) → Small r (m * c) x
small_of r m c x all = let lanes : Lanes r m c x = record { each = λ j k n h. all n j h k } in record { each = lanes_cell lanes }

module _ (l : List ℤ) (s t m c : ℕ) (a b a' b' : List ℤ) where
  pub samples_taken : Taken (pos 0) l s (2 * t) m c a a' → Taken (pos 0) l (s + t) (2 * t) m c b b'
      → ((j : ℕ) → j < c → Takes false (2 * m) (strided (pos 0) l (s + j) t)) → Samples (m * c) a' b'
  unfolding line
  samples_taken p q all = record {
    evens = small_of (2 ^ 29) m c a' (λ n j h k. rw (even_taken l s t m c a b a' b' p q n j h k) ((all j k).takes (2 * n) (omega arith)));
    odds = small_of (2 ^ 29) m c b' (λ n j h k. rw (odd_taken l s t m c a b a' b' p q n j h k) ((all j k).takes (2 * n + 1) (omega arith)));
  }

  pub coefficients_taken : Taken (pos 0) l s t m c a a' → Taken (pos 0) l (s + m * t) t m c b b'
      → ((j : ℕ) → j < c → Takes true (2 * m) (strided (pos 0) l (s + j) t)) → Coefficients (m * c) a' b'
  unfolding line
  coefficients_taken p q all = let e : 2 * m / 2 ≡ m = omega arith in record {
    lows = small_of (2 ^ 30) m c a' (λ n j h k. rw (low_taken l s t m c a b a' b' p q j k n h) ((rw e at (all j k).takes).0 n h));
    highs = small_of (2 ^ 24) m c b' (λ n j h k. rw (high_taken l s t m c a b a' b' p q j k n h) ((rw e at (all j k).takes).1 n h));
  }

-- ---- either way
module _ (l : List ℤ) (s t m c : ℕ) (a b a' b' : List ℤ) where
  pub parts_taken : (undo : Bool) → Taken (pos 0) l s (part_step (not undo) t) m c a a' → Taken (pos 0) l (s + part_at (not undo) t m) (part_step (not undo) t) m c b b'
      → ((j : ℕ) → j < c → Takes undo (2 * m) (strided (pos 0) l (s + j) t)) → Liftable undo (m * c) a' b'
  parts_taken false = samples_taken l s t m c a b a' b'
  parts_taken true = coefficients_taken l s t m c a b a' b'

pub lifted_sizes : (undo : Bool) (k : Kernel) (m c : ℕ) (a b a' b' : List ℤ) → LiftedStrips undo k m c a b a' b' → (length a' ≡ length a) × (length b' ≡ length b)
lifted_sizes false k m c a b a' b' f = (f.lows.size, f.highs.size)
lifted_sizes true k m c a b a' b' f = (f.evens.size, f.odds.size)

pub lines_done : (undo : Bool) (k : Kernel) (l : List ℤ) (s t m c : ℕ) (a b a' b' a'' b'' l₁ l₂ : List ℤ) → InBuffer l s t (2 * m) c
    → Taken (pos 0) l s (part_step (not undo) t) m c a a' → Taken (pos 0) l (s + part_at (not undo) t m) (part_step (not undo) t) m c b b' → LiftedStrips undo k m c a' b' a'' b''
    → Put (pos 0) a'' s (part_step undo t) m c l l₁ → Put (pos 0) b'' (s + part_at undo t m) (part_step undo t) m c l₁ l₂ → Lines (line_transform undo k) (pos 0) s t (2 * m) c l l₂
lines_done false = forward_lines
lines_done true = back_lines
