-- Pairs of rows, a row of lows and one of highs, that a sweep over a level places, begins and ends, one stage behind the other. The last pair of an odd
-- number of rows has no row of highs.
--
--   counts M K c          == M for rows of lows, K for rows of highs
--   Apart at m w          == of pairs of rows of w numbers, m of each kind, which begin at `at`, different pairs have different places
--   Changed at m w d f l l'
--                         == l' is l but for the pairs d up to f
--   Swept at P B D m w u e b q l
--                         == so far l is u with the numbers D in its first e pairs, B in those up to b and P in those up to q
--   Ahead m n b q         == pairs are begun up to b and placed up to q, of m, when the first n are ended
--   begun_to m n          == how far pairs are begun, of m, when pair n is ended
--   placed_to m n         == how far they are placed
--
-- Assumes nothing.
use mathlib.Core.Path.{◌≡◌, refl, ◌∙◌}
use mathlib.Core.Bool.{Bool, true, false}
use mathlib.Core.List.{List}
use Prim.Native.Nat.{ℕ, ◌+◌, ◌-◌, ◌<◌, ◌≤◌, min}
use native.Mathlib.Omega.{arith}
use lib.IntN.{ℤ}
use lib.ListN.{length}
use Rattle.line.specs.Cells.{Line, cell}
use Rattle.line.proofs.Cells.{by_lt}

-- how many rows of lows there are, and of highs
abbrev pub counts : ℕ → ℕ → Bool → ℕ
counts M K false = M
counts M K true = K

abbrev pub Apart : (Bool → ℕ → ℕ) → (Bool → ℕ) → ℕ → Type 0
Apart at m w = (c c' : Bool) (i i' x x' : ℕ) → i < m c → i' < m c' → x < w → x' < w → at c i + x ≡ at c' i' + x' → i ≡ i'

pub record Changed (at : Bool → ℕ → ℕ) (m : Bool → ℕ) (w d f : ℕ) (l l' : List ℤ) : Type 0 where
  pub size : length l' ≡ length l
  pub off : (j : ℕ) → ((c : Bool) (i x : ℕ) → d ≤ i → i < f → i < m c → x < w → j ≡ at c i + x → ⊥) → cell l' j ≡ cell l j

pub record Swept (at : Bool → ℕ → ℕ) (P B D : Bool → ℕ → Line ℤ) (m : Bool → ℕ) (w : ℕ) (u : List ℤ) (e b q : ℕ) (l : List ℤ) : Type 0 where
  pub size : length l ≡ length u
  pub done : (c : Bool) (i x : ℕ) → i < e → i < m c → x < w → cell l (at c i + x) ≡ D c i x
  pub begun : (c : Bool) (i x : ℕ) → e ≤ i → i < b → i < m c → x < w → cell l (at c i + x) ≡ B c i x
  pub placed : (c : Bool) (i x : ℕ) → b ≤ i → i < q → i < m c → x < w → cell l (at c i + x) ≡ P c i x
  pub left : (c : Bool) (i x : ℕ) → q ≤ i → i < m c → x < w → cell l (at c i + x) ≡ cell u (at c i + x)
  pub off : (j : ℕ) → ((c : Bool) (i x : ℕ) → i < m c → x < w → j ≡ at c i + x → ⊥) → cell l j ≡ cell u j

pub swept_none : {at : Bool → ℕ → ℕ} {P B D : Bool → ℕ → Line ℤ} {m : Bool → ℕ} {w : ℕ} {u : List ℤ} → Swept at P B D m w u 0 0 0 u
swept_none = record {
  size = refl;
  done = λ c i x h. absurd (omega arith);
  begun = λ c i x a b. absurd (omega arith);
  placed = λ c i x a b. absurd (omega arith);
  left = λ c i x a b h. refl;
  off = λ j no. refl;
}

module _ {at : Bool → ℕ → ℕ} {m : Bool → ℕ} {w : ℕ} (apart : Apart at m w) where
  module _ {d f : ℕ} {l l' : List ℤ} (p : Changed at m w d f l l') (c : Bool) (i x : ℕ) (k : i < m c) (h : x < w) where
    pair_before : i < d → cell l' (at c i + x) ≡ cell l (at c i + x)
    pair_before lt = p.off (at c i + x) (λ c' i' x' a b k' q e. omega (arith, apart c c' i i' x x' k k' h q e))

    pair_behind : f ≤ i → cell l' (at c i + x) ≡ cell l (at c i + x)
    pair_behind ge = p.off (at c i + x) (λ c' i' x' a b k' q e. omega (arith, apart c c' i i' x x' k k' h q e))

  -- ---- one stage more
  module _ {P B D : Bool → ℕ → Line ℤ} {u : List ℤ} {e b q : ℕ} {l l' : List ℤ} (p : Swept at P B D m w u e b q l) where
    pub place_more : {f : ℕ} → e ≤ b → b ≤ q → q ≤ f → Changed at m w q f l l' → ((c : Bool) (i x : ℕ) → q ≤ i → i < f → i < m c → x < w → cell l' (at c i + x) ≡ P c i x)
        → Swept at P B D m w u e b f l'
    place_more eb bq qf t new = record {
      size = t.size ∙ p.size;
      done = λ c i x h k r. pair_before t c i x k r (omega arith) ∙ p.done c i x h k r;
      begun = λ c i x a h k r. pair_before t c i x k r (omega arith) ∙ p.begun c i x a h k r;
      placed = λ c i x a h k r. by_lt i q (λ lt. pair_before t c i x k r lt ∙ p.placed c i x a lt k r) (λ ge. new c i x ge h k r);
      left = λ c i x a k r. pair_behind t c i x k r a ∙ p.left c i x (omega arith) k r;
      off = λ j no. t.off j (λ c i x a h k r. no c i x k r) ∙ p.off j no;
    }

    pub begin_more : {f : ℕ} → e ≤ b → b ≤ f → f ≤ q → Changed at m w b f l l' → ((c : Bool) (i x : ℕ) → b ≤ i → i < f → i < m c → x < w → cell l' (at c i + x) ≡ B c i x)
        → Swept at P B D m w u e f q l'
    begin_more {f} eb bf fq t new = record {
      size = t.size ∙ p.size;
      done = λ c i x h k r. pair_before t c i x k r (omega arith) ∙ p.done c i x h k r;
      begun = λ c i x a h k r. by_lt i b (λ lt. pair_before t c i x k r lt ∙ p.begun c i x a lt k r) (λ ge. new c i x ge h k r);
      placed = λ c i x a h k r. pair_behind t c i x k r a ∙ p.placed c i x (omega arith) h k r;
      left = λ c i x a k r. pair_behind t c i x k r (omega arith) ∙ p.left c i x a k r;
      off = λ j no. t.off j (λ c i x a h k r. no c i x k r) ∙ p.off j no;
    }

    pub end_more : e < b → b ≤ q → Changed at m w e (e + 1) l l' → ((c : Bool) (x : ℕ) → e < m c → x < w → cell l' (at c e + x) ≡ D c e x) → Swept at P B D m w u (e + 1) b q l'
    end_more eb bq t new = record {
      size = t.size ∙ p.size;
      done = λ c i x h k r. by_lt i e (λ lt. pair_before t c i x k r lt ∙ p.done c i x lt k r) (λ ge. let z : i ≡ e = omega arith in let k' = rw z at k in rw z (new c x k' r));
      begun = λ c i x a h k r. pair_behind t c i x k r a ∙ p.begun c i x (omega arith) h k r;
      placed = λ c i x a h k r. pair_behind t c i x k r (omega arith) ∙ p.placed c i x a h k r;
      left = λ c i x a k r. pair_behind t c i x k r (omega arith) ∙ p.left c i x a k r;
      off = λ j no. t.off j (λ c i x a h k r. no c i x k r) ∙ p.off j no;
    }

-- ---- one pair less is left
pub fewer : (m n : ℕ) → n < m → m - (n + 1) < m - n
fewer m n h = omega arith

-- ---- how far the stages are ahead of each other
pub record Ahead (m n b q : ℕ) : Type 0 where
  pub near : n ≤ b
  pub most : b ≤ n + 2
  pub order : b ≤ q
  pub room : q ≤ n + 4
  pub top : q ≤ m
  pub far : b < m → n ≤ b - 2

pub ahead_none : (m : ℕ) → Ahead m 0 0 0
ahead_none m = record { near = omega arith; most = omega arith; order = omega arith; room = omega arith; top = omega arith; far = λ h. omega arith }

abbrev pub begun_to : ℕ → ℕ → ℕ
begun_to m n = min (n + 3) m

abbrev pub placed_to : ℕ → ℕ → ℕ
placed_to m n = min (n + 5) m

module _ {m n b q f g : ℕ} (h : n < m) (s : Ahead m n b q) (x : f ≡ begun_to m n) (y : g ≡ placed_to m n) where
  pub ahead_more : Ahead m (n + 1) f g
  ahead_more = record {
    near = omega (arith, x);
    most = omega (arith, x);
    order = omega (arith, x, y);
    room = omega (arith, y);
    top = omega (arith, y);
    far = λ l. omega (arith, x);
  }

  pub more_begun : b ≤ f
  more_begun = omega (arith, x, s.most, s.order, s.top)

  pub more_placed : q ≤ g
  more_placed = omega (arith, y, s.room, s.top)

  pub begin_ahead : min (f + 2) m ≤ g
  begin_ahead = rw (x, y) (omega arith)

  pub end_ahead : min (n + 2) m ≤ f
  end_ahead = rw x (omega arith)

  pub far_back : b < f → n ≤ b - 2
  far_back l = s.far (omega (arith, x))
