-- A class that has no member: its passes read nothing, write nothing, and are missed only past the end. Assumes nothing.
use mathlib.Core.Path.{◌≡◌, refl, ap, ◌∙◌}
use mathlib.Core.Bool.{Bool, true, false}
use mathlib.Core.List.{List, []}
use Prim.Native.Nat.{ℕ, zero, suc, ◌+◌, ◌<◌, ◌≤◌}
use native.Mathlib.Omega.{arith}
use lib.Dec.{leb}
use lib.IntN.{ℤ}
use lib.ListN.{length, get_or}
use Rattle.line.specs.Cells.{choose, total, count}
use Rattle.line.proofs.Cells.{by_lt, by_bool}
use Rattle.line.proofs.Counts.{count_parted}
use Rattle.bitplane.specs.Body.{class, one_plane, planes, pass_bits, body}
use Rattle.bitplane.specs.Reader.{Received, Reading, place, pass, read, missing}
use Rattle.bitplane.proofs.Classes.{class_past, classes_apart}
use Rattle.bitplane.proofs.Passes.{reading_eq}

-- ---- a coefficient of another class stays
pub read_other : (h : Received) (n : ℕ) (on : ℕ → Bool) (T : ℕ) (r : Reading) (i : ℕ) → on i ≡ false → (read h n (planes on T) r).value i ≡ r.value i
unfolding read planes
read_other h n on zero r i o = refl
read_other h n on (suc t) r i o = read_other h n on t (pass h n (one_plane on t) r) i o ∙ rw o

-- ---- nothing is read
all_or_none : (b : Bool) (t : ℕ) → choose b 0 1 + choose b 0 t ≡ choose b 0 (suc t)
all_or_none true t = refl
all_or_none false t = omega arith

module _ (h : Received) (n : ℕ) (on : ℕ → Bool) (none : (i : ℕ) → on i ≡ false) where
  place_none : (t : ℕ) (r : Reading) (i : ℕ) → place h (one_plane on t) r i ≡ r.at
  unfolding place
  place_none t r zero = refl
  place_none t r (suc i) = rw (none i) (omega (arith, place_none t r i))

  pass_none : (t : ℕ) (r : Reading) → pass h n (one_plane on t) r ≡ r
  pass_none t r = reading_eq (λ i. rw (none i)) (place_none t r n)

  pub read_none : (T : ℕ) (r : Reading) → read h n (planes on T) r ≡ r
  unfolding read planes
  read_none zero r = refl
  read_none (suc t) r = ap (read h n (planes on t)) (pass_none t r) ∙ read_none t r

  pub missing_none : (T : ℕ) (r : Reading) → missing h n (planes on T) r ≡ choose (leb r.at h.size) 0 T
  unfolding missing planes
  missing_none zero r = by_bool (leb r.at h.size) (λ e. rw e) (λ e. rw e)
  missing_none (suc t) r = rw (pass_none t r, place_none t r n, missing_none t r) (all_or_none (leb r.at h.size) t)

-- ---- nothing is written
module _ (Z : ℕ → ℤ) (on : ℕ → Bool) where
  pub bits_none : (t n : ℕ) → ((i : ℕ) → i < n → on i ≡ false) → pass_bits (one_plane on t) Z n ≡ []
  unfolding pass_bits
  bits_none t zero none = refl
  bits_none t (suc n) none = rw (none n (omega arith), bits_none t n (λ i h. none i (omega arith)))

  pub body_none : (T n : ℕ) → ((i : ℕ) → i < n → on i ≡ false) → body (planes on T) Z n ≡ []
  unfolding body planes
  body_none zero n none = refl
  body_none (suc t) n none = rw (bits_none t n none, body_none t n none)

-- ---- which class has no member, by the number of marks
pub count_none : (n : ℕ) (on : ℕ → Bool) → count n on ≡ 0 → (i : ℕ) → i < n → on i ≡ false
unfolding count total
count_none zero on e i h = absurd (omega arith)
count_none (suc n) on e i h = by_lt i n
    (count_none n on (omega arith) i)
    (λ ge. let d : i ≡ n = omega arith in rw d (by_bool (on n) (λ o. absurd (omega (arith, ap (λ (b : Bool). choose {A = ℕ} b 1 0) o))) (λ o. o)))

module _ (mask : List ℕ) where
  pub class_empty : (c : ℕ) → c < 2 → count (length mask) (class mask c) ≡ 0 → (i : ℕ) → class mask c i ≡ false
  class_empty c h e i = by_lt i (length mask) (count_none (length mask) (class mask c) e i) (class_past mask c i h)

  module _ (marks : (i : ℕ) → i < length mask → get_or mask i 2 < 2) where
    pub classes_count : (n : ℕ) → n ≤ length mask → count n (class mask 0) + count n (class mask 1) ≡ n
    classes_count n h = omega (arith, count_parted (class mask 1) (class mask 0) n (λ i lt. classes_apart mask i (marks i (omega arith))))
