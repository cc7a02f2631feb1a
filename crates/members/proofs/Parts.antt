-- Cells of a part of a list. Assumes nothing.
use mathlib.Core.Path.{◌≡◌, refl, sym, ap, ◌∙◌}
use mathlib.Core.Logic.{◌⊎◌, inl, inr}
use mathlib.Core.Bool.{true, false}
use mathlib.Core.List.{List, ◌∷◌}
use Prim.Native.Nat.{ℕ, ◌+◌, ◌-◌, ◌<◌, ◌≤◌}
use native.Mathlib.Omega.{arith}
use lib.Dec.{eqb}
use lib.ListN.{length, get_or, drop, take, length-drop}
use Rattle.std.proofs.lemmas.List.{drop-drop}
use lib.Seq.{get_or-take, get_or-drop}
use Rattle.bitplane.specs.Body.{class}
use lib.IntN.{ℤ}
use Rattle.members.specs.Collection.{Listed, Collected}
use Rattle.members.proofs.Collection.{member_fits}
use Rattle.bitplane.proofs.Classes.{class_test, class_on, class_off}

pub part_cell : {A : Type 0} (l : List A) (from to k : ℕ) (d : A) → from + k < to → get_or (take (to - from) (drop from l)) k d ≡ get_or l (from + k) d
part_cell l from to k d h = get_or-take (to - from) (drop from l) k d (omega arith) ∙ get_or-drop from l k d

-- ---- the classes of a part of a mask
module _ (mask : List ℕ) (c from to k : ℕ) (inside : from + k < to) (within : from + k < length mask) where
  pub part_test : eqb (get_or (take (to - from) (drop from mask)) k 0) c ≡ class mask c (from + k)
  part_test = ap (λ m. eqb m c) (part_cell mask from to k 0 inside) ∙ class_test mask c (from + k) within

  pub part_on : get_or (take (to - from) (drop from mask)) k 0 ≡ c → class mask c (from + k) ≡ true
  part_on e = class_on mask c (from + k) within (sym (part_cell mask from to k 0 inside) ∙ e)

  pub part_off : (get_or (take (to - from) (drop from mask)) k 0 ≡ c → ⊥) → class mask c (from + k) ≡ false
  part_off n = class_off mask c (from + k) within (λ e. n (part_cell mask from to k 0 inside ∙ e))

-- ---- a member of the part, where a list has the members before it: it fits into the list
pub part_fits : {mask : List ℕ} {c n m size : ℕ} {Z D : ℕ → ℤ} (from to k : ℕ) → Listed mask c n size → from + k < to → to ≤ n → get_or (take (to - from) (drop from mask)) k 0 ≡ c → Collected (class mask c) Z (from + k) D m
    → (m < size) × (m < 16777216)
part_fits {mask} {c} from to k l h g e x = member_fits l (part_on mask c from to k h (omega (arith, l.over)) e) (omega arith) x

-- ---- a list that is gone over together with another: what is left of it, and its end
pub left_first : {A : Type 0} {x : A} {r : List A} (l : List A) (n : ℕ) (d : A) → drop n l ≡ x ∷ r → (n < length l) × (x ≡ get_or l n d) × (r ≡ drop (n + 1) l)
left_first l n d e =
    let z : n + 0 ≡ n = omega arith in
    (omega (arith, length-drop n l, ap length e), sym (ap (λ m. get_or m 0 d) e) ∙ get_or-drop n l 0 d ∙ rw z refl, sym (ap (drop 1) e) ∙ drop-drop 1 n l)

pub both_ended : {S T : Type 0} {P : S → Type 0} {Q : T → Type 0} {n m : ℕ} → ((u : S) × ((n ≡ 0) × P u)) ⊎ ((u : T) × ((m ≡ 0) × Q u)) → n ≡ m → n ≡ 0
both_ended (inl u) e = u.1.0
both_ended (inr u) e = e ∙ u.1.0
