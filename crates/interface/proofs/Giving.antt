-- Result numbers given, one list behind another. Assumes nothing.
use mathlib.Core.Path.{◌≡◌, refl, sym, ap, ◌∙◌, subst}
use mathlib.Core.List.{List, ◌++◌}
use Prim.Native.Nat.{ℕ, ◌+◌, ◌-◌, ◌<◌, ◌≤◌}
use native.Mathlib.Omega.{arith}
use lib.ListN.{length, get_or, set, length-set, length-append, get_or-append}
use lib.Seq.{get_or-set_same, get_or-set_other, get_or-append-add}
use Rattle.line.proofs.Cells.{by_lt}
use Rattle.interface.specs.Results.{GivenAt}

pub given_eq : {at : ℕ} {v w l m : List ℕ} → v ≡ w → GivenAt at v l m → GivenAt at w l m
given_eq {at} {v} {w} {l} {m} e g = subst (λ (t : List ℕ). GivenAt at t l m) e g

-- one list behind another
pub given_both : {at end : ℕ} {vs ws l m n : List ℕ} → end ≡ at + length vs → GivenAt at vs l m → GivenAt end ws m n → GivenAt at (vs ++ ws) l n
given_both {at} {end} {vs} {ws} {l} {m} {n} e a b = record {
  size = b.size ∙ a.size;
  on = λ i h r. by_lt i (length vs)
      (λ lt. b.before (at + i) (omega arith) ∙ a.on i lt r ∙ rw (get_or-append vs ws 0 i lt) refl)
      (λ ge. let k : ℕ = i - length vs in
      let p : at + i ≡ end + k = omega arith in let q : i ≡ length vs + k = omega arith in
      ap (λ z. get_or n z 0) p ∙ b.on k (omega (arith, length-append vs ws)) (omega (arith, a.size)) ∙ sym (ap (λ z. get_or (vs ++ ws) z 0) q ∙ get_or-append-add vs ws k 0));
  before = λ i h. b.before i (omega arith) ∙ a.before i h;
  behind = λ i h. b.behind i (omega (arith, length-append vs ws)) ∙ a.behind i (omega (arith, length-append vs ws));
}
