-- The laws by which a proof walks an ordered list of tests: `search ordered depth 20 fits 3000` answers each return of a chain of tests that
-- returns the refusal of the first that holds. Assumes nothing.
use mathlib.Core.Path.{◌≡◌, refl, sym, ◌∙◌}
use mathlib.Core.Bool.{Bool, true, false, not, ◌&&◌, false≢true}
use mathlib.Core.List.{List, [], ◌∷◌, ◌++◌}
use Prim.Native.Nat.{ℕ, zero, suc, ◌<◌, ◌≤◌}
use native.Mathlib.Omega.{arith}
use borrow.Author.Rules.{rules}
use borrow.Author.Tests.{lt-ltb, le-ltb, le-leb, lt-leb, leb-true, eq-eqb, ne_eqb}
use lib.Dec.{leb, eqb, eqb-suc-zero}
use Rattle.line.specs.Cells.{choose}
use Rattle.line.proofs.Marks.{and_parts}
use Rattle.refusal.specs.Numbers.{Test, test, first, accepted}
use Rattle.refusal.specs.Results.{Result}

pub none : 0 ≡ first []
unfolding first
none = refl

pub here : (b : Bool) (n : ℕ) (ts : List Test) → b ≡ true → n ≡ first (test b n ∷ ts)
unfolding first
here b n ts e = rw e

pub next : (b : Bool) (m n : ℕ) (ts : List Test) → b ≡ false → m ≡ first ts → m ≡ first (test b n ∷ ts)
unfolding first
next b m n ts e h = rw e h

-- a negated test
pub is : (b : Bool) → b ≡ true → not b ≡ false
is b e = rw e

pub isnt : (b : Bool) → b ≡ false → not b ≡ true
isnt b e = rw e

-- of two numbers one of which is less, that they are equal
pub less : (a b : ℕ) → a < b → eqb a b ≡ false
less a b h = ne_eqb a b (omega arith)

pub more : (a b : ℕ) → b < a → eqb a b ≡ false
more a b h = ne_eqb a b (omega arith)

-- a test that a function computes: what the branch on its answer told
pub told : (b r t : Bool) → r ≡ b → r ≡ t → b ≡ t
told b r t e h = sym e ∙ h

pub ruleset ordered = (none, here, next, is, isnt, less, more, told, lt-ltb, le-ltb, le-leb, lt-leb, eq-eqb, ne_eqb, rules)

-- ---- what an entry returns: a buffer under a refusal, and that of an accepted call
module _ {A : Type 0} {o : A} {f : ℕ → A} {l : List A} (ts : List Test) where
  pub refused : {n : ℕ} → suc n ≡ first ts → (suc n ≡ first ts) × Result o (accepted ts) f l l
  refused {n} e = (e, record { size = refl; cell = λ i h. rw (← e, eqb-suc-zero n) })

  pub done : {l' : List A} → 0 ≡ first ts → Result o true f l l' → (0 ≡ first ts) × Result o (accepted ts) f l l'
  done e r = (e, rw (← e) r)

-- the same of an entry that fills two buffers
module _ {A B : Type 0} {o : A} {p : B} {f : ℕ → A} {g : ℕ → B} {l : List A} {m : List B} (ts : List Test) where
  pub refused_both : {n : ℕ} → suc n ≡ first ts → (suc n ≡ first ts) × (Result o (accepted ts) f l l × Result p (accepted ts) g m m)
  refused_both e = (e, ((refused ts e).1, (refused ts e).1))

  pub done_both : {l' : List A} {m' : List B} → 0 ≡ first ts → Result o true f l l' → Result p true g m m'
      → (0 ≡ first ts) × (Result o (accepted ts) f l l' × Result p (accepted ts) g m m')
  done_both e r t = (e, ((done ts e r).1, (done ts e t).1))

-- ---- a call that is accepted: each test fails
pub passes_test : (b : Bool) (n : ℕ) (ts : List Test) → accepted (test b (suc n) ∷ ts) ≡ true → (b ≡ false) × (accepted ts ≡ true)
unfolding first
passes_test false n ts e = (refl, e)
passes_test true n ts e = absurd (false≢true (sym (eqb-suc-zero n) ∙ e))

-- ---- tests behind tests
-- no test of a list refuses with number 0; of a list that is written out this computes
unfoldable pub numbered : List Test → Bool
numbered [] = true
numbered (test b zero ∷ ts) = false
numbered (test b (suc n) ∷ ts) = numbered ts

-- no number of a list is above n; of a list that is written out this computes
unfoldable pub upto : ℕ → List Test → Bool
upto n [] = true
upto n (test b m ∷ ts) = leb m n && upto n ts

pub first-upto : (n : ℕ) (ts : List Test) → upto n ts ≡ true → first ts ≤ n
unfolding first upto
first-upto n [] e = omega arith
first-upto n (test true m ∷ ts) e = leb-true m n (and_parts (leb m n) _ e).0
first-upto n (test false m ∷ ts) e = first-upto n ts (and_parts (leb m n) _ e).1

module _ (us : List Test) where
  pub first-append : (ts : List Test) → numbered ts ≡ true → first (ts ++ us) ≡ choose (accepted ts) (first us) (first ts)
  unfolding first numbered
  first-append [] p = refl
  first-append (test b zero ∷ ts) p = absurd (false≢true p)
  first-append (test true (suc n) ∷ ts) p = rw (eqb-suc-zero n)
  first-append (test false (suc n) ∷ ts) p = first-append ts p

  pub accepted_both : (ts : List Test) → numbered ts ≡ true → accepted (ts ++ us) ≡ true → (accepted ts ≡ true) × (accepted us ≡ true)
  unfolding first numbered
  accepted_both [] p e = (refl, e)
  accepted_both (test b zero ∷ ts) p e = absurd (false≢true p)
  accepted_both (test true (suc n) ∷ ts) p e = absurd (false≢true (sym (eqb-suc-zero n) ∙ e))
  accepted_both (test false (suc n) ∷ ts) p e = accepted_both ts p e

  pub accepted_join : (ts : List Test) → accepted ts ≡ true → accepted us ≡ true → accepted (ts ++ us) ≡ true
  unfolding first
  accepted_join [] e f = f
  accepted_join (test true n ∷ ts) e f = e
  accepted_join (test false n ∷ ts) e f = accepted_join ts e f

-- ---- a test between tests
pub first_between : (ts us : List Test) (b : Bool) (n : ℕ) → numbered ts ≡ true → first (ts ++ (test b n ∷ us)) ≡ choose (accepted ts && b) n (first (ts ++ us))
unfolding first numbered
first_between [] us b n p = refl
first_between (test b zero ∷ ts) us c n p = absurd (false≢true p)
first_between (test true (suc m) ∷ ts) us c n p = rw (eqb-suc-zero m)
first_between (test false (suc m) ∷ ts) us c n p = first_between ts us c n p
