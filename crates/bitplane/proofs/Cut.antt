-- A cut body is read as the uncut one, as far as it was received.
--
--   Front g h    == g is the front of h: no longer, and with the same bits as far as it goes
--   AllUpto n xs == no pass of xs gives a coefficient from n on
--
-- Assumes nothing.
use mathlib.Core.Path.{◌≡◌, refl, sym}
use mathlib.Core.Bool.{Bool, true, false}
use mathlib.Core.List.{List, [], ◌∷◌}
use Prim.Native.Nat.{ℕ, zero, suc, ◌+◌, ◌*◌, ◌/◌, ◌^◌, ◌<◌, ◌≤◌}
use native.Mathlib.Nat.{zero-mul}
use native.Mathlib.Omega.{arith}
use lib.Dec.{ltb}
use lib.IntN.{ℤ, pos, negsuc}
use lib.ListN.{take, length-take}
use lib.Seq.{get_or-take}
use borrow.Author.Tests.{lt-ltb}
use Rattle.line.specs.Cells.{choose}
use Rattle.line.proofs.Cells.{by_lt}
use Rattle.bitplane.specs.Bits.{bit_at, signed}
use Rattle.bitplane.specs.Body.{Pass, Order, planes}
use Rattle.bitplane.specs.Reader.{Received, received, Reading, used, grown, taken, place, pass, read}
use Rattle.bitplane.proofs.Passes.{below_suc, signed-zero, zero_either, reading_eq, Upto}
use Rattle.bitplane.proofs.Past.{read_up}

-- ---- two bodies that agree as far as place e, both received as far
record Alike (e : ℕ) (g h : Received) : Type 0 where
  bit : (p : ℕ) → p < e → g.bit p ≡ h.bit p
  left : e ≤ g.size
  right : e ≤ h.size

module _ (e : ℕ) (g h : Received) (a : Alike e g h) where
  -- a coefficient whose bits end before e
  cell_alike : (t p : ℕ) (v : ℤ) (c : Bool) → p + choose c (used v (g.bit p)) 0 ≤ e
      → (choose c (used v (h.bit p)) 0 ≡ choose c (used v (g.bit p)) 0) × (choose c (taken h t v p) v ≡ choose c (taken g t v p) v)
  unfolding used grown
  cell_alike t p v false f = (refl, refl)
  cell_alike t p (pos (suc m)) true f = simp (a.bit p (omega arith)) (refl, refl)
  cell_alike t p (negsuc m) true f = simp (a.bit p (omega arith)) (refl, refl)
  cell_alike t p (pos zero) true f = first (g.bit p) (h.bit p) (a.bit p (omega arith)) f
    where
      first : (b c : ℕ) → b ≡ c → p + suc b ≤ e
          → (suc c ≡ suc b) × (choose (ltb (suc p) h.size) (signed (h.bit (suc p)) (c * 2 ^ t)) (pos 0) ≡ choose (ltb (suc p) g.size) (signed (g.bit (suc p)) (b * 2 ^ t)) (pos 0))
      first zero c d k = simp (sym d, zero-mul, signed-zero, zero_either) (refl, refl)
      first (suc b) c d k = simp (sym d, a.bit (suc p) (omega arith), lt-ltb (suc p) g.size (omega (arith, a.left)), lt-ltb (suc p) h.size (omega (arith, a.right))) (refl, refl)

  pass_alike : (x : Pass) (r : Reading) (n : ℕ) → place g x r n ≤ e
      → (place h x r n ≡ place g x r n) × ((i : ℕ) → i < n → (pass h n x r).value i ≡ (pass g n x r).value i)
  unfolding place
  pass_alike x r zero f = (refl, λ i k. absurd (omega arith))
  pass_alike x r (suc n) f =
      let b = pass_alike x r n (omega arith) in
      let c = cell_alike x.plane (place g x r n) (r.value n) (x.on n) f in
      (rw (b.0, c.0), below_suc _ n b.1 (rw b.0 c.1))

unfoldable pub AllUpto : ℕ → Order → Type 0
AllUpto n [] = Unit
AllUpto n (x ∷ xs) = Upto n x × AllUpto n xs

pub planes_upto : (n : ℕ) (on : ℕ → Bool) (T : ℕ) → ((i : ℕ) → n ≤ i → on i ≡ false) → AllUpto n (planes on T)
unfolding planes AllUpto
planes_upto n on zero u = tt
planes_upto n on (suc t) u = (u, planes_upto n on t u)

-- passes that end before e in g read the same in h
read_alike : (e n : ℕ) (g h : Received) → Alike e g h → (xs : Order) (r : Reading) → AllUpto n xs → (read g n xs r).at ≤ e → read h n xs r ≡ read g n xs r
unfolding read AllUpto
read_alike e n g h a [] r u f = refl
read_alike e n g h a (x ∷ xs) r u f =
    let b = pass_alike e g h a x r n (omega (arith, read_up g n xs (pass g n x r))) in
    let c : pass h n x r ≡ pass g n x r = reading_eq (λ i. by_lt i n (b.1 i) (λ ge. rw (u.0 i ge))) b.0 in
    rw c (read_alike e n g h a xs (pass g n x r) u.1 f)

-- ---- the front of a body
pub record Front (g h : Received) : Type 0 where
  pub size : g.size ≤ h.size
  pub bit : (p : ℕ) → p < g.size → g.bit p ≡ h.bit p

module _ {g h : Received} (f : Front g h) (n : ℕ) (xs : Order) (r : Reading) (u : AllUpto n xs) where
  -- the front received these passes wholly
  pub read_whole : (read g n xs r).at ≤ g.size → read h n xs r ≡ read g n xs r
  read_whole = read_alike g.size n g h (record { bit = f.bit; left = omega arith; right = f.size }) xs r u

  -- the whole body's passes end within the front
  pub read_within : (read h n xs r).at ≤ g.size → read h n xs r ≡ read g n xs r
  read_within k = sym (read_alike g.size n h g (record { bit = λ p l. sym (f.bit p l); left = f.size; right = omega arith }) xs r u k)

-- the first k bytes of a body
pub front_of : (k : ℕ) (l : List ℕ) → Front (received (take k l)) (received l)
unfolding bit_at
front_of k l = record {
  size = omega (arith, length-take k l);
  bit = λ p h. rw (get_or-take k l (p / 8) 0 (omega (arith, length-take k l)));
}
