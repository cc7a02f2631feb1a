-- What the loops of the writer keep. Assumes nothing.
use mathlib.Core.Path.{◌≡◌, refl, sym, ap, ◌∙◌}
use mathlib.Core.Bool.{Bool}
use mathlib.Core.List.{List, [], ◌++◌}
use Prim.Native.Nat.{ℕ, ◌+◌, ◌-◌, ◌<◌, ◌≤◌}
use native.Mathlib.Omega.{arith}
use lib.IntN.{ℤ}
use lib.ListN.{length, length-append}
use Rattle.bitplane.specs.Body.{one_plane, planes, pass_bits, body}
use Rattle.bitplane.proofs.Classes.{planes_step}
use Rattle.bitplane.proofs.Bytes.{Binary}
use Rattle.writer.specs.Written.{Digits, Fits, Puts, Room, Sends}
use Rattle.writer.proofs.Digits.{extended_small}
use Rattle.writer.proofs.Bits.{appends_both, appends_none}

-- ---- passes
pub sends_none : {x : List ℕ} (p : ℕ) → Sends [] p x x p
sends_none p = record { bits = appends_none p; at = omega arith }

pub sends_both : {a b x y z : List ℕ} {p q r : ℕ} → Sends a p x y q → Sends b q y z r → Sends (a ++ b) p x z r
sends_both {a} {b} {p = p} {q = q} s t = record { bits = appends_both p q (sym s.at) s.bits t.bits; at = t.at ∙ omega (arith, s.at, length-append a b) }

-- ---- digits that are bits: what `put` asks, and what it does
module _ {new : List ℕ} {number n : ℕ} (binary : Binary new) (d : Digits new number n) where
  pub room_fits : {p : ℕ} {out : List ℕ} → 0 < length new → length new ≤ 32 → Room new p out → Fits number n p out
  room_fits some most r = rw (d.many, d.value) (record { some = some; most = most; digits = extended_small new binary; fits = r.fits; small = r.small })

  pub puts_sends : {p : ℕ} {o m : List ℕ} → Puts number n p o m → Sends new p o m (p + n)
  puts_sends {p} f = record { bits = f new binary d; at = ap (λ k. p + k) d.many }

-- ---- the planes of a class, from the top down: what is still to come
module _ (on : ℕ → Bool) (Z : ℕ → ℤ) (n : ℕ) where
  abbrev pub below : ℕ → List ℕ
  below t = body (planes on t) Z n

  pub body_step : (t : ℕ) → 0 < t → below t ≡ pass_bits (one_plane on (t - 1)) Z n ++ below (t - 1)
  unfolding body
  body_step t h = rw (planes_step on t h)

  pub body_none : {o : List ℕ} (t p : ℕ) → t ≤ 0 → Sends (below t) p o o p
  unfolding body planes
  body_none t p h = let e : t ≡ 0 = omega arith in rw e (sends_none p)

  -- out holds all but the planes below t
  pub record Rest (top p : ℕ) (o : List ℕ) (t q : ℕ) (out : List ℕ) : Type 0 where
    pub len : length out ≡ length o
    pub room : Room (below t) q out
    pub then : (m : List ℕ) (r : ℕ) → Sends (below t) q out m r → Sends (below top) p o m r

  pub rest_start : {o : List ℕ} (top p : ℕ) → Room (below top) p o → Rest top p o top p o
  rest_start top p r = record { len = refl; room = r; then = λ m r s. s }

  pub rest_room : {o out : List ℕ} {top p t q : ℕ} → 0 < t → Rest top p o t q out → Room (pass_bits (one_plane on (t - 1)) Z n) q out
  rest_room {t = t} h s = let a = s.room in record { fits = omega (arith, ap length (body_step t h), length-append (pass_bits (one_plane on (t - 1)) Z n) (below (t - 1))); small = a.small }

  pub rest_more : {o out out' : List ℕ} {top p t q q' : ℕ} → 0 < t → Rest top p o t q out → length out' ≡ length out → Sends (pass_bits (one_plane on (t - 1)) Z n) q out out' q' → Rest top p o (t - 1) q' out'
  rest_more {t = t} h s l x =
      let a = s.room in
      record {
        len = l ∙ s.len;
        room = record { fits = omega (arith, x.at, ap length (body_step t h), length-append (pass_bits (one_plane on (t - 1)) Z n) (below (t - 1))); small = omega (arith, a.small) };
        then = λ m r y. s.then m r (rw (body_step t h) (sends_both x y));
      }

  pub rest_done : {o out : List ℕ} {top p t q : ℕ} → t ≤ 0 → Rest top p o t q out → Sends (below top) p o out q
  rest_done {out = out} {t = t} {q = q} h s = s.then out q (body_none t q h)
