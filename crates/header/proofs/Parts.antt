-- The cases of refusal 12 and of the body's part. Assumes nothing.
use mathlib.Core.Path.{◌≡◌, refl, ◌∙◌}
use mathlib.Core.Bool.{true, false, not}
use mathlib.Core.List.{List, []}
use Prim.Native.Nat.{ℕ, ◌+◌, ◌-◌, ◌<◌, ◌≤◌}
use native.Mathlib.Omega.{arith}
use lib.Dec.{eqb, ltb}
use lib.ListN.{length, get_or, take, drop, length-drop}
use lib.Seq.{take_all}
use borrow.Author.Tests.{lt-ltb, le-ltb, eqb-true, not-false}
use Rattle.line.proofs.Cells.{by_lt, never}
use Rattle.refusal.specs.Numbers.{first}
use Rattle.refusal.proofs.Passed.{neither}
use Rattle.header.specs.Header.{number, front_length, bad_front, bad_header, bad_version, body_of}
use Rattle.header.specs.Arrival.{sent_length, bad_arrival}

module _ (l : List ℕ) where
  -- ---- the header is whole
  pub short_front : length l < 14 → bad_front l ≡ true
  short_front h = rw (lt-ltb (length l) 14 h) refl

  pub else_front : 14 ≤ length l → bad_front l ≡ ltb (length l) (front_length l)
  else_front h = rw (le-ltb (length l) 14 h) refl

  pub front_whole : 14 ≤ length l → front_length l ≤ length l → bad_front l ≡ false
  front_whole h k = else_front h ∙ le-ltb (length l) (front_length l) k

  pub front_long : bad_front l ≡ false → 14 ≤ length l
  front_long g = by_lt (length l) 14 (λ lt. absurd (never (short_front lt) g)) (λ ge. ge)

  pub front_there : bad_front l ≡ false → front_length l ≤ length l
  front_there g = by_lt (length l) (front_length l) (λ lt. absurd (never (else_front (front_long g) ∙ lt-ltb (length l) (front_length l) lt) g)) (λ ge. ge)

  -- ---- refusal 12
  pub front_bad : bad_front l ≡ true → (bad_header l ≡ true) × (bad_arrival l ≡ true)
  front_bad e = (rw e refl, rw e refl)

  pub front_good : bad_front l ≡ false → (bad_header l ≡ not (eqb (number 4 l 0 + 4) (length l))) × (bad_arrival l ≡ ltb (sent_length l) (length l))
  front_good e = (rw e refl, rw e refl)

  pub else_length : 14 ≤ length l → front_length l ≤ length l → bad_header l ≡ not (eqb (number 4 l 0 + 4) (length l))
  else_length h k = (front_good (front_whole h k)).0

  pub arrival_long : bad_arrival l ≡ false → 14 ≤ length l
  arrival_long g = front_long (neither (bad_front l) _ g).0

  good_whole : bad_header l ≡ false → bad_front l ≡ false
  good_whole g = (neither (bad_front l) _ g).0

  pub good_long : bad_header l ≡ false → 14 ≤ length l
  good_long g = front_long (good_whole g)

  pub good_front : bad_header l ≡ false → front_length l ≤ length l
  good_front g = front_there (good_whole g)

  pub good_total : bad_header l ≡ false → number 4 l 0 + 4 ≡ length l
  good_total g = eqb-true (number 4 l 0 + 4) (length l) (not-false _ (neither (bad_front l) _ g).1)

  -- the length field has four bytes
  pub good_small : ((i : ℕ) → get_or l i 0 < 256) → bad_header l ≡ false → length l < 4294967300
  unfolding number
  good_small bytes g = omega (arith, good_total g, bytes 0, bytes 1, bytes 2, bytes 3)

  pub none_by_header : bad_header l ≡ true → [] ≡ body_of l
  unfolding first
  none_by_header b = rw b refl

  pub none_by_version : bad_header l ≡ false → bad_version l ≡ true → [] ≡ body_of l
  unfolding first
  none_by_version g b = rw (g, b) refl

  -- the part from m on is handed back as the first length l − m bytes of drop m l
  pub body_is : (m : ℕ) → m ≡ front_length l → bad_header l ≡ false → bad_version l ≡ false → take (length l - m) (drop m l) ≡ body_of l
  unfolding first
  body_is m e g v = rw (g, v, ← e) (take_all (length l - m) (drop m l) (simp length-drop (omega arith)))
