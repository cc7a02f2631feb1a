-- The length of the buffers that a stream is read into. Assumes nothing.
use mathlib.Core.Path.{◌≡◌, refl, sym, ◌∙◌}
use mathlib.Core.Bool.{Bool, true, false, ◌&&◌}
use mathlib.Core.List.{List, ◌++◌}
use Prim.Native.Nat.{ℕ, ◌*◌, ◌<◌, ◌≤◌}
use native.Mathlib.Nat.{mul-le-mul}
use native.Mathlib.Omega.{arith}
use lib.Dec.{leb}
use lib.ListN.{length, take, drop, replicate, take-append-drop}
use lib.Seq.{length-take-le}
use borrow.Author.Tests.{leb-true, le-leb, lt-leb}
use Rattle.line.specs.Cells.{choose, listed}
use Rattle.line.proofs.Lists.{front_length}
use Rattle.refusal.specs.Numbers.{accepted}
use Rattle.header.specs.Header.{bad_header}
use Rattle.header.specs.Fields.{shot_of}
use Rattle.codestream.specs.Reading.{read_tests}
use Rattle.exactness.specs.Shown.{shown_at}
use Rattle.showing_limited.specs.Inner.{samples_after}
use Rattle.showing_limited.specs.Showing.{room_for, shown_after}

pub area_fits : {w h : ℕ} → w ≤ 64 → h ≤ 64 → w * h ≤ 4096
area_fits {w} {h} p q = mul-le-mul p q

-- ---- which room a stream has
module _ (l : List ℕ) (n : ℕ) where
  pub none_for_bad : bad_header l ≡ true → 0 ≡ room_for l n
  none_for_bad e = rw e

  module _ (good : bad_header l ≡ false) {w h : ℕ} (width : w ≡ (shot_of l).width) (height : h ≡ (shot_of l).height) where
    pub none_for_wide : 64 < w → 0 ≡ room_for l n
    none_for_wide p = rw (good, ← width, lt-leb w 64 p)

    pub none_for_high : w ≤ 64 → 64 < h → 0 ≡ room_for l n
    none_for_high p q = rw (good, ← width, ← height, le-leb w 64 p, lt-leb h 64 q)

    pub none_for_large : w ≤ 64 → h ≤ 64 → n < w * h → 0 ≡ room_for l n
    none_for_large p q r = rw (good, ← width, ← height, le-leb w 64 p, le-leb h 64 q, lt-leb (w * h) n r)

    pub room_for_fits : w ≤ 64 → h ≤ 64 → w * h ≤ n → w * h ≡ room_for l n
    room_for_fits p q r = rw (good, ← width, ← height, le-leb w 64 p, le-leb h 64 q, le-leb (w * h) n r)

-- ---- it is within the working memory and the lent buffer
small : (W H n : ℕ) (a b c : Bool) → leb W 64 ≡ a → leb H 64 ≡ b → leb (W * H) n ≡ c → let r = choose (a && b && c) (W * H) 0 in (r ≤ 4096) × (r ≤ n)
small W H n true true true p q r = (area_fits (leb-true W 64 p) (leb-true H 64 q), leb-true (W * H) n r)
small W H n true true false p q r = (omega arith, omega arith)
small W H n true false c p q r = (omega arith, omega arith)
small W H n false b c p q r = (omega arith, omega arith)

pub room_small : (l : List ℕ) (n : ℕ) → (room_for l n ≤ 4096) × (room_for l n ≤ n)
room_small l n = by-header (bad_header l)
  where
    by-header : (bad : Bool) → let s = shot_of l in let r = choose bad 0 (choose (leb s.width 64 && leb s.height 64 && leb (s.width * s.height) n) (s.width * s.height) 0) in (r ≤ 4096) × (r ≤ n)
    by-header true = (omega arith, omega arith)
    by-header false = let s = shot_of l in small s.width s.height n _ _ _ refl refl refl

-- ---- parts of the working memory
pub front_same : {A : Type 0} (n : ℕ) (o : A) (held : List ℕ) → n ≤ 4096 → n ≤ length held → length (take n (replicate 4096 o)) ≡ length (take n held)
front_same n o held p q = sym (front_length o p) ∙ sym (length-take-le n held q)

-- ---- the samples in front of what the lent buffer held
pub in_front : (l held : List ℕ) {part : List ℕ} {n : ℕ} → n ≡ room_for l (length held) → n ≤ length held → part ≡ samples_after l (take n held) → part ++ drop n held ≡ shown_after l held
in_front l held {part} {n} e h p = rw (p, length-take-le n held h, ← e) (by_answer (accepted (read_tests l n n)))
  where
    by_answer : (ok : Bool) → choose ok (listed n (shown_at l)) (take n held) ++ drop n held ≡ choose ok (listed n (shown_at l) ++ drop n held) held
    by_answer true = refl
    by_answer false = take-append-drop n held
