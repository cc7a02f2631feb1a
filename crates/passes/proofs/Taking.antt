-- Lines that are taken to working memory, transformed there and put back: each is then its transform, and every number fits.
--
--   Halved l s t w c q == q has the evens of c lines of w numbers of l in front, in rows of c, and their odds behind
--
-- Assumes nothing.
use mathlib.Core.Path.{◌≡◌, ap, subst, ◌∙◌}
use mathlib.Core.Bool.{true, false}
use mathlib.Core.List.{List}
use Prim.Native.Nat.{ℕ, ◌+◌, ◌*◌, ◌-◌, ◌/◌, ◌^◌, ◌<◌, ◌≤◌}
use native.Mathlib.Nat.{add-mul}
use native.Mathlib.Omega.{arith}
use lib.Arith.{digits_lt}
use lib.IntN.{ℤ, pos}
use lib.ListN.{length, get_or}
use Rattle.kernel.specs.declared.Kernel.{Kernel}
use Rattle.line.specs.Inner.{Agree}
use Rattle.line.specs.Transform.{undone_evens, undone_odds, forward, back}
use Rattle.line.proofs.Cells.{by_lt, by_parity}
use Rattle.line.proofs.Local.{forward_local, back_local}
use Rattle.line.specs.Cells.{low_side}
use Rattle.grid.specs.Buffer.{strided, InBuffer, Put, Lines}
use Rattle.grid.specs.Placed.{woven}
use Rattle.grid.proofs.Parted.{woven_even, woven_odd, parted_even, parted_odd}
use Rattle.lifting.specs.Parts.{lane, Parts, Bounded, Both}
use Rattle.lifting.specs.Lines.{lows_of, highs_of}
use Rattle.transfer.specs.Copied.{Room, Copied}
use Rattle.transfer.specs.Moved.{Twofold}
use Rattle.transfer.specs.Parting.{PartedStrip}
use Rattle.passes.specs.Passes.{Takes}
use Rattle.passes.proofs.Forms.{forward_form, back_form}

-- ---- two parts of c lines, one behind the other, in q
pub two_parts : (w c size : ℕ) → w < 2 ^ 32 → 0 < c → w * c ≤ size → Parts 0 (low_side w * c) c (low_side w) (w / 2) c size
two_parts w c size few lines room = record {
  few = (omega arith, omega arith);
  lines = lines;
  wide = omega arith;
  first = record { place = λ n j h k. omega (arith, digits_lt {q = n} {m = w} {r = j} {c = c} (omega arith) k) };
  second = record { place = λ n j h k. omega (arith, add-mul (low_side w) n c, digits_lt {q = low_side w + n} {m = w} {r = j} {c = c} (omega arith) k) };
  apart = λ n j n' j' h k h' k' p. omega (arith, digits_lt {q = n} {m = low_side w} {r = j} {c = c} h k);
}

-- a line alone
pub line_parts : (w size : ℕ) → w < 2 ^ 32 → w ≤ size → Parts 0 (low_side w) 1 (low_side w) (w / 2) 1 size
line_parts w size few room = let e : low_side w * 1 ≡ low_side w = omega arith in rw e at (two_parts w 1 size few (omega arith) (omega arith))

pub record Halved (l : List ℤ) (s t w c : ℕ) (q : List ℤ) : Type 0 where
  pub evens : (n j : ℕ) → n < low_side w → j < c → lane 0 c q j n ≡ strided (pos 0) l (s + j) t (2 * n)
  pub odds : (n j : ℕ) → n < w / 2 → j < c → lane (low_side w * c) c q j n ≡ strided (pos 0) l (s + j) t (2 * n + 1)

module _ {l : List ℤ} {s t w c : ℕ} {q : List ℤ} (h : Halved l s t w c q) where
  halved_woven : (j : ℕ) → j < c → Agree w (woven w (strided (pos 0) q (0 + j) c)) (strided (pos 0) l (s + j) t)
  halved_woven j k = by_parity (λ x. x < w → woven w (strided (pos 0) q (0 + j) c) x ≡ strided (pos 0) l (s + j) t x)
      (λ n r. woven_even w n (strided (pos 0) q (0 + j) c) ∙ ap (λ (i : ℕ). get_or q i (pos 0)) (omega arith) ∙ h.evens n j (omega arith) k)
      (λ n r. woven_odd w n (strided (pos 0) q (0 + j) c) ∙ ap (λ (i : ℕ). get_or q i (pos 0)) (omega (arith, add-mul (low_side w) n c)) ∙ h.odds n j (omega arith) k)

  module _ (all : (j : ℕ) → j < c → Takes false w (strided (pos 0) l (s + j) t)) where
    pub evens_bounded : Bounded (5 * 2 ^ 22) 0 c (low_side w) c q
    evens_bounded = record { each = λ j k n r. rw (h.evens n j r k) ((all j k).takes (2 * n) (omega arith)) }

    pub odds_bounded : Bounded (5 * 2 ^ 22) (low_side w * c) c (w / 2) c q
    odds_bounded = record { each = λ j k n r. rw (h.odds n j r k) ((all j k).takes (2 * n + 1) (omega arith)) }

  -- the lows and highs put back
  pub forward_put : (k : Kernel) {q' l' : List ℤ} → Both (lows_of k (low_side w) (w / 2)) (highs_of k (low_side w) (w / 2)) 0 (low_side w * c) c c 0 (low_side w) (w / 2) q q' → length l' ≡ length l
      → ((n j : ℕ) → n < w → j < c → get_or l' (s + n * t + j) (pos 0) ≡ get_or q' (0 + n * c + j) (pos 0))
      → ((i : ℕ) → ((n j : ℕ) → n < w → j < c → i ≡ s + n * t + j → ⊥) → get_or l' i (pos 0) ≡ get_or l i (pos 0))
      → Lines (forward k) (pos 0) s t w c l l'
  forward_put k {q'} f same on off =
      let e : low_side w * c ≡ 0 + low_side w * c = omega arith in
      let g = forward_form k w c q q' 0 c (subst (λ (b : ℕ). Both (lows_of k (low_side w) (w / 2)) (highs_of k (low_side w) (w / 2)) 0 b c c 0 (low_side w) (w / 2) q q') e f) in record {
        size = same;
        on = λ n j r i. on n j r i ∙ g.on n j r i ∙ forward_local k w _ (strided (pos 0) l (s + j) t) (halved_woven j i) n r;
        off = off;
      }

-- ---- a row
module _ {l : List ℤ} {at : ℕ} (w : ℕ) (i : InBuffer l at 1 w 1) where
  pub row_out : {q : List ℤ} → w ≤ length q → Room l at 0 w q
  row_out h = record { source = λ k r. omega (arith, i.place k 0 r (omega arith)); target = λ k r. omega arith }

  pub row_back_room : {q : List ℤ} → w ≤ length q → Room q 0 at w l
  row_back_room h = record { source = λ k r. omega arith; target = λ k r. omega (arith, i.place k 0 r (omega arith)) }

  pub row_end : 0 < w → at + w ≤ length l
  row_end some = omega (arith, i.place (w - 1) 0 (omega arith) (omega arith))

pub row_halved : (l : List ℤ) (at w : ℕ) {q q' : List ℤ}
    → Twofold (pos 0) (λ k. get_or l (at + 2 * k) (pos 0)) (λ k. get_or l (at + 2 * k + 1) (pos 0)) (λ k. 0 + k) (λ k. low_side w + k) (low_side w) (w / 2) q q' → Halved l at 1 w 1 q'
row_halved l at w {q} {q'} p = record {
  evens = λ n j h k. ap (λ (i : ℕ). get_or q' i (pos 0)) (omega arith) ∙ p.first n h ∙ ap (λ (i : ℕ). get_or l i (pos 0)) (omega arith);
  odds = λ n j h k. ap (λ (i : ℕ). get_or q' i (pos 0)) (omega arith) ∙ p.second n h ∙ ap (λ (i : ℕ). get_or l i (pos 0)) (omega arith);
}

pub row_bounded : {l : List ℤ} {at w : ℕ} {q : List ℤ} → Halved l at 1 w 1 q → Takes false w (strided (pos 0) l (at + 0) 1)
    → Bounded (5 * 2 ^ 22) 0 1 (low_side w) 1 q × Bounded (5 * 2 ^ 22) (low_side w) 1 (w / 2) 1 q
row_bounded {l} {at} {w} {q} h t =
    let all : (j : ℕ) → j < 1 → Takes false w (strided (pos 0) l (at + j) 1) = λ j k. let z : j ≡ 0 = omega arith in rw z t in
    let e : low_side w * 1 ≡ low_side w = omega arith in (evens_bounded h all, subst (λ (b : ℕ). Bounded (5 * 2 ^ 22) b 1 (w / 2) 1 q) e (odds_bounded h all))

pub row_forward : (k : Kernel) (l : List ℤ) (at w : ℕ) {q q' l' : List ℤ} → Halved l at 1 w 1 q
    → Both (lows_of k (low_side w) (w / 2)) (highs_of k (low_side w) (w / 2)) 0 (low_side w) 1 1 0 (low_side w) (w / 2) q q' → Copied (pos 0) q' 0 at w l l' → Lines (forward k) (pos 0) at 1 w 1 l l'
row_forward k l at w {q} {q'} {l'} h f u =
    let e : low_side w ≡ low_side w * 1 = omega arith in
    forward_put h k (subst (λ (b : ℕ). Both (lows_of k (low_side w) (w / 2)) (highs_of k (low_side w) (w / 2)) 0 b 1 1 0 (low_side w) (w / 2) q q') e f) u.size
    (λ n j r i. ap (λ (x : ℕ). get_or l' x (pos 0)) (omega arith) ∙ u.on n r ∙ ap (λ (x : ℕ). get_or q' x (pos 0)) (omega arith))
    (λ i no. by_lt i at (λ lt. u.below i lt) (λ ge. by_lt i (at + w) (λ lt. absurd (no (i - at) 0 (omega arith) (omega arith) (omega arith))) (λ far. u.above i far)))

-- the way back
module _ (l : List ℤ) (at w : ℕ) {q q' : List ℤ} (p : Copied (pos 0) l at 0 w q q') where
  row_copied : Agree w (strided (pos 0) q' (0 + 0) 1) (strided (pos 0) l (at + 0) 1)
  row_copied n h = ap (λ (i : ℕ). get_or q' i (pos 0)) (omega arith) ∙ p.on n h ∙ ap (λ (i : ℕ). get_or l i (pos 0)) (omega arith)

  module _ (all : Takes true w (strided (pos 0) l (at + 0) 1)) where
    pub lows_bounded : Bounded (2 ^ 28) 0 1 (low_side w) 1 q'
    lows_bounded = record {
      each = λ j k n h. let e : lane 0 1 q' j n ≡ strided (pos 0) l (at + 0) 1 n = ap (λ (i : ℕ). get_or q' i (pos 0)) (omega arith) ∙ row_copied n (omega arith) in rw e (all.takes.0 n h);
    }

    pub highs_bounded : Bounded (2 ^ 24) (low_side w) 1 (w / 2) 1 q'
    highs_bounded = record {
      each = λ j k n h. let e : lane (low_side w) 1 q' j n ≡ strided (pos 0) l (at + 0) 1 (low_side w + n) = ap (λ (i : ℕ). get_or q' i (pos 0)) (omega arith) ∙ row_copied (low_side w + n) (omega arith) in
          rw e (all.takes.1 n h);
    }

  pub row_back : (k : Kernel) {q'' l' : List ℤ} → Both (undone_evens k (low_side w) (w / 2)) (undone_odds k (low_side w) (w / 2)) 0 (low_side w) 1 1 0 (low_side w) (w / 2) q' q''
      → Twofold (pos 0) (λ i. get_or q'' (0 + i) (pos 0)) (λ i. get_or q'' (low_side w + i) (pos 0)) (λ i. at + 2 * i) (λ i. at + 2 * i + 1) (low_side w) (w / 2) l l'
      → Lines (back k) (pos 0) at 1 w 1 l l'
  row_back k {q''} {l'} f u =
      let e : low_side w ≡ 0 + low_side w * 1 = omega arith in
      let g = back_form k w 1 q' q'' 0 1 (subst (λ (b : ℕ). Both (undone_evens k (low_side w) (w / 2)) (undone_odds k (low_side w) (w / 2)) 0 b 1 1 0 (low_side w) (w / 2) q' q'') e f) in
      let same : Agree w (back k w (strided (pos 0) q' (0 + 0) 1)) (back k w (strided (pos 0) l (at + 0) 1)) = back_local k w _ _ row_copied in
      record {
        size = u.size;
        on = λ n j h r. let z : j ≡ 0 = omega arith in rw z (by_parity (λ x. x < w → get_or l' (at + x * 1 + 0) (pos 0) ≡ back k w (strided (pos 0) l (at + 0) 1) x)
            (λ i b. ap (λ (x : ℕ). get_or l' x (pos 0)) (omega arith) ∙ u.first i (omega arith) ∙ ap (λ (x : ℕ). get_or q'' x (pos 0)) (omega arith)
            ∙ g.on i 0 (omega arith) (omega arith) ∙ parted_even w i _ (omega arith) ∙ same (2 * i) b)
            (λ i b. ap (λ (x : ℕ). get_or l' x (pos 0)) (omega arith) ∙ u.second i (omega arith) ∙ ap (λ (x : ℕ). get_or q'' x (pos 0)) (omega arith)
            ∙ g.on (low_side w + i) 0 (omega arith) (omega arith) ∙ parted_odd w i _ ∙ same (2 * i + 1) b) n h);
        off = λ i no. u.off i (λ n h e. no (2 * n) 0 (omega arith) (omega arith) (omega arith)) (λ n h e. no (2 * n + 1) 0 (omega arith) (omega arith) (omega arith));
      }

-- ---- a strip of columns
pub strip_halved : (l : List ℤ) (s t h c : ℕ) {q q' : List ℤ} → PartedStrip (pos 0) l s t h c q q' → Halved l s t h c q'
strip_halved l s t h c {q} {q'} p = record {
  evens = λ n j i k. ap (λ (x : ℕ). get_or q' x (pos 0)) (omega arith) ∙ p.on n j (omega arith) k ∙ parted_even h n (strided (pos 0) l (s + j) t) i;
  odds = λ n j i k. ap (λ (x : ℕ). get_or q' x (pos 0)) (omega (arith, add-mul (low_side h) n c)) ∙ p.on (low_side h + n) j (omega arith) k ∙ parted_odd h n (strided (pos 0) l (s + j) t);
}

-- put back as it is
pub strip_forward : (k : Kernel) (l : List ℤ) (s t h c : ℕ) {q q' l' : List ℤ} → Halved l s t h c q
    → Both (lows_of k (low_side h) (h / 2)) (highs_of k (low_side h) (h / 2)) 0 (low_side h * c) c c 0 (low_side h) (h / 2) q q' → Put (pos 0) q' s t h c l l' → Lines (forward k) (pos 0) s t h c l l'
strip_forward k l s t h c {q} {q'} p f u = forward_put p k f u.size (λ n j r i. u.on n j r i ∙ ap (λ (x : ℕ). get_or q' x (pos 0)) (omega arith)) u.off
