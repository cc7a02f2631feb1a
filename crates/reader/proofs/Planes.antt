-- What the loop over the planes of a class keeps, and what a class gives that is not read. Assumes nothing.
use mathlib.Core.Path.{◌≡◌, refl, sym, ap, ◌∙◌}
use mathlib.Core.Bool.{Bool, false}
use mathlib.Core.List.{List}
use Prim.Native.Nat.{ℕ, zero, suc, ◌+◌, ◌*◌, ◌-◌, ◌^◌, ◌<◌, ◌≤◌}
use native.Mathlib.Omega.{arith}
use native.Mathlib.Nat.{two-pow-succ}
use lib.Dec.{leb}
use lib.IntN.{ℤ, nat_abs}
use lib.ListN.{length}
use borrow.Author.Tests.{le-leb, lt-leb}
use Rattle.line.specs.Cells.{choose, cell}
use Rattle.line.proofs.Cells.{by_lt}
use Rattle.bitplane.specs.Body.{Order, one_plane, planes}
use Rattle.bitplane.specs.Reader.{Received, received, Reading, place, pass, read, missing}
use Rattle.bitplane.proofs.Classes.{planes_step, planes_many}
use Rattle.bitplane.proofs.Passes.{reading_eq}
use Rattle.bitplane.proofs.Past.{Silent, bytes_binary, bytes_silent, read_up, read_past, missing_past}
use Rattle.bitplane.proofs.Empty.{read_none, missing_none}
use Rattle.bitplane.proofs.Small.{pass_size}
use Rattle.reader.specs.Reads.{stopped, reading, Spare, PassRead, PlanesRead}
use Rattle.reader.proofs.Passes.{stopped_in, stopped_past, stopped_here, stopped_not, stopped_was}

-- ---- from the place where the reader stopped it reads what it would read from the place itself
pub planes_from : {h : Received} {n : ℕ} {xs : Order} {r s : Reading} {l : List ℤ} {q k : ℕ} → Silent h → ((i : ℕ) → r.value i ≡ s.value i) → r.at ≡ stopped h s.at
    → PlanesRead h n xs r l q k → PlanesRead h n xs s l q k
planes_from {h} {n} {xs} {r} {s} {l} {q} {k} silent same at p = by_lt h.size s.at
    (λ lt. let g : h.size < r.at = omega (arith, stopped_past h lt) in
    record {
      value = λ i. p.value i ∙ read_past h silent n xs r i (omega arith) ∙ same i ∙ sym (read_past h silent n xs s i (omega arith));
      at = p.at ∙ stopped_past h {p = (read h n xs r).at} (omega (arith, read_up h n xs r)) ∙ sym (stopped_past h {p = (read h n xs s).at} (omega (arith, read_up h n xs s)));
      missing = p.missing ∙ missing_past h silent n xs r g ∙ sym (missing_past h silent n xs s lt);
    })
    (λ ge. let e : r ≡ s = reading_eq same (at ∙ stopped_in h ge) in rw e at p)

-- ---- one plane, and the others behind it
half : (t : ℕ) → 0 < t → 2 ^ t ≡ 2 ^ (t - 1) + 2 ^ (t - 1)
half zero h = absurd (omega arith)
half (suc t) h = let e : suc t - 1 ≡ t = omega arith in rw (e, two-pow-succ)

pub spare_less : {on : ℕ → Bool} {t : ℕ} {Y : ℕ → ℤ} → 0 < t → Spare on t Y 0 → Spare on (t - 1) Y 0
spare_less {t = t} h s = record { each = λ i g o. omega (arith, s.each i g o, half t h) }

module _ (src : List ℕ) (on : ℕ → Bool) (n : ℕ) where
  abbrev H : Received
  H = received src

  read_step : (t : ℕ) (r : Reading) → 0 < t → read H n (planes on t) r ≡ read H n (planes on (t - 1)) (pass H n (one_plane on (t - 1)) r)
  unfolding read
  read_step t r h = rw (planes_step on t h)

  missing_step : (t : ℕ) (r : Reading) → 0 < t
      → missing H n (planes on t) r ≡ choose (leb (place H (one_plane on (t - 1)) r n) H.size) 0 1 + missing H n (planes on (t - 1)) (pass H n (one_plane on (t - 1)) r)
  unfolding missing
  missing_step t r h = rw (planes_step on t h)

  module _ (l : List ℤ) {t q q' : ℕ} {l' : List ℤ} (h : 0 < t) (p : PassRead H n (one_plane on (t - 1)) (reading l q) l' q') where
    spare_pass : Spare on t (cell l) 0 → Spare on (t - 1) (cell l') 0
    spare_pass s = record {
      each = λ i g o. omega (arith, s.each i g o, half t h, ap nat_abs (p.value i), pass_size H (bytes_binary src) n (one_plane on (t - 1)) (reading l q) i);
    }

    -- a plane that was wholly received, and one that was not
    planes_more : {m : List ℤ} {r k : ℕ} → q' ≤ 8 * length src → PlanesRead H n (planes on (t - 1)) (reading l' q') m r k → PlanesRead H n (planes on t) (reading l q) m r k
    planes_more g y =
        let x = one_plane on (t - 1) in
        let a : q' ≡ place H x (reading l q) n = stopped_not H p.at g in
        let e : reading l' q' ≡ pass H n x (reading l q) = reading_eq p.value a in
        let d : read H n (planes on (t - 1)) (reading l' q') ≡ read H n (planes on t) (reading l q) = ap (read H n (planes on (t - 1))) e ∙ sym (read_step t (reading l q) h) in
        record {
          value = λ i. y.value i ∙ ap (λ (s : Reading). s.value i) d;
          at = y.at ∙ ap (λ (s : Reading). stopped H s.at) d;
          missing = y.missing ∙ ap (missing H n (planes on (t - 1))) e ∙ sym (missing_step t (reading l q) h ∙ rw (le-leb (place H x (reading l q) n) H.size (omega arith)) (omega arith));
        }

    planes_stop : 8 * length src < q' → PlanesRead H n (planes on t) (reading l q) l' q' t
    planes_stop g =
        let x = one_plane on (t - 1) in let r = reading l q in let s = pass H n x r in
        let a : H.size < place H x r n = stopped_was H p.at g in
        record {
          value = λ i. p.value i ∙ sym (read_past H (bytes_silent src) n (planes on (t - 1)) s i (omega arith)) ∙ ap (λ (k : Reading). k.value i) (sym (read_step t r h));
          at = p.at ∙ stopped_past H a ∙ sym (stopped_past H {p = (read H n (planes on (t - 1)) s).at} (omega (arith, read_up H n (planes on (t - 1)) s))) ∙ ap (λ (k : Reading). stopped H k.at) (sym (read_step t r h));
          missing = sym (missing_step t r h ∙ rw (lt-leb (place H x r n) H.size a, missing_past H (bytes_silent src) n (planes on (t - 1)) s a, planes_many on (t - 1)) (omega arith));
        }

  planes_none : {t q : ℕ} {l : List ℤ} → t ≤ 0 → q ≤ suc (8 * length src) → PlanesRead H n (planes on t) (reading l q) l q 0
  unfolding read missing planes
  planes_none {t} h g = let e : t ≡ 0 = omega arith in rw e (record { value = λ i. refl; at = sym (stopped_here H g); missing = refl })

  -- ---- the loop: l and q are what was read of all but the planes below t
  pub record Left (top : ℕ) (l₀ : List ℤ) (p t : ℕ) (l : List ℤ) (q : ℕ) : Type 0 where
    pub less : t ≤ top
    pub size : length l ≡ n
    pub near : q ≤ suc (8 * length src)
    pub spare : Spare on t (cell l) 0
    pub then : (m : List ℤ) (r k : ℕ) → PlanesRead H n (planes on t) (reading l q) m r k → PlanesRead H n (planes on top) (reading l₀ p) m r k

  pub left_start : {l₀ : List ℤ} {top p : ℕ} → length l₀ ≡ n → p ≤ suc (8 * length src) → Spare on top (cell l₀) 0 → Left top l₀ p top l₀ p
  left_start e h s = record { less = omega arith; size = e; near = h; spare = s; then = λ m r k y. y }

  module _ {top p t q q' : ℕ} {l₀ l l' : List ℤ} (h : 0 < t) (s : Left top l₀ p t l q) (passed : PassRead H (length l) (one_plane on (t - 1)) (reading l q) l' q') where
    pass_read : PassRead H n (one_plane on (t - 1)) (reading l q) l' q'
    pass_read = rw s.size at passed

    pub left_more : length l' ≡ length l → q' ≤ 8 * length src → Left top l₀ p (t - 1) l' q'
    left_more e g = record {
      less = omega (arith, s.less);
      size = e ∙ s.size;
      near = omega arith;
      spare = spare_pass l h pass_read s.spare;
      then = λ m r k y. s.then m r k (planes_more l h pass_read g y);
    }

    pub left_stop : 8 * length src < q' → PlanesRead H n (planes on top) (reading l₀ p) l' q' t
    left_stop g = s.then l' q' t (planes_stop l h pass_read g)

  pub left_done : {top p t q : ℕ} {l₀ l : List ℤ} → t ≤ 0 → Left top l₀ p t l q → PlanesRead H n (planes on top) (reading l₀ p) l q 0
  left_done {q = q} {l = l} h s = s.then l q 0 (planes_none h s.near)

  -- ---- a class without a member, and one for which no bit is left
  module _ (l : List ℤ) (top : ℕ) {p : ℕ} (near : p ≤ suc (8 * length src)) where
    pub unread_none : ((i : ℕ) → on i ≡ false) → p ≤ 8 * length src → PlanesRead H n (planes on top) (reading l p) l p 0
    unread_none none g = let d = read_none H n on none top (reading l p) in
        record { value = λ i. rw d refl; at = rw d (sym (stopped_here H near)); missing = sym (missing_none H n on none top (reading l p) ∙ rw (le-leb p H.size g)) }

    pub unread_past : 8 * length src < p → PlanesRead H n (planes on top) (reading l p) l p top
    unread_past g =
        let r = reading l p in let s = bytes_silent src in
        record {
          value = λ i. sym (read_past H s n (planes on top) r i (omega arith));
          at = sym (stopped_past H {p = (read H n (planes on top) r).at} (omega (arith, read_up H n (planes on top) r)) ∙ omega arith);
          missing = sym (missing_past H s n (planes on top) r g ∙ planes_many on top);
        }
