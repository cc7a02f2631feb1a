-- A class that is read into a list of its coefficients. Assumes nothing.
use mathlib.Core.Path.{◌≡◌, refl, sym, ap, ◌∙◌}
use mathlib.Core.Bool.{Bool, true}
use mathlib.Core.List.{List, ◌++◌}
use Prim.Native.Nat.{ℕ, ◌<◌, ◌≤◌}
use native.Mathlib.Omega.{arith}
use lib.IntN.{ℤ, pos}
use lib.ListN.{length, take, replicate}
use lib.Seq.{take_at}
use lib.Pow.{pow_mono}
use Rattle.line.specs.Cells.{cell, count}
use Rattle.line.proofs.Cells.{by_bool}
use Rattle.line.proofs.Counts.{count_marked}
use Rattle.line.proofs.Lists.{front_length, front_cell}
use Rattle.bitplane.specs.Body.{class, planes}
use Rattle.bitplane.specs.Reader.{Received}
use Rattle.bitplane.proofs.Classes.{class_in}
use Rattle.bitplane.proofs.Empty.{read_other}
use Rattle.members.specs.Collection.{Collected, Kept}
use Rattle.members.proofs.Collection.{collected_read, front_collected}
use Rattle.reader.specs.Reads.{stopped, reading, Ready, Spare, Unread, PlanesRead}

-- coefficients that are 0 leave room
pub spare_zero : {on : ℕ → Bool} {Y : ℕ → ℤ} (top : ℕ) → top ≤ 22 → Unread on Y → Spare on top Y 0
spare_zero top h z = record { each = λ i g o. rw (z i o) (omega (arith, pow_mono h)) }

-- a list of zeros is ready to be read, under a mask all of whose bytes are 1
module _ {m k : ℕ} (fits : m ≤ k) (small : k ≤ 16777216) where
  pub list_ready : {src mask : List ℕ} {l : List ℤ} {c p : ℕ} → Ready src l mask c p → Ready src (take m (replicate k (pos 0))) (take m (replicate k 1)) 1 p
  list_ready r = record {
    class = omega arith;
    sizes = sym (front_length {k = k} 1 fits) ∙ front_length {k = k} (pos 0) fits;
    few = omega (arith, front_length {k = k} (pos 0) fits);
    place = r.place;
    small = r.small;
  }

  pub list_spare : (top : ℕ) → top ≤ 22 → Spare (class (take m (replicate k 1)) 1) top (cell (take m (replicate k (pos 0)))) 0
  list_spare top h = spare_zero top h (λ i o. front_cell (pos 0) fits (pos 0) i (omega (arith, class_in (take m (replicate k 1)) 1 i (omega arith) o, front_length {A = ℕ} {k = k} 1 fits)))

-- l is the plane, l' the plane with the cells d' in it, which were read from zeros; behind them the list has others
module _ (h : Received) {on all : ℕ → Bool} {n m k j : ℕ} (l l' d' rest : List ℤ) (unread : Unread on (cell l)) (inside : (i : ℕ) → on i ≡ true → i < n) (many : m ≡ count n on) (fits : m ≤ k)
    (every : (i : ℕ) → i < m → all i ≡ true) (put : Collected on (cell l') n (cell (d' ++ rest)) j) (kept : Kept on (cell l) (cell l')) where
  abbrev zero : List ℤ
  zero = take m (replicate k (pos 0))

  start : Collected on (cell l) n (cell zero) m
  start = record { many = many; each = λ i g o. front_cell (pos 0) fits (pos 0) (count i on) (omega (arith, many, count_marked i n on g o)) ∙ sym (unread i o) }

  pub list_read : (top : ℕ) {p q t : ℕ} → length d' ≡ length zero → PlanesRead h (length zero) (planes all top) (reading zero p) d' q t → PlanesRead h n (planes on top) (reading l p) l' q t
  list_read top {p} e y =
      let size : m ≡ length zero = front_length {k = k} (pos 0) fits in
      let r = reading l p in
      let z = collected_read on all n m every h top {r = r} refl start in
      let x : Collected on (cell l') n (cell d') j = rw (take_at d' rest j (e ∙ sym size ∙ many ∙ sym put.many)) at (front_collected (d' ++ rest) put) in
      let w : PlanesRead h m (planes all top) (reading zero p) d' _ _ = rw (← size) at y in
      record {
        value = λ i. by_bool (on i)
            (λ o. sym (x.each i (inside i o) o) ∙ w.value (count i on) ∙ z.value.each i (inside i o) o)
            (λ o. kept i o ∙ sym (read_other h n on top r i o));
        at = w.at ∙ ap (stopped h) (sym z.at);
        missing = w.missing ∙ sym z.missing;
      }
