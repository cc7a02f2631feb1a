-- A buffer whose first bytes were changed: what they are now, and behind them what it held. Assumes nothing.
use mathlib.Core.Path.{◌≡◌, sym, ◌∙◌}
use mathlib.Core.List.{List, ◌++◌, append_assoc}
use Prim.Native.Nat.{ℕ, ◌-◌, ◌≤◌}
use native.Mathlib.Omega.{arith}
use lib.ListN.{length, take, drop, length-append, length-drop}
use lib.Seq.{length-take-le, get_or-take, drop-append-le}
use Rattle.transfer.specs.Copied.{Copied}
use Rattle.transfer.proofs.Copies.{front_cell}
use Rattle.header.specs.Fields.{bytes_of}
use Rattle.header.specs.Writing.{Laid}
use Rattle.header.specs.Arrival.{cut_to}
use Rattle.header.proofs.Fields.{bytes_length}
use Rattle.header.proofs.Writing.{in_front, laid_front}

-- the first n bytes of s, copied
pub copied : (s l : List ℕ) {m : List ℕ} (n : ℕ) → n ≤ length s → n ≤ length l → Copied 0 s 0 0 n l m → m ≡ take n s ++ drop n l
copied s l n h room c =
    in_front (take n s) l n (length-take-le n s h) room c.size (λ i b. front_cell 0 s n c i b ∙ sym (get_or-take n s i 0 b)) (λ i b. c.above i (omega arith))

-- the buffer keeps its length where its first n bytes are written
pub front_size : (y l : List ℕ) (n : ℕ) → length y ≡ length (take n l) → n ≤ length l → length (y ++ drop n l) ≡ length l
front_size y l n same room = omega (arith, length-append y (drop n l), length-drop n l, length-take-le n l room)

-- a stream that was copied up to c, and its length field set
pub cut_laid : (l out : List ℕ) {a b : List ℕ} (c : ℕ) → 4 ≤ c → c ≤ length l → c ≤ length out → a ≡ take c l ++ drop c out → Laid 0 (bytes_of 4 (c - 4)) a b → b ≡ cut_to l c ++ drop c out
cut_laid l out {a} c long inside room e f =
    let n : length (bytes_of 4 (c - 4)) ≡ 4 = bytes_length 4 (c - 4) in
    let s : length (take c l) ≡ c = length-take-le c l inside in
    let t : 4 ≤ length a = rw e (omega (arith, length-append (take c l) (drop c out))) in
    laid_front (bytes_of 4 (c - 4)) a 4 n t f
    ∙ rw (e, drop-append-le 4 (take c l) (drop c out) (omega arith), append_assoc (bytes_of 4 (c - 4)) (drop 4 (take c l)) (drop c out))
