-- The writer leaves the stream in the front of its buffer, and behind it what the buffer held. Assumes nothing.
use mathlib.Core.Path.{◌≡◌, refl, ap, ◌∙◌}
use mathlib.Core.Bool.{true}
use mathlib.Core.List.{List, ◌++◌}
use Prim.Native.Nat.{ℕ}
use native.Mathlib.Omega.{arith}
use lib.IntN.{ℤ}
use lib.ListN.{length, take, drop, length-append, length-drop}
use lib.Seq.{take_at, drop_at}
use Rattle.refusal.specs.Numbers.{accepted}
use Rattle.codestream.specs.Stream.{total_length, stream}
use Rattle.codestream.specs.Writing.{shot_for, write_tests, stream_after}
use Rattle.codestream.proofs.Accepted.{taken, write_passed}
use Rattle.codestream.proofs.Parts.{stream-length}

module _ (k J D W H : ℕ) (rs : List ℕ) (l : List ℤ) (m : ℕ) (out : List ℕ) where
  module _ (ok : accepted (write_tests (shot_for k J D W H rs l) l m (length out)) ≡ true) where
    written : let s = shot_for k J D W H rs l in stream_after s l m out ≡ stream s l ++ drop (total_length s l) out
    written = let s = shot_for k J D W H rs l in taken (accepted (write_tests s l m (length out))) (stream s l ++ drop (total_length s l) out) out ok

    pub stream_front : let s = shot_for k J D W H rs l in take (total_length s l) (stream_after s l m out) ≡ stream s l
    stream_front = let s = shot_for k J D W H rs l in ap (take (total_length s l)) written ∙ take_at (stream s l) (drop (total_length s l) out) (total_length s l) (stream-length s l)

    pub stream_behind : let s = shot_for k J D W H rs l in drop (total_length s l) (stream_after s l m out) ≡ drop (total_length s l) out
    stream_behind = let s = shot_for k J D W H rs l in ap (drop (total_length s l)) written ∙ drop_at (stream s l) (drop (total_length s l) out) (total_length s l) (stream-length s l)

    pub stream_size : let s = shot_for k J D W H rs l in length (stream_after s l m out) ≡ length out
    stream_size = let s = shot_for k J D W H rs l in
        let room = (write_passed s l m (length out) refl ok).room in
        ap length written ∙ length-append (stream s l) (drop (total_length s l) out) ∙ omega (arith, stream-length s l, length-drop (total_length s l) out)
