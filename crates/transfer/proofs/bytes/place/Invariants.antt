-- `transfer::bytes::place` copies a picture of bytes, placed. The loop's invariant: n of its rows are copied. Assumes nothing.
use mathlib.Core.Path.{◌≡◌}
use lib.ListN.{length}
use Rattle.transfer.proofs.Parting.{Placing}
use Rattle.transfer.proofs.bytes.place.Given as goal

abbrev pub invariant-loop-n : goal.invariant-loop-n
invariant-loop-n l = Placing 0 l.src l.w l.h l.initial.dst l.dst l.n × (length l.line ≡ 2048)
