-- `header::put_rectangles` writes the numbers of the rectangles. Assumes nothing.
use Rattle.header.proofs.Writing.{Listed}
use Rattle.header.proofs.put_rectangles.Given as goal

abbrev pub invariant-loop-i : goal.invariant-loop-i
invariant-loop-i l = Listed l.numbers l.i l.initial.out l.out
