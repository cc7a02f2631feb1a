use mathlib.Core.Path.{◌≡◌, refl, ◌∙◌}
use Prim.Native.Nat.{◌+◌, ◌*◌, ◌/◌, ◌<◌, ◌≤◌}
use native.Mathlib.Nat.{add_assoc}
use native.Mathlib.Omega.{arith}
use mir.Syntax.{w32}
use mir.Val.{to_z, of_z}
use mir.Facts.{to_z-of_z}
use lib.ListN.{length-set}
use Rattle.std.proofs.Common.{FitsSigned, rules}
use Rattle.line.specs.Cells.{cell}
use Rattle.bitplane.specs.Bits.{bit_at, gathered}
use Rattle.bitplane.proofs.Past.{bytes_binary}
use Rattle.cursor.proofs.Windows.{window_digits}
use Rattle.coefficient.proofs.Blocks.{gathered_one, width_few, takes_start, takes_more}
use Rattle.coefficient.proofs.take.Goals as goal

pub loop-k-init : goal.loop-k-init
loop-k-init c = (omega arith, refl, omega arith, omega arith, takes_start (omega arith))

pub overflow_add-o : goal.overflow_add-o
overflow_add-o c = let one : c.digits-in-loop-k.result ≡ bit_at c.args.body.now (8 * (c.args.p / 8) + c.loop-k.o) = window_digits _ _ _ 1 c.window-x.ensures (omega arith) c.digits-in-loop-k.ensures ∙ gathered_one _ _ in
    let one< : c.digits-in-loop-k.result < 2 = omega (arith, one, bytes_binary c.args.body.now (8 * (c.args.p / 8) + c.loop-k.o)) in
    let few : c.width-o.result ≤ 2 = width_few c.member-member.result (to_z w32 (of_z w32 (cell c.args.plane.now (c.args.i + c.loop-k.k)))) c.width-o.ensures (one<) in
    omega (arith, few)

pub loop-k-preserved : goal.loop-k-preserved
loop-k-preserved c = let two : c.digits.result ≡ gathered (bit_at c.args.body.now) (8 * (c.args.p / 8) + c.loop-k.o) 2 = window_digits _ _ _ 2 c.window-x.ensures (omega arith) c.digits.ensures in
    let one : c.digits-in-loop-k.result ≡ bit_at c.args.body.now (8 * (c.args.p / 8) + c.loop-k.o) = window_digits _ _ _ 1 c.window-x.ensures (omega arith) c.digits-in-loop-k.ensures ∙ gathered_one _ _ in
    let one< : c.digits-in-loop-k.result < 2 = omega (arith, one, bytes_binary c.args.body.now (8 * (c.args.p / 8) + c.loop-k.o)) in
    let few : c.width-o.result ≤ 2 = width_few c.member-member.result (to_z w32 (of_z w32 (cell c.args.plane.now (c.args.i + c.loop-k.k)))) c.width-o.ensures (one<) in
    let l = c.loop-k in let f : FitsSigned w32 (cell c.args.plane.now (c.args.i + l.k)) = search rules in (
      omega arith,
      length-set l.pairs _ _ ∙ l.invariant.1,
      omega arith,
      omega (arith, few),
      rw (← add_assoc) (takes_more l.k (omega (arith, l.invariant.1)) (to_z-of_z {w = w32} f) c.member-member.ensures two one c.width-o.ensures l.invariant.4),
    )
