use mathlib.Core.Path.{◌≡◌, sym, ◌∙◌}
use mathlib.Core.Bool.{true}
use Prim.Native.Nat.{◌<◌, ◌≤◌}
use native.Mathlib.Omega.{arith}
use mir.Syntax.{w32}
use mir.Val.{to_z, of_z}
use mir.Facts.{to_z-of_z}
use lib.ListN.{length, length-set}
use borrow.Author.Rules.{sfits_of}
use Rattle.std.proofs.Common.{FitsSigned, rules}
use Rattle.line.specs.Cells.{cell}
use Rattle.bitplane.specs.Body.{class}
use Rattle.bitplane.proofs.Classes.{class_in}
use Rattle.bitplane.proofs.Past.{bytes_binary, used_most}
use Rattle.reader.proofs.Passes.{more_skip, more_stop, more_on}
use Rattle.reader.proofs.read_rest.Goals as goal

pub loop-i-preserved-then-not-belongs : goal.loop-i-preserved-then-not-belongs
loop-i-preserved-then-not-belongs c = let l = c.loop-i in (
  omega arith,
  omega arith,
  l.invariant.2,
  more_skip l.i _ (omega arith) (λ k g h. let e : k ≡ l.i = omega arith in rw e (sym c.belongs.ensures ∙ c.if-not-belongs.true)) l.invariant.3,
)

pub returns-then-q-end : goal.returns-then-q-end
returns-then-q-end c = let on : class c.args.pass.now.mask.now c.args.pass.now.class c.loop-i.i ≡ true = sym c.belongs.ensures ∙ c.if-not-belongs.false in
    let l = c.loop-i in more_stop l.i _ (omega arith) on (omega arith) l.invariant.3

pub slice_copy_out-v : goal.slice_copy_out-v
slice_copy_out-v c = let on : class c.args.pass.now.mask.now c.args.pass.now.class c.loop-i.i ≡ true = sym c.belongs.ensures ∙ c.if-not-belongs.false in
    let inside : c.loop-i.i < length c.loop-i.plane = omega (arith, class_in _ _ _ c.requires.1.ready.class on, c.requires.1.ready.sizes, c.loop-i.invariant.2) in
    inside

pub bounds-plane-i : goal.bounds-plane-i
bounds-plane-i c = let on : class c.args.pass.now.mask.now c.args.pass.now.class c.loop-i.i ≡ true = sym c.belongs.ensures ∙ c.if-not-belongs.false in
    let inside : c.loop-i.i < length c.loop-i.plane = omega (arith, class_in _ _ _ c.requires.1.ready.class on, c.requires.1.ready.sizes, c.loop-i.invariant.2) in
    inside

pub width-requires : goal.width-requires
width-requires c = let bit< : c.bit-b.result < 2 = omega (arith, c.bit-b.ensures, bytes_binary c.args.pass.now.body.now c.loop-i.q) in
    (bit<, omega arith)

pub overflow_add-q : goal.overflow_add-q
overflow_add-q c = let bit< : c.bit-b.result < 2 = omega (arith, c.bit-b.ensures, bytes_binary c.args.pass.now.body.now c.loop-i.q) in
    let few : c.width.result ≤ 2 = let l = c.loop-i in
    omega (arith, c.width.ensures, used_most (to_z w32 (of_z w32 (cell l.plane l.i))) c.bit-b.result (bit<)) in
    omega (arith, few, c.requires.1.ready.small)

pub loop-i-preserved : goal.loop-i-preserved
loop-i-preserved c = let on : class c.args.pass.now.mask.now c.args.pass.now.class c.loop-i.i ≡ true = sym c.belongs.ensures ∙ c.if-not-belongs.false in
    let inside : c.loop-i.i < length c.loop-i.plane = omega (arith, class_in _ _ _ c.requires.1.ready.class on, c.requires.1.ready.sizes, c.loop-i.invariant.2) in
    let same : let v = cell c.loop-i.plane c.loop-i.i in to_z w32 (of_z w32 v) ≡ v = let f : FitsSigned w32 (cell c.loop-i.plane c.loop-i.i) = search rules in to_z-of_z {w = w32} f in
    let l = c.loop-i in (
      omega arith,
      omega arith,
      length-set l.plane _ _ ∙ l.invariant.2,
      more_on l.i on inside (omega arith) same
          c.bit-b.ensures (to_z-of_z {w = w32} (sfits_of {w = w32} c.grow.type_inv) ∙ c.grow.ensures ∙ c.pair-two.ensures.grows c.args.pass.now.t) c.width.ensures l.invariant.3,
    )
