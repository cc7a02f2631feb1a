use mathlib.Core.Path.{◌≡◌, ◌∙◌}
use mathlib.Core.Bool.{true}
use Prim.Native.Nat.{◌+◌}
use native.Mathlib.Nat.{add_assoc}
use native.Mathlib.Omega.{arith}
use mir.Syntax.{w32}
use mir.Facts.{to_z-of_z}
use lib.ListN.{length-set}
use Rattle.std.proofs.Common.{FitsSigned, rules}
use Rattle.line.specs.Cells.{cell}
use Rattle.bitplane.specs.Body.{class}
use Rattle.members.proofs.Collection.{collected_skip, into_plane, kept_set}
use Rattle.members.proofs.Parts.{part_on, part_off, part_fits}
use Rattle.members.proofs.spread_run.Goals as goal

pub loop-k-preserved-then-class-c : goal.loop-k-preserved-then-class-c
loop-k-preserved-then-class-c c = let l = c.loop-k in let r = c.requires.from_le_to in
    rw (← add_assoc) (l.invariant.0, collected_skip (part_off _ _ c.args.from c.args.to l.k (omega arith) (omega (arith, r.2.over)) c.if-class-c.true) l.invariant.1, l.invariant.2)

pub offset_bounds-list-m : goal.offset_bounds-list-m
offset_bounds-list-m c = let l = c.loop-k in let r = c.requires.from_le_to in
    omega (arith, part_fits c.args.from c.args.to l.k r.2 (omega arith) (omega (arith, r.2.over)) c.if-class-c.false l.invariant.1)

pub bounds-list-m : goal.bounds-list-m
bounds-list-m c = let l = c.loop-k in let r = c.requires.from_le_to in
    omega (arith, part_fits c.args.from c.args.to l.k r.2 (omega arith) (omega (arith, r.2.over)) c.if-class-c.false l.invariant.1)

pub overflow_add-m : goal.overflow_add-m
overflow_add-m c = let l = c.loop-k in let r = c.requires.from_le_to in
    omega (arith, part_fits c.args.from c.args.to l.k r.2 (omega arith) (omega (arith, r.2.over)) c.if-class-c.false l.invariant.1)

pub loop-k-preserved : goal.loop-k-preserved
loop-k-preserved c = let l = c.loop-k in let r = c.requires.from_le_to in
    let member : class c.args.mask.now c.args.c (c.args.from + l.k) ≡ true = part_on _ _ c.args.from c.args.to l.k (omega arith) (omega (arith, r.2.over)) c.if-class-c.false in
    let f : FitsSigned w32 (cell c.args.list.now l.m) = search rules in rw (← add_assoc) (
      length-set l.plane _ _ ∙ l.invariant.0,
      into_plane member l.invariant.1.many l.plane (omega (arith, l.invariant.0)) (to_z-of_z {w = w32} f) l.invariant.1,
      kept_set l.plane _ _ member l.invariant.2,
    )
