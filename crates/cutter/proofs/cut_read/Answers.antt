-- `cutter::cut_read` cuts a stream that was read, or refuses. Assumes nothing.
use mathlib.Core.Path.{refl, ap}
use Prim.Native.Nat.{◌≤◌}
use native.Mathlib.Omega.{arith}
use lib.ListN.{length}
use borrow.Author.Rules.{rules}
use borrow.Author.Tests.{ltb-true, ltb-false}
use Rattle.refusal.specs.declared.Refusal.TheVariants.{Cut}
use Rattle.header.proofs.Parts.{good_small}
use Rattle.decoder.specs.Answers.{is_whole, place_of}
use Rattle.cutter.proofs.Answered.{refused, too_short, done, not_whole, front_most, below_mark, above_stream, no_room, passed}
use Rattle.cutter.proofs.Buffers.{copied, cut_laid}
use Rattle.cutter.proofs.cut_read.Goals as goal

pub returns-in_default : goal.returns-in_default
returns-in_default c = refused Cut refl (not_whole c.requires _ _ (ap is_whole c.in_default.is))

pub returns-in_err-refuse : goal.returns-in_err-refuse
returns-in_err-refuse c = let below = ltb-true _ _ c.in_err-refuse.ensures.0 in
    let a = refused {l = c.args.stream.now} {out = c.args.out.now} {c = c.args.wanted} Cut refl (below_mark c.requires c.args.wanted (length c.args.out.now) (ap is_whole c.in-Some.is) (omega (arith, ap place_of c.in-Some.is, below))) in search rules

pub returns-in_err-refuse-2 : goal.returns-in_err-refuse-2
returns-in_err-refuse-2 c = let at_mark = ltb-false _ _ c.in_ok-refuse.ensures in
    let a = refused {l = c.args.stream.now} {out = c.args.out.now} {c = c.args.wanted} Cut refl (above_stream c.requires c.args.wanted (length c.args.out.now) (ap is_whole c.in-Some.is) (omega (arith, ap place_of c.in-Some.is, at_mark)) (ltb-true _ _ c.in_err-refuse-2.ensures.0)) in search rules

pub returns-then-out-wanted : goal.returns-then-out-wanted
returns-then-out-wanted c = let at_mark = ltb-false _ _ c.in_ok-refuse.ensures in let inside = ltb-false _ _ c.in_ok-refuse-2.ensures in
    too_short (no_room c.requires _ _ (ap is_whole c.in-Some.is) (omega (arith, ap place_of c.in-Some.is, at_mark)) inside (omega arith))

pub put_four-requires : goal.put_four-requires
put_four-requires c = let at_mark = ltb-false _ _ c.in_ok-refuse.ensures in let inside = ltb-false _ _ c.in_ok-refuse-2.ensures in
    let long : 14 ≤ c.args.wanted = omega (arith, ap place_of c.in-Some.is, at_mark, front_most c.requires (ap is_whole c.in-Some.is)) in
    (omega (arith, c.copy.auto.dst, long), omega (arith, inside, good_small c.args.stream.now (λ i. omega (arith, c.type_inv.stream i)) c.requires.header))

pub returns : goal.returns
returns c = let at_mark = ltb-false _ _ c.in_ok-refuse.ensures in let inside = ltb-false _ _ c.in_ok-refuse-2.ensures in
    let long : 14 ≤ c.args.wanted = omega (arith, ap place_of c.in-Some.is, at_mark, front_most c.requires (ap is_whole c.in-Some.is)) in
    done (passed c.requires _ _ (ap is_whole c.in-Some.is) (omega (arith, ap place_of c.in-Some.is, at_mark)) inside (omega arith))
    (cut_laid c.args.stream.now c.args.out.now c.args.wanted (omega (arith, long)) inside (omega arith) (copied c.args.stream.now c.args.out.now c.args.wanted inside (omega arith) (c.copy.ensures 0)) c.put_four.ensures)
