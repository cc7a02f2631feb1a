-- `reader::read_few` reads the planes of a class into a list, and puts it where it belongs. Assumes nothing.
use mathlib.Core.Path.{◌≡◌, sym, ◌∙◌}
use mathlib.Core.Bool.{true}
use mathlib.Core.List.{◌++◌}
use Prim.Native.Nat.{ℕ, ◌<◌}
use native.Mathlib.Omega.{arith}
use lib.IntN.{pos}
use lib.ListN.{length, drop, replicate, length-replicate}
use lib.Seq.{length_front}
use Rattle.bitplane.specs.Body.{class}
use Rattle.bitplane.proofs.Classes.{class_in}
use Rattle.members.proofs.Collection.{ones_on}
use Rattle.reader.proofs.Lists.{list_ready, list_spare, list_read}
use Rattle.reader.proofs.read_few.Goals as goal

pub read_planes-reached-requires : goal.read_planes-reached-requires
read_planes-reached-requires c = record { top_bound = (omega (arith, c.requires.top_bound.0), list_ready {k = 65536} c.requires.members_bound.0 (omega arith) c.requires.top_bound.1); spare = list_spare {k = 65536} c.requires.members_bound.0 (omega arith) _ c.requires.top_bound.0 }

pub slice_bounds-spread-end : goal.slice_bounds-spread-end
slice_bounds-spread-end c = let long : length (c.read_planes-reached.new.plane ++ drop c.args.members (replicate 65536 (pos 0))) ≡ 65536 = length_front (replicate 65536 (pos 0)) c.read_planes-reached.new.plane c.args.members c.read_planes-reached.auto.plane ∙ length-replicate 65536 (pos 0) in
    sym long

pub spread-requires : goal.spread-requires
spread-requires c = let long : length (c.read_planes-reached.new.plane ++ drop c.args.members (replicate 65536 (pos 0))) ≡ 65536 = length_front (replicate 65536 (pos 0)) c.read_planes-reached.new.plane c.args.members c.read_planes-reached.auto.plane ∙ length-replicate 65536 (pos 0) in
    let r = c.requires.top_bound.1 in
    record { known = omega (arith, r.class); over = r.sizes; size = r.few; room = omega (arith, long, c.requires.members_bound) }

pub returns : goal.returns
returns c = let r = c.requires.top_bound.1 in
    let inside : (i : ℕ) → class c.args.mask.now c.args.c i ≡ true → i < length c.args.plane.now = λ i o. omega (arith, class_in c.args.mask.now c.args.c i r.class o, r.sizes) in
    let d = c.read_planes-reached in
    let w = c.spread in let m = c.args.members in
    list_read _ {k = 65536} c.args.plane.now w.new.plane d.new.plane (drop m (replicate 65536 (pos 0))) c.requires.top_bound.2 inside c.requires.members_bound.1 c.requires.members_bound.0 (ones_on m 65536 c.requires.members_bound.0) w.ensures.collected w.ensures.kept
    c.args.top d.auto.plane d.ensures
