-- `writer::write_few` writes the planes of a class that is collected first. Assumes nothing.
use mathlib.Core.Path.{◌≡◌, sym, ◌∙◌}
use Prim.Native.Nat.{ℕ, ◌≤◌}
use native.Mathlib.Omega.{arith}
use lib.IntN.{pos}
use lib.ListN.{length, take, replicate, length-replicate}
use lib.Seq.{length-take-le}
use Rattle.line.proofs.Lists.{front_length}
use Rattle.members.proofs.Collection.{front_body}
use Rattle.writer.specs.Written.{part}
use Rattle.writer.proofs.write_few.Goals as goal

pub write_planes-requires : goal.write_planes-requires
write_planes-requires c = let fits : c.collect-n.result ≤ 65536 = omega (arith, c.collect-n.ensures.many, c.requires.top_bound.2) in
    let long : length c.collect-n.new.list ≡ 65536 = c.collect-n.auto.list ∙ length-replicate 65536 (pos 0) in
    let same : let n = c.collect-n.result in
    part c.args.mask.now c.args.top c.args.plane.now c.args.c ≡ part (take n (replicate 65536 1)) c.args.top (take n c.collect-n.new.list) 1 = front_body c.collect-n.new.list c.collect-n.ensures 65536 _ (omega (arith, fits, long)) fits in
    let front : length (take c.collect-n.result c.collect-n.new.list) ≡ c.collect-n.result = length-take-le _ _ (omega (arith, fits, long)) in
    let over : let n = c.collect-n.result in length (take n (replicate {A = ℕ} 65536 1)) ≡ length (take n c.collect-n.new.list) = sym (front_length {k = 65536} 1 fits) ∙ sym front in
    record {
      top_bound = (c.requires.top_bound.0, record { over = over; size = omega (arith, fits, front); known = omega arith });
      room = rw same at c.requires.room;
    }

pub returns : goal.returns
returns c = let long : length c.collect-n.new.list ≡ 65536 = c.collect-n.auto.list ∙ length-replicate 65536 (pos 0) in
    let fits : c.collect-n.result ≤ 65536 = omega (arith, c.collect-n.ensures.many, c.requires.top_bound.2) in
    let same : let n = c.collect-n.result in
    part c.args.mask.now c.args.top c.args.plane.now c.args.c ≡ part (take n (replicate 65536 1)) c.args.top (take n c.collect-n.new.list) 1 = front_body c.collect-n.new.list c.collect-n.ensures 65536 _ (omega (arith, fits, long)) fits in
    rw same c.write_planes.ensures
