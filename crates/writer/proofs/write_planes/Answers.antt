use mathlib.Core.Path.{◌≡◌}
use native.Mathlib.Omega.{arith}
use lib.ListN.{length}
use Rattle.writer.proofs.Passes.{rest_room, rest_more, rest_done}
use Rattle.writer.proofs.write_planes.Goals as goal

pub write_pass-q-requires : goal.write_pass-q-requires
write_pass-q-requires c = let long : length c.find.new.index ≡ 4096 = c.find.auto.index in
    let l = c.loop-t.invariant in record { within = (record { ready = c.requires.top_bound.1; depth = omega arith }, long, c.find.ensures); room = rest_room _ _ _ (omega arith) l.1 }

pub loop-t-preserved : goal.loop-t-preserved
loop-t-preserved c = let l = c.loop-t.invariant in let w = c.write_pass-q in
    (omega arith, rest_more _ _ _ (omega arith) l.1 w.auto.out w.ensures)

pub returns : goal.returns
returns c = rest_done _ _ _ (omega arith) c.loop-t.invariant.1
