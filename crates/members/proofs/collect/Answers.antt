use mathlib.Core.Path.{◌≡◌, ◌∙◌}
use native.Mathlib.Omega.{arith}
use lib.IntN.{pos, nat_abs}
use lib.ListN.{length}
use lib.Seq.{length-take-le}
use Rattle.whole.proofs.Linear.{reading}
use Rattle.line.specs.Cells.{cell}
use Rattle.bitplane.specs.Body.{class}
use Rattle.members.specs.Collection.{Collected}
use Rattle.members.proofs.Collection.{fetched_none, fetched_place, fetched_all, front_collected, collected_front}
use Rattle.members.proofs.collect.Goals as goal

pub loop-v-init : goal.loop-v-init
loop-v-init c = let found : Collected (class c.args.mask.now c.args.c) pos (length c.args.plane.now) (cell c.places-n.new.list) c.places-n.result = rw c.requires.over at c.places-n.ensures in
    fetched_none (front_collected _ found)

pub bounds-plane-magnitude : goal.bounds-plane-magnitude
bounds-plane-magnitude c = let found : Collected (class c.args.mask.now c.args.c) pos (length c.args.plane.now) (cell c.places-n.new.list) c.places-n.result = rw c.requires.over at c.places-n.ensures in
    let place : c.magnitude.result ≡ nat_abs (cell c.loop-v.v-items c.loop-v.v-index) = c.magnitude.ensures ∙ search reading in
    let many = length-take-le c.places-n.result c.places-n.new.list (omega (arith, found.many, c.requires.room, c.places-n.auto.list)) in
    rw place (fetched_place found.many (omega (arith, many, c.loop-v.auto.v-items)) c.loop-v.invariant)

pub returns : goal.returns
returns c = let found : Collected (class c.args.mask.now c.args.c) pos (length c.args.plane.now) (cell c.places-n.new.list) c.places-n.result = rw c.requires.over at c.places-n.ensures in
    let many = length-take-le c.places-n.result c.places-n.new.list (omega (arith, found.many, c.requires.room, c.places-n.auto.list)) in
    collected_front _ _ (omega (arith, many, c.loop-v.auto.v-items)) (fetched_all found.many (omega (arith, many)) c.loop-v.invariant)
