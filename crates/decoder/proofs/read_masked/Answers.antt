-- `decoder::read_masked` reads the body of a stream whose mask is drawn. Assumes nothing.
use mathlib.Core.Path.{◌≡◌, sym, ◌∙◌}
use Prim.Native.Nat.{◌*◌, ◌-◌, ◌^◌, ◌<◌}
use native.Mathlib.Omega.{arith}
use lib.ListN.{length, take, drop}
use Rattle.header.specs.Header.{body_of}
use Rattle.header.proofs.Parts.{body_is}
use Rattle.region.specs.Drawing.{Filled}
use Rattle.decoder.proofs.Bodies.{body_small, few, sizes, small_area, binary, marks_are, end_small, marked_small, found_filling, found_cut, found_whole}
use Rattle.decoder.proofs.read_masked.Goals as goal

pub read_body-found-requires : goal.read_body-found-requires
read_body-found-requires c = let small : let l = c.args.stream.now in let m = c.front_length-front.result in 8 * length (take (length l - m) (drop m l)) < 2 ^ 62 = body_small c.args.stream.now (λ i. omega (arith, c.type_inv.stream i)) c.requires.header c.front_length-front.result in
    let k = c.requires in record { top_bound = (few k, sizes k, small_area k, small); by_index = binary k; marks_value = marks_are k c.mark_count-marks.ensures }

pub bad_filling-requires : goal.bad_filling-requires
bad_filling-requires c = let is : let l = c.args.stream.now in let m = c.front_length-front.result in take (length l - m) (drop m l) ≡ body_of l = body_is c.args.stream.now _ c.front_length-front.ensures c.requires.header c.requires.version in
    let small : let l = c.args.stream.now in let m = c.front_length-front.result in 8 * length (take (length l - m) (drop m l)) < 2 ^ 62 = body_small c.args.stream.now (λ i. omega (arith, c.type_inv.stream i)) c.requires.header c.front_length-front.result in
    (small, end_small c.requires is c.read_body-found.ensures small)

pub returns-then-bad_filling : goal.returns-then-bad_filling
returns-then-bad_filling c = let is : let l = c.args.stream.now in let m = c.front_length-front.result in take (length l - m) (drop m l) ≡ body_of l = body_is c.args.stream.now _ c.front_length-front.ensures c.requires.header c.requires.version in
    let zeroed : let m = c.args.mask.now in Filled 0 0 (length m) m c.clear-then-bad_filling.new.region = c.clear-then-bad_filling.ensures in
    found_filling c.requires is c.read_body-found.ensures (sym c.if-bad_filling.true ∙ c.bad_filling.ensures) (c.clear.auto.plane ∙ c.read_body-found.auto.plane) c.clear.ensures zeroed

pub overflow_mul-body : goal.overflow_mul-body
overflow_mul-body c = let small : let l = c.args.stream.now in let m = c.front_length-front.result in 8 * length (take (length l - m) (drop m l)) < 2 ^ 62 = body_small c.args.stream.now (λ i. omega (arith, c.type_inv.stream i)) c.requires.header c.front_length-front.result in
    omega (arith, small)

pub returns-then-body-marked : goal.returns-then-body-marked
returns-then-body-marked c = let is : let l = c.args.stream.now in let m = c.front_length-front.result in take (length l - m) (drop m l) ≡ body_of l = body_is c.args.stream.now _ c.front_length-front.ensures c.requires.header c.requires.version in
    found_cut c.requires is c.read_body-found.ensures (sym c.if-bad_filling.false ∙ c.bad_filling.ensures) c.read_body-found.auto.plane c.mark_count-marks.ensures c.if-body-marked.true

pub overflow_add-result : goal.overflow_add-result
overflow_add-result c = let is : let l = c.args.stream.now in let m = c.front_length-front.result in take (length l - m) (drop m l) ≡ body_of l = body_is c.args.stream.now _ c.front_length-front.ensures c.requires.header c.requires.version in
    let small : let l = c.args.stream.now in let m = c.front_length-front.result in 8 * length (take (length l - m) (drop m l)) < 2 ^ 62 = body_small c.args.stream.now (λ i. omega (arith, c.type_inv.stream i)) c.requires.header c.front_length-front.result in
    omega (arith, marked_small c.requires is c.read_body-found.ensures small)

pub returns : goal.returns
returns c = let is : let l = c.args.stream.now in let m = c.front_length-front.result in take (length l - m) (drop m l) ≡ body_of l = body_is c.args.stream.now _ c.front_length-front.ensures c.requires.header c.requires.version in
    found_whole c.requires is c.read_body-found.ensures (sym c.if-bad_filling.false ∙ c.bad_filling.ensures) c.read_body-found.auto.plane c.mark_count-marks.ensures c.front_length-front.ensures c.if-body-marked.false
