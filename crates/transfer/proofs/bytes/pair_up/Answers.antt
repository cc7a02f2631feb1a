use mathlib.Core.Path.{◌≡◌, ap, ◌∙◌}
use mathlib.Core.List.{[]}
use Prim.Native.Nat.{◌+◌, ◌*◌, ◌/◌, ◌<◌}
use native.Mathlib.Omega.{arith}
use lib.ListN.{get_or}
use Rattle.line.specs.Cells.{low_side}
use Rattle.transfer.specs.Parting.{Paired}
use Rattle.transfer.proofs.Parting.{pair_count, pair_cell, last_cell, paired_none, paired_more, paired_last}
use Rattle.transfer.proofs.bytes.pair_up.Goals as goal

pub loop-k-init : goal.loop-k-init
loop-k-init c = paired_none _

pub loop-k-preserved : goal.loop-k-preserved
loop-k-preserved c = let a = c.args in let k = c.loop-k.k in let fits = c.requires.0 in let f = c.as_chunks.ensures in
    let inside : k < a.w / 2 = omega (arith, pair_count _ _ _ fits f.front_len, c.loop-k-test.true) in
    let first : get_or (get_or c.as_chunks.result.0.now k []) 0 0 ≡ get_or a.src.now (a.from + 2 * k) 0 = pair_cell _ _ _ fits f.front k 0 inside (omega arith) ∙ ap (λ i. get_or a.src.now i 0) (omega arith) in
    let second : get_or (get_or c.as_chunks.result.0.now k []) 1 0 ≡ get_or a.src.now (a.from + 2 * k + 1) 0 = pair_cell _ _ _ fits f.front k 1 inside (omega arith) ∙ ap (λ i. get_or a.src.now i 0) (omega arith) in
    paired_more k c.loop-k.invariant (omega (arith, c.requires, c.loop-k.auto.line)) (omega (arith, c.type_inv.src (a.from + 2 * k)))
    (c.from_le_bytes.ensures ∙ omega (arith, first, second))

pub returns-then-w-eq1 : goal.returns-then-w-eq1
returns-then-w-eq1 c = let a = c.args in let k = c.loop-k.k in let fits = c.requires.0 in
    let all : k ≡ a.w / 2 = omega (arith, pair_count _ _ _ fits c.as_chunks.ensures.front_len, c.loop-k-test.false, c.loop-k.auto.k-end) in
    let side : a.w / 2 + 1 ≡ low_side a.w = omega arith in
    let pairs : Paired a.from (a.w / 2) (a.w / 2) a.src.now c.loop-k.line = rw all at c.loop-k.invariant in
    rw side at (paired_last (a.w / 2) pairs (omega (arith, c.requires, c.loop-k.auto.line)) (omega (arith, c.type_inv.src (a.from + 2 * (a.w / 2))))
    (c.from.ensures ∙ last_cell _ _ _ fits c.as_chunks.ensures.back c.if-w-eq1.true))

pub returns-else-w-eq1 : goal.returns-else-w-eq1
returns-else-w-eq1 c = let a = c.args in
    let all : c.loop-k.k ≡ a.w / 2 = omega (arith, pair_count _ _ _ c.requires.0 c.as_chunks.ensures.front_len, c.loop-k-test.false, c.loop-k.auto.k-end) in
    let side : a.w / 2 ≡ low_side a.w = omega arith in
    let pairs : Paired a.from (a.w / 2) (a.w / 2) a.src.now c.loop-k.line = rw all at c.loop-k.invariant in
    record { first = λ i h. pairs.first i (omega arith); second = pairs.second }
