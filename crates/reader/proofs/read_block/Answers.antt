-- `reader::read_block` reads 16 coefficients of a pass. Assumes nothing.
use mathlib.Core.Path.{◌≡◌, sym, ◌∙◌}
use Prim.Native.Nat.{◌+◌, ◌*◌, ◌/◌, ◌%◌, ◌≤◌}
use native.Mathlib.Omega.{arith}
use mir.Syntax.{w32}
use mir.Facts.{to_z-of_z}
use borrow.Author.Rules.{sfits_of}
use Rattle.line.specs.Cells.{behind}
use Rattle.line.proofs.Counts.{count-le}
use Rattle.bitplane.specs.Bits.{bit_at, gathered}
use Rattle.bitplane.specs.Body.{class}
use Rattle.cursor.proofs.Windows.{window_digits}
use Rattle.reader.proofs.Blocks.{part_continues, block_part, block_none, block_silent, block_small}
use Rattle.reader.proofs.read_block.Goals as goal

pub returns-then-members-eq0 : goal.returns-then-members-eq0
returns-then-members-eq0 c = block_none _ _ _ 16 (sym c.among-members.ensures ∙ c.if-members-eq0.true) c.requires.2.ready.place

pub digits-requires : goal.digits-requires
digits-requires c = let few : c.among-members.result ≤ 16 = let s = c.args in omega (arith, c.among-members.ensures, count-le 16 (behind s.i (class s.pass.now.mask.now s.pass.now.class))) in
    (omega arith, omega (arith, few), omega (arith, few))

pub overflow_add-result : goal.overflow_add-result
overflow_add-result c = let few : c.among-members.result ≤ 16 = let s = c.args in omega (arith, c.among-members.ensures, count-le 16 (behind s.i (class s.pass.now.mask.now s.pass.now.class))) in
    omega (arith, few, c.requires.2.ready.small)

pub returns-then-digits-eq0 : goal.returns-then-digits-eq0
returns-then-digits-eq0 c = let few : c.among-members.result ≤ 16 = let s = c.args in omega (arith, c.among-members.ensures, count-le 16 (behind s.i (class s.pass.now.mask.now s.pass.now.class))) in
    let next : let s = c.args in c.digits.result ≡ gathered (bit_at s.pass.now.body.now) s.p c.among-members.result = let s = c.args in let e : 8 * (s.p / 8) + s.p % 8 ≡ s.p = omega arith in
    rw e at (window_digits _ _ (s.p % 8) c.among-members.result c.window-x.ensures (omega (arith, few)) c.digits.ensures) in
    block_silent _ _ _ 16 c.among-members.ensures (sym next ∙ c.if-digits-eq0.true) (omega (arith, few))

pub grow_all-requires : goal.grow_all-requires
grow_all-requires c = let s = c in let t = c.take-q in
    (s.requires.0, t.auto.pairs, to_z-of_z {w = w32} (sfits_of {w = w32} c.weight.type_inv) ∙ c.weight.ensures, block_small _ _ _ t.ensures s.requires.2.spare)

pub returns : goal.returns
returns c = let s = c in
    part_continues _ _ _ (block_part _ _ _ (omega (arith, s.requires.1)) c.take-q.ensures c.grow_all.ensures) (omega (arith, s.requires.1))
