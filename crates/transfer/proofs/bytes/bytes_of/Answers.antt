use mathlib.Core.Path.{◌≡◌, ap, ◌∙◌}
use mathlib.Core.List.{List, [], ◌∷◌}
use Prim.Native.Nat.{ℕ, zero, suc, ◌/◌, ◌%◌, ◌^◌, ◌<◌}
use native.Mathlib.Omega.{arith}
use lib.ListN.{length, get_or, take}
use lib.Seq.{length-take-le}
use Rattle.std.proofs.lemmas.List.{get_or-take}
use Rattle.transfer.proofs.Parting.{written_more}
use Rattle.transfer.proofs.bytes.bytes_of.Goals as goal

-- byte b of the two of v
byte : (b v : ℕ) → b < 2 → (l : List ℕ) → l ≡ v % 256 ∷ v / 256 % 256 ∷ [] → get_or l b 0 ≡ v / 256 ^ b % 256
byte zero v h l e = rw e (omega arith)
byte (suc zero) v h l e = rw e (omega arith)
byte (suc (suc b)) v h l e = absurd (omega arith)

pub loop-k-preserved : goal.loop-k-preserved
loop-k-preserved g c = let a = c.args in
    let many : length (take a.n a.line.now) ≡ a.n = length-take-le a.n a.line.now c.requires.in_bounds.0 in
    let there : get_or (take a.n a.line.now) c.loop-k.k 0 ≡ get_or a.line.now c.loop-k.k 0 = get_or-take a.n a.line.now c.loop-k.k 0 (omega (arith, many, c.loop-k-test.true)) in
    written_more c.loop-k.k c.loop-k.invariant (omega (arith, c.requires.in_bounds, many, c.loop-k-test.true)) (byte g.row.BYTE _ c.requires.byte _ c.to_le_bytes.ensures ∙ ap (λ v. v / 256 ^ g.row.BYTE % 256) there)

pub returns : goal.returns
returns g c = let a = c.args in
    let many : length (take a.n a.line.now) ≡ a.n = length-take-le a.n a.line.now c.requires.in_bounds.0 in
    let all : c.loop-k.k ≡ a.n = omega (arith, many, c.loop-k-test.false, c.loop-k.auto.k-end) in
    rw all at c.loop-k.invariant
