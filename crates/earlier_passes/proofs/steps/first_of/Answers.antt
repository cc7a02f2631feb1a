-- `steps::first_of` is mean + floor ((difference + 1) / 2). Assumes nothing.
use mathlib.Core.Path.{◌≡◌, ap, ◌∙◌}
use native.Mathlib.Omega.{arith}
use borrow.Author.Rules.{sfits_of}
use lib.IntN.{ℤ, pos, ◌+ℤ◌}
use mir.Syntax.{w32, w64}
use mir.Val.{SFits}
use Rattle.whole.specs.Floor.{floor_div}
use Rattle.whole.proofs.Linear.{ι_split, lin, size, widen}
use Rattle.whole.proofs.Run.{wide, var, lit, ◌⊕◌, Run}
use Rattle.earlier_passes.proofs.Wide.{cast, floored, asks32, gives32}
use Rattle.earlier_passes.proofs.steps.first_of.Goals as goal

pub returns : goal.returns
returns c = let more : Run w64 (wide c.args.difference ⊕ lit 1) = let d = c.args.difference in record { fit = (cast c.ranges.difference, tt, rw (ι_split d) (simp lin (omega (arith, size d)))) } in
    let plain : c.floor2-half.result ≡ floor_div (c.args.difference +ℤ pos 1) 2 = floored 2 more c.floor2-half.ensures in
    let fits : SFits w32 (c.args.mean +ℤ c.floor2-half.result) = rw plain c.requires in
    let run : Run w64 (wide c.args.mean ⊕ var c.floor2-half.result) = record { fit = (cast c.ranges.mean, sfits_of c.floor2-half.type_inv, widen fits) } in
    gives32 run fits ∙ ap (λ (k : ℤ). c.args.mean +ℤ k) plain

pub overflow_cast-result-2 : goal.overflow_cast-result-2
overflow_cast-result-2 c = let more : Run w64 (wide c.args.difference ⊕ lit 1) = let d = c.args.difference in record { fit = (cast c.ranges.difference, tt, rw (ι_split d) (simp lin (omega (arith, size d)))) } in
    let plain : c.floor2-half.result ≡ floor_div (c.args.difference +ℤ pos 1) 2 = floored 2 more c.floor2-half.ensures in
    let fits : SFits w32 (c.args.mean +ℤ c.floor2-half.result) = rw plain c.requires in
    let run : Run w64 (wide c.args.mean ⊕ var c.floor2-half.result) = record { fit = (cast c.ranges.mean, sfits_of c.floor2-half.type_inv, widen fits) } in
    asks32 run fits
