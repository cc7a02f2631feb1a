use Rattle.std.proofs.Common.{rules}
use mathlib.Core.List.{[], ◌∷◌}
use mathlib.Core.Logic.{inl, inr}
use mathlib.Core.Path.{refl, sym, ◌∙◌}
use native.Mathlib.Omega.{arith}
use Rattle.brightness.proofs.Rows.{sum_one, summed_more, summed_all}
use Rattle.brightness.proofs.row_sum.Goals as goal

pub loop-sample-preserved : goal.loop-sample-preserved
loop-sample-preserved c = let e = c.in-Some.ensures.steps in let x = c.in-Some.sample.now in let b = c.in-Some.byte.now in
    (search rules, search rules, summed_more (x ∷ []) _ (b ∷ []) _ c.loop-sample.invariant.2 e.0 e.1 refl (c.kept-sum.ensures.value ∙ sym (sum_one x b)) c.kept-sum.ensures.upper_bound)

pub returns-clause-value : goal.returns-clause-value
returns-clause-value c = let i = c.loop-sample.invariant.2 in
    elim c.in-None.ensures.steps [ inl q ↦ summed_all i (omega (arith, q.1.0, i.same)) | inr q ↦ summed_all i q.1.0 ]
