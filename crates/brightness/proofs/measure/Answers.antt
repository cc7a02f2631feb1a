use Rattle.std.proofs.Common.{rules}
use mathlib.Core.Logic.{inl, inr}
use mathlib.Core.Path.{sym, ◌∙◌}
use native.Mathlib.Omega.{arith}
use Rattle.brightness.proofs.Rows.{passed_more, passed_bad, passed_all, passed_next, rows_next, rows_end}
use Rattle.brightness.proofs.measure.Goals as goal

pub returns-then-row_bad : goal.returns-then-row_bad
returns-then-row_bad c = passed_bad _ _ c.loop-samples.invariant.5 c.in-Some.ensures.steps.1.1.0 (sym c.row_bad.ensures ∙ c.if-row_bad.true)

pub overflow_add-number : goal.overflow_add-number
overflow_add-number c =
    omega (arith, passed_next _ _ c.loop-samples.invariant.5 c.in-Some.ensures.steps.1.1.0 (c.from-number.ensures ∙ c.row_number.ensures), c.requires.most)

pub loop-samples-preserved : goal.loop-samples-preserved
loop-samples-preserved c = let e = c.in-Some.ensures.steps in let i = c.loop-samples.invariant in
    let p = e.0.1.1 ∙ i.2 in let r = e.1.1.1 ∙ i.3 in (
      search rules,
      search rules,
      e.0.0 ∙ i.2,
      e.1.0 ∙ i.3,
      rows_next _ _ c.args.w i.4.0 c.requires.some e.1.1.0 r i.4.1,
      passed_more _ _ _ _ i.5 e.0.1.0 e.1.1.0 (p ∙ sym r) (sym c.row_bad.ensures ∙ c.if-row_bad.false)
          (c.from-number.ensures ∙ c.row_number.ensures) (c.from-sum.ensures ∙ c.row_sum.ensures.value) (omega (arith, c.from-sum.ensures, c.row_sum.ensures.upper_bound)),
    )

pub returns : goal.returns
returns c = let i = c.loop-samples.invariant in
    elim c.in-None.ensures.steps [
      | inl q ↦ passed_all i.5 (rows_end c.args.w i.4.0 _ i.4.1 (omega (arith, q.1.1.0, i.5.summed.same, i.2)))
      | inr q ↦ passed_all i.5 (rows_end c.args.w i.4.0 _ i.4.1 (omega (arith, q.1.1.0, i.3)))
    ]
