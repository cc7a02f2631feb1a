-- `lifting::all_rows` does a stage on rows: one at a time, or where they lie end to end those between the borders as one run. Assumes nothing.
use mathlib.Core.Path.{◌∙◌}
use native.Mathlib.Omega.{arith}
use Rattle.lifting.proofs.Walks.{alike_run, takes_first, takes_run, takes_last, makes_all}
use Rattle.lifting.proofs.all_rows.Goals as goal

pub each_row-requires-2-clause-takes : goal.each_row-requires-2-clause-takes
each_row-requires-2-clause-takes g c = let a = c.args in takes_first g.T.OnRows.stage a.undo a.p a.d a.e a.l.now c.requires.takes c.AHEAD-ahead.result c.most-first.result c.least-seen.result
    (omega (arith, c.most-first.ensures)) (omega arith) (omega (arith, c.least-seen.ensures))

pub rows-requires-clause-alike : goal.rows-requires-clause-alike
rows-requires-clause-alike g c = let a = c.args in let met = g.met.T.OnRows in
    alike_run g.T.OnRows.stage a.undo a.p a.d a.e a.l.now c.requires.takes c.AHEAD-ahead.result c.most-first.result c.least-seen.result
    (omega (arith, c.most-first.ensures)) (omega arith) (omega (arith, c.least-seen.ensures))
    (c.BACK.ensures ∙ met.back_is) (c.AHEAD-ahead.ensures ∙ met.ahead_is) (omega (arith, c.most-first.ensures)) (omega (arith, c.least-seen.ensures))

pub rows-requires-clause-takes : goal.rows-requires-clause-takes
rows-requires-clause-takes g c = let a = c.args in
    takes_run g.T.OnRows.stage a.undo a.p a.d a.e a.l.now c.requires.takes c.AHEAD-ahead.result c.most-first.result c.least-seen.result
    (omega (arith, c.most-first.ensures)) (omega arith) (omega (arith, c.least-seen.ensures)) _ c.each_row-2.ensures

pub each_row-requires-3-clause-takes : goal.each_row-requires-3-clause-takes
each_row-requires-3-clause-takes g c = let a = c.args in
    takes_last g.T.OnRows.stage a.undo a.p a.d a.e a.l.now c.requires.takes c.AHEAD-ahead.result c.most-first.result c.least-seen.result
    (omega (arith, c.most-first.ensures)) (omega arith) (omega (arith, c.least-seen.ensures)) _ c.each_row-2.ensures _ c.rows.ensures

pub returns : goal.returns
returns g c = let a = c.args in
    makes_all g.T.OnRows.stage a.undo a.p a.d a.e a.l.now c.requires.takes c.AHEAD-ahead.result c.most-first.result c.least-seen.result
    (omega (arith, c.most-first.ensures)) (omega arith) (omega (arith, c.least-seen.ensures))
    _ c.each_row-2.ensures _ c.rows.ensures _ c.each_row-3.ensures
