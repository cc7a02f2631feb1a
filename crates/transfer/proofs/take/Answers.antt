use mathlib.Core.Path.{◌≡◌, ◌∙◌}
use native.Mathlib.Omega.{arith}
use Rattle.grid.proofs.Parted.{source}
use Rattle.transfer.proofs.Parting.{source_at-source, source_inside, rows_parted, strip_parted}
use Rattle.transfer.proofs.Strips.{row_fits, moved_none, moved_more, moved_all}
use Rattle.transfer.proofs.take.Goals as goal

pub overflow_mul-begin : goal.overflow_mul-begin
overflow_mul-begin g c = omega (arith, source_inside c.requires.in_buffer c.loop-n-test.true c.source.ensures)

pub loop-n-init : goal.loop-n-init
loop-n-init g c = λ o. moved_none

pub copy-requires : goal.copy-requires
copy-requires g c = let row : c.source.result ≡ source c.args.w c.loop-n.n = c.source.ensures ∙ source_at-source c.args.w _ c.loop-n.n (omega arith) in
    rw row (row_fits (rows_parted c.requires.in_buffer c.requires.w_bound.1) c.loop-n-test.true c.loop-n.auto.strip)

pub loop-n-preserved : goal.loop-n-preserved
loop-n-preserved g c = let row : c.source.result ≡ source c.args.w c.loop-n.n = c.source.ensures ∙ source_at-source c.args.w _ c.loop-n.n (omega arith) in
    λ o.
    moved_more (rows_parted c.requires.in_buffer c.requires.w_bound.1) c.loop-n-test.true (c.loop-n.invariant o) (rw row at (c.copy.ensures o))

pub returns : goal.returns
returns g c = λ o. strip_parted (moved_all (omega arith) (c.loop-n.invariant o))
