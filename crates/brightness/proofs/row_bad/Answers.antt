use mathlib.Core.Path.{refl}
use native.Mathlib.Omega.{arith}
use Rattle.refusal.specs.Tests.{bad_mark}
use Rattle.refusal.proofs.Scans.{scanned_none, scanned_more, scanned_all}
use Rattle.brightness.proofs.row_bad.Goals as goal

pub loop-byte-init : goal.loop-byte-init
loop-byte-init c = scanned_none

pub loop-byte-preserved : goal.loop-byte-preserved
loop-byte-preserved c = scanned_more c.loop-byte.invariant (omega arith) refl

pub returns : goal.returns
unfolding bad_mark
returns c = scanned_all c.loop-byte.invariant (omega arith)
