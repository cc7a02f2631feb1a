-- `header::arrived` makes of what a call has left the stream cut to what arrived, or refuses. Assumes nothing.
use mathlib.Core.Path.{sym, ◌∙◌}
use native.Mathlib.Omega.{arith}
use Rattle.header.proofs.Arrivals.{mended}
use Rattle.header.proofs.arrived.Goals as goal

pub returns-then-there-sent-clause-stream_after : goal.returns-then-there-sent-clause-stream_after
returns-then-there-sent-clause-stream_after c =
    mended c.args.stream.now (sym c.bad_arrival.ensures ∙ c.in_ok-refuse.ensures) (omega (arith, c.four_bytes-sent.ensures.value, c.if-there-sent.true)) c.put_four.ensures
