-- `header::body` hands back the part that carries the body. Assumes nothing.
use Rattle.header.proofs.Parts.{none_by_header, none_by_version, body_is}
use Rattle.header.proofs.body.Goals as goal

pub returns-then-bad_header : goal.returns-then-bad_header
returns-then-bad_header c = none_by_header c.args.stream.now (cc)

pub returns-then-bad_version : goal.returns-then-bad_version
returns-then-bad_version c = none_by_version c.args.stream.now (cc) (cc)

pub returns : goal.returns
returns c = body_is c.args.stream.now _ c.front_length-at.ensures (cc) (cc)
