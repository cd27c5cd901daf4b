use Rattle.std.proofs.Common.{codes, append_assoc}
use Rattle.std.specs.Fmt.{decimal}
use Rattle.query_reply.proofs.push_stops.push_ahead.Goals as goal

pub returns : goal.returns
returns c = record { ok = rw (append_assoc (decimal c.args.t) (codes " start ") (decimal c.args.start)) c.write.ensures.bytes }
