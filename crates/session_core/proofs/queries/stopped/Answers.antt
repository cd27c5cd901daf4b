use Rattle.query_reply.specs.Stops.{stop_text}
use Rattle.session_core.proofs.queries.stopped.Goals as goal

pub returns-in-Err-clause-says : goal.returns-in-Err-clause-says
returns-in-Err-clause-says g c = c.wanting.ensures.says (stop_text c.args.why.now)
