use Rattle.query_reply.specs.Faults.{fault_text}
use Rattle.session_core.proofs.queries.faulty.Goals as goal

pub returns-in-Err-clause-says : goal.returns-in-Err-clause-says
returns-in-Err-clause-says g c = c.wanting.ensures.says (fault_text c.args.why.now)
