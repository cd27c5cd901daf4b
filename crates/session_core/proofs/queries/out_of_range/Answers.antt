use Rattle.session_core.specs.Texts.{range_text}
use Rattle.session_core.proofs.queries.out_of_range.Goals as goal

pub returns-in-Err-clause-says : goal.returns-in-Err-clause-says
returns-in-Err-clause-says g c = c.wanting.ensures.says (range_text c.args.first c.args.last)
