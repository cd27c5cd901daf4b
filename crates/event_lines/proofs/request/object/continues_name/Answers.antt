-- `all` answers what the test answers at each byte.
use Rattle.std.proofs.Common.{rules, tests}
use Rattle.std.proofs.lemmas.Iterator.{YieldsList-from_slice}
use Rattle.std.proofs.lemmas.Iterator.Search.{all_from_yields_List}
use Rattle.event_lines.specs.Words.{continues_name}
use Rattle.event_lines.proofs.request.object.continues_name.Goals as goal

pub returns : goal.returns
returns c = all_from_yields_List continues_name _ _ _ c.all.ensures.ran (YieldsList-from_slice c.args.word.now cc) (λ x b q k. search (rules, tests))
