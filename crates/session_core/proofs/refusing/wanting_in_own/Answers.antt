use Rattle.session_core.proofs.Telling.{wants_in_own}
use Rattle.session_core.proofs.refusing.wanting_in_own.Goals as goal

pub returns-clause-says : goal.returns-clause-says
returns-clause-says g c text =
    let S = g.S.GraphStore in
    wants_in_own S.stands S.caller S.alone text c.wanting.result c.args.store.now c.abort.new.self c.wanting.ensures c.abort.ensures.sends
