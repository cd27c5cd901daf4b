use Rattle.session_core.proofs.Telling.{wants}
use Rattle.session_core.proofs.refusing.wanting.Goals as goal

pub returns-clause-says : goal.returns-clause-says
returns-clause-says g c text =
    let S = g.S.GraphStore in
    wants S.stands S.caller S.alone text c.args.running c.wanting.result c.args.store.now c.abort.new.store c.wanting.ensures c.abort.ensures.says
