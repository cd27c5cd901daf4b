use Rattle.session_core.proofs.Telling.{refuses}
use Rattle.session_core.proofs.refusing.refused.Goals as goal

pub returns-clause-says : goal.returns-clause-says
returns-clause-says g c =
    let S = g.S.GraphStore in
    refuses S.stands S.caller S.alone c.args.text.now c.args.running c.error_text-text.result c.plain.result c.args.store.now c.abort.new.store c.error_text-text.ensures c.plain.ensures c.abort.ensures.says
