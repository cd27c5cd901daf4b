use Rattle.session_core.proofs.Telling.{gives_up}
use Rattle.session_core.proofs.refusing.given_up.Goals as goal

pub returns-clause-says : goal.returns-clause-says
returns-clause-says g c =
    let S = g.S.GraphStore in
    gives_up S.stands S.caller S.alone c.args.text.now c.error_text-text.result c.plain.result c.args.store.now c.abort.new.self c.error_text-text.ensures c.plain.ensures c.abort.ensures.sends
