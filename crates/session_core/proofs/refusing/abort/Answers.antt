use Rattle.session_core.proofs.Acting.{idles}
use Rattle.session_core.proofs.Telling.{aborts}
use Rattle.session_core.proofs.refusing.abort.Goals as goal

pub returns-in-Some-clause-says : goal.returns-in-Some-clause-says
returns-in-Some-clause-says g c =
    let S = g.S.GraphStore in
    rw c.in-Some.is (aborts S.stands S.caller S.alone c.args.store.now c.abort.new.self c.abort.ensures.sends)

pub returns-in_default-clause-says : goal.returns-in_default-clause-says
returns-in_default-clause-says g c =
    let S = g.S.GraphStore in
    rw c.in_default.is (idles S.stands S.caller S.alone c.args.store.now)
