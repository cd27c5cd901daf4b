use Rattle.query_run.specs.Asked.{asked, stop_of}
use Rattle.query_run.proofs.Moves.{passes}
use Rattle.query_run.proofs.WriteCalls.{refuses, writes}
use Rattle.query_run.proofs.asking.asked.Goals as goal

pub returns-in-Ok-clause-runs : goal.returns-in-Ok-clause-runs
returns-in-Ok-clause-runs g c =
    let S = g.S.GraphStore in
    writes S.stands S.caller S.alone c.args.access.now.txn.now.start g.met.S.GraphStore.legal
    c.args.ask c.in-Ok.wrote c.args.store.now c.write.new.self c.in-Ok.ensures.sends

pub returns-in-Err-clause-runs : goal.returns-in-Err-clause-runs
returns-in-Err-clause-runs g c =
    let S = g.S.GraphStore in
    let a = c.args in
    let start = a.access.now.txn.now.start in
    passes S.stands S.caller S.alone start (asked a.ask) a.store.now c.write.new.self (stop_of c.in-Err.why) c.stop_of.result c.stop_of.ensures
    (refuses S.stands S.caller S.alone start g.met.S.GraphStore.legal a.ask c.in-Err.why a.store.now c.write.new.self c.in-Err.ensures.sends)
