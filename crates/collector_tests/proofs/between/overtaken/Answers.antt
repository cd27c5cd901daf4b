use Rattle.collector_tests.proofs.Lifted.{kept_while_swept}
use Rattle.collector_tests.proofs.between.overtaken.Goals as goal

-- what the first sweep keeps is kept while the other one is at work
pub advance-requires-3 : goal.advance-requires-3
advance-requires-3 g c =
    let S = g.S.GraphStore in
    kept_while_swept S.stands S.caller S.alone c.advance-2.new.store c.sweep_all.new.store c.sweep_all.result c.advance-2.new.self.kept c.sweep_all.ensures.sweeps c.advance-2.ensures.keeps
