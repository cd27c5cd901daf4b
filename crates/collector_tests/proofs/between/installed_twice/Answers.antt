use Rattle.collector.proofs.Kept.{kept_builds}
use Rattle.collector_tests.proofs.Lifted.{both_lifted, lifted_now, older_stays, piece_of_lifted}
use Rattle.world_model.specs.Sending.{installed}
use Rattle.collector_tests.proofs.between.installed_twice.Goals as goal

pub build-requires : goal.build-requires
build-requires g c =
    let S = g.S.GraphStore in
    kept_builds S.stands g.met.S.GraphStore.legal c.lift.new.self c.in-Ok.older
    (lifted_now S.stands S.caller S.alone c.args.x c.in-Ok.older c.args.store.now c.lift.new.self c.in-Ok.ensures.sends)

pub build-requires-2 : goal.build-requires-2
build-requires-2 g c =
    let S = g.S.GraphStore in
    kept_builds S.stands g.met.S.GraphStore.legal c.lift-2.new.self c.in-Ok-lift.newer
    (lifted_now S.stands S.caller S.alone c.args.x c.in-Ok-lift.newer c.lift.new.self c.lift-2.new.self c.in-Ok-lift.ensures.sends)

-- the older piece is one of a history of the store, also where the newer one was sent in between
pub install-requires-2 : goal.install-requires-2
install-requires-2 g c =
    let S = g.S.GraphStore in
    let older = c.in-Ok.older in
    let newer = c.in-Ok-lift.newer in
    piece_of_lifted S.stands S.caller S.alone c.install.new.self older c.in-Ok-build.older c.in-Ok-build.ensures
    (older_stays S.stands S.caller S.alone older newer c.in-Ok-build-2.newer (installed c.install.result) c.lift-2.new.self c.install.new.self c.in-Ok-build-2.ensures
    (both_lifted S.stands S.caller S.alone c.args.x older newer c.lift.new.self c.lift-2.new.self
    (lifted_now S.stands S.caller S.alone c.args.x older c.args.store.now c.lift.new.self c.in-Ok.ensures.sends) c.in-Ok-lift.ensures.sends)
    c.install.ensures.sends)
