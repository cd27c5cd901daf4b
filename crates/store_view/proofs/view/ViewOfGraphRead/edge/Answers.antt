use Rattle.std.proofs.Common.{refl, ◌∙◌}
use Rattle.graph_value.specs.declared.id.Oid.TheVariants as oid
use Rattle.world_model.specs.declared.event.Event.TheVariants as event
use Rattle.world_model.proofs.Sent.{sees_on, sent_reads}
use Rattle.store_view.proofs.Viewed.{edge_told}
use Rattle.store_view.proofs.view.ViewOfGraphRead.edge.Goals as goal

pub returns-in-Ok : goal.returns-in-Ok
returns-in-Ok g c =
    let S = g.S.GraphStore in
    let view = c.args.self.now in
    let sends = c.in-Ok.ensures.sends in
    record {
      answers = λ w s. c.as_edge.ensures ∙ edge_told S.stands S.caller S.alone g.met.S.GraphStore.legal view.when view.txn.now.start view.store.now c.read.new.self w c.args.e c.in-Ok.object sends s;
      stays = λ w s. sees_on S.stands S.caller S.alone g.met.S.GraphStore.legal (event.Read (oid.Edge c.args.e) view.when) sends.reply view.store.now c.read.new.self refl sends.sent view.txn.now.start view.when w s;
      reads = (sent_reads S.stands S.caller S.alone (event.Read (oid.Edge c.args.e) view.when) sends.reply view.store.now c.read.new.self refl sends.sent, c.in-Ok.ensures.stays, refl);
    }

pub returns-in-Err : goal.returns-in-Err
returns-in-Err g c =
    let S = g.S.GraphStore in
    let view = c.args.self.now in
    let sends = c.in-Err.ensures.sends in
    record {
      answers = λ w s. tt;
      stays = λ w s. sees_on S.stands S.caller S.alone g.met.S.GraphStore.legal (event.Read (oid.Edge c.args.e) view.when) sends.reply view.store.now c.read.new.self refl sends.sent view.txn.now.start view.when w s;
      reads = (sent_reads S.stands S.caller S.alone (event.Read (oid.Edge c.args.e) view.when) sends.reply view.store.now c.read.new.self refl sends.sent, c.in-Err.ensures.stays, refl);
    }
