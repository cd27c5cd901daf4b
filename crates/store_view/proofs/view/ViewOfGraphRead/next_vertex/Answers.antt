use Rattle.std.proofs.Common.{ℕ, Option, refl, subst, ◌∙◌}
use Rattle.world_model.specs.declared.event.Event.TheVariants as event
use Rattle.world_model.specs.declared.event.Kind.TheVariants.{Vertex}
use Rattle.world_model.specs.Reply as reply
use Rattle.world_model.specs.Sending.{Sends}
use Rattle.world_model.proofs.Sent.{sees_on, sent_reads}
use Rattle.store_view.proofs.Viewed.{next_told}
use Rattle.store_view.proofs.view.ViewOfGraphRead.next_vertex.Goals as goal

pub returns-in-Ok : goal.returns-in-Ok
returns-in-Ok g c =
    let S = g.S.GraphStore in
    let view = c.args.self.now in
    let sends = c.in-Ok.ensures.sends in
    record {
      answers = λ w s. c.vertex_of.ensures ∙ next_told S.stands S.caller S.alone g.met.S.GraphStore.legal view.when view.txn.now.start view.store.now c.next.new.self w c.args.after c.in-Ok.found
          (subst (λ (n : Option ℕ). Sends S.stands S.caller S.alone (event.Next Vertex n view.when) (reply.Id c.in-Ok.found) view.store.now c.next.new.self) c.number_of-after.ensures sends) s;
      stays = λ w s. sees_on S.stands S.caller S.alone g.met.S.GraphStore.legal (event.Next Vertex c.number_of-after.result view.when) (reply.Id c.in-Ok.found) view.store.now c.next.new.self refl sends view.txn.now.start view.when w s;
      reads = (sent_reads S.stands S.caller S.alone (event.Next Vertex c.number_of-after.result view.when) (reply.Id c.in-Ok.found) view.store.now c.next.new.self refl sends, c.in-Ok.ensures.stays, refl);
    }

pub returns-in-Err : goal.returns-in-Err
returns-in-Err g c =
    let S = g.S.GraphStore in
    let view = c.args.self.now in
    let sends = c.in-Err.ensures.sends in
    record {
      answers = λ w s. tt;
      stays = λ w s. sees_on S.stands S.caller S.alone g.met.S.GraphStore.legal (event.Next Vertex c.number_of-after.result view.when) (reply.Refused c.in-Err.field-0) view.store.now c.next.new.self refl sends view.txn.now.start view.when w s;
      reads = (sent_reads S.stands S.caller S.alone (event.Next Vertex c.number_of-after.result view.when) (reply.Refused c.in-Err.field-0) view.store.now c.next.new.self refl sends, c.in-Err.ensures.stays, refl);
    }
