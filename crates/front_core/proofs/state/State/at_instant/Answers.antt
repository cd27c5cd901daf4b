use Rattle.std.proofs.Common.{◌≡◌, List, sym, ap, subst, ◌∙◌}
use Rattle.std.proofs.lemmas.Result.{IfOk-weaker}
use Rattle.graph_record.specs.Graph.{object_at}
use Rattle.graph_record.specs.declared.object.Object.{Object}
use Rattle.undo_delta.specs.Apply.{after}
use Rattle.undo_delta.specs.declared.delta.Delta.{Delta}
use Rattle.version_chain.specs.declared.entry.Entry.{Entry}
use Rattle.anchor_store.specs.Found.{found_object}
use Rattle.rebuild.specs.Line.{LeadsOn, version_of}
use Rattle.world_model.specs.World.{World, graph_at}
use Rattle.front_core.specs.Histories.{history_at}
use Rattle.front_core.specs.Keeps.{Keeps}
use Rattle.front_core.specs.Objects.{row_at}
use Rattle.front_core.specs.Rows.{ObjectRow}
use Rattle.front_core.proofs.Outcomes.{ok_of_all}
use Rattle.front_core.proofs.Stepping.{row_leads, row_whole}
use Rattle.front_core.proofs.state.State.at_instant.Goals as goal

pub returns : goal.returns
returns c =
    let s = c.args.self.now in
    let x = c.args.x in
    let kept = (history_at s.histories x).blocks in
    let row : ObjectRow = row_at s.objects x in
    let newest : c.newest.result.now ≡ row.newest = c.newest.ensures ∙ ap (λ (r : ObjectRow). r.newest) c.row_or-row.ensures in
    let chain : c.chain.result.now.entries ≡ row.chain = c.chain.ensures ∙ ap (λ (r : ObjectRow). r.chain) c.row_or-row.ensures in
    ok_of_all (Keeps s) (λ (w : World) found. found_object after found ≡ object_at (graph_at w.commits c.args.t) x) c.version.result (λ w keeps.
    IfOk-weaker c.version.result _ _ (λ found is.
    is
    ∙ ap (λ (n : Object). version_of after n c.chain.result.now.entries kept c.args.t) newest
    ∙ ap (λ (es : List (Entry Delta)). version_of after row.newest es kept c.args.t) chain
    ∙ row_whole s w keeps x c.args.t)
    (c.version.ensures
    (subst (λ (es : List (Entry Delta)). LeadsOn after c.newest.result.now es kept) (sym chain)
    (subst (λ (n : Object). LeadsOn after n row.chain kept) (sym newest) (row_leads s w keeps x)))))
