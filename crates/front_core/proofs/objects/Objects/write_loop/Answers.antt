use Rattle.std.proofs.Common.{◌≡◌, ◌<◌, ◌≤◌, ap, sym, subst, ◌∙◌}
use Rattle.std.specs.Prelude.{IsTrue}
use Rattle.graph_value.specs.declared.id.Oid.TheVariants.{Vertex, Edge}
use Rattle.undo_delta.specs.Change.{is_possible}
use Rattle.front_core.specs.Rows.{ObjectRow, no_row, written_row}
use Rattle.front_core.specs.Tables.{Numbered, HasRow, with_row}
use Rattle.front_core.specs.Objects.{Rewritten, Unmoved}
use Rattle.front_core.specs.declared.objects.Objects.{Objects}
use Rattle.front_core.proofs.Tabled.{same_with, has_same}
use Rattle.front_core.proofs.Placing.{start_touched, edge_touched, loop_unmoved, loop_rewritten}
use Rattle.front_core.proofs.Outcomes.{on_ok_both, on_err_both}
use Rattle.front_core.proofs.objects.Objects.write_loop.Goals as goal
use Rattle.front_core.proofs.objects.Objects.write_loop.Goals.{After-put-2}

pub take-end-requires : goal.take-end-requires
take-end-requires c = c.requires.there (Vertex c.args.ends.from) (start_touched c.args.op.now c.args.ends c.requires.joined)

pub take-edge-requires : goal.take-edge-requires
take-edge-requires c = c.requires.there (Edge c.args.ends.edge) (edge_touched c.args.op.now c.args.ends c.requires.joined)

pub write_loop-done-requires-clause-end : goal.write_loop-done-requires-clause-end
write_loop-done-requires-clause-end c =
    subst (λ (r : ObjectRow). IsTrue (is_possible c.args.op.now (Vertex c.args.ends.from) r.newest)) (sym c.take-end.ensures.value)
    (c.requires.possible (Vertex c.args.ends.from) (start_touched c.args.op.now c.args.ends c.requires.joined))

pub write_loop-done-requires-clause-edge : goal.write_loop-done-requires-clause-edge
write_loop-done-requires-clause-edge c =
    subst (λ (r : ObjectRow). IsTrue (is_possible c.args.op.now (Edge c.args.ends.edge) r.newest)) (sym c.take-edge.ensures.value)
    (c.requires.possible (Edge c.args.ends.edge) (edge_touched c.args.op.now c.args.ends c.requires.joined))

pub put-requires : goal.put-requires
put-requires c =
    let has = c.requires.there (Vertex c.args.ends.from) (start_touched c.args.op.now c.args.ends c.requires.joined) in
    subst (λ (t : Numbered). HasRow t c.args.ends.from.0) (sym c.take-end.ensures.rest)
    (has_same c.args.self.now.vertices _ c.args.ends.from.0 (same_with c.args.self.now.vertices c.args.ends.from.0 no_row has) has)

pub put-requires-2 : goal.put-requires-2
put-requires-2 c =
    let has = c.requires.there (Edge c.args.ends.edge) (edge_touched c.args.op.now c.args.ends c.requires.joined) in
    subst (λ (t : Numbered). HasRow t c.args.ends.edge.0) (sym c.take-edge.ensures.rest)
    (has_same c.args.self.now.edges _ c.args.ends.edge.0 (same_with c.args.self.now.edges c.args.ends.edge.0 no_row has) has)

abbrev left : (c : After-put-2) → ObjectRow → ObjectRow → Objects
left c r s = record {
  vertices = with_row (with_row c.args.self.now.vertices c.args.ends.from.0 no_row) c.args.ends.from.0 r;
  edges = with_row (with_row c.args.self.now.edges c.args.ends.edge.0 no_row) c.args.ends.edge.0 s;
}

-- what is put back, once it is known what that is
left_is : (c : After-put-2) (r s : ObjectRow) → c.write_loop-done.new.end ≡ r → c.write_loop-done.new.edge ≡ s →
    record { vertices = c.put.new.self; edges = c.put-2.new.self } ≡ left c r s
left_is c r s is_r is_s =
    ap (λ (t : Numbered). record { vertices = t; edges = c.put-2.new.self }) (c.put.ensures
    ∙ ap (λ (t : Numbered). with_row t c.args.ends.from.0 c.write_loop-done.new.end) c.take-end.ensures.rest
    ∙ ap (with_row (with_row c.args.self.now.vertices c.args.ends.from.0 no_row) c.args.ends.from.0) is_r)
    ∙ ap (λ (t : Numbered). record { vertices = with_row (with_row c.args.self.now.vertices c.args.ends.from.0 no_row) c.args.ends.from.0 r; edges = t }) (c.put-2.ensures
    ∙ ap (λ (t : Numbered). with_row t c.args.ends.edge.0 c.write_loop-done.new.edge) c.take-edge.ensures.rest
    ∙ ap (with_row (with_row c.args.self.now.edges c.args.ends.edge.0 no_row) c.args.ends.edge.0) is_s)

has_end : (c : After-put-2) → HasRow c.args.self.now.vertices c.args.ends.from.0
has_end c = c.requires.there (Vertex c.args.ends.from) (start_touched c.args.op.now c.args.ends c.requires.joined)

has_edge : (c : After-put-2) → HasRow c.args.self.now.edges c.args.ends.edge.0
has_edge c = c.requires.there (Edge c.args.ends.edge) (edge_touched c.args.op.now c.args.ends c.requires.joined)

pub returns-clause-ok : goal.returns-clause-ok
returns-clause-ok c =
    let op = c.args.op.now in
    let j = c.args.ends in
    on_ok_both c.write_loop-done.result c.write_loop-done.ensures.end c.write_loop-done.ensures.edge (λ end edge.
    subst (λ (o : Objects). Rewritten c.args.self.now o c.args.caller c.args.start op)
    (sym (left_is c _ _ (end ∙ ap (written_row c.args.caller c.args.start op (Vertex j.from)) c.take-end.ensures.value)
    (edge ∙ ap (written_row c.args.caller c.args.start op (Edge j.edge)) c.take-edge.ensures.value)))
    (loop_rewritten c.args.self.now c.args.caller c.args.start op j c.requires.joined c.requires.same (has_end c) (has_edge c)))

pub returns-clause-err : goal.returns-clause-err
returns-clause-err c =
    let op = c.args.op.now in
    let j = c.args.ends in
    on_err_both c.write_loop-done.result c.write_loop-done.ensures.end_stays c.write_loop-done.ensures.edge_stays (λ end edge.
    subst (λ (o : Objects). Unmoved c.args.self.now o)
    (sym (left_is c _ _ (end ∙ c.take-end.ensures.value) (edge ∙ c.take-edge.ensures.value)))
    (loop_unmoved c.args.self.now c.args.caller c.args.start op j c.requires.joined c.requires.same (has_end c) (has_edge c)))
