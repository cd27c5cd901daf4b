use Rattle.std.proofs.Common.{◌≡◌, ◌<◌, ◌≤◌, ap, sym, subst, ◌∙◌}
use Rattle.std.specs.Prelude.{IsTrue}
use Rattle.graph_value.specs.declared.id.Oid.TheVariants.{Vertex, Edge}
use Rattle.undo_delta.specs.Change.{is_possible}
use Rattle.front_core.specs.Rows.{ObjectRow, no_row, written_row}
use Rattle.front_core.specs.Tables.{Numbered, HasRow, row_of, with_row}
use Rattle.front_core.specs.Objects.{Rewritten, Unmoved}
use Rattle.front_core.specs.declared.objects.Objects.{Objects}
use Rattle.front_core.proofs.Tabled.{same_with, has_same, other_row, out_both, back_a, both_back}
use Rattle.front_core.proofs.Placing.{start_touched, end_touched, edge_touched, edge_unmoved, edge_rewritten}
use Rattle.front_core.proofs.Outcomes.{on_ok_three, on_err_three}
use Rattle.front_core.proofs.objects.Objects.write_edge.Goals as goal
use Rattle.front_core.proofs.objects.Objects.write_edge.Goals.{After-put-3}

pub take-from-requires : goal.take-from-requires
take-from-requires c = c.requires.there (Vertex c.args.ends.from) (start_touched c.args.op.now c.args.ends c.requires.joined)

pub take-to-requires : goal.take-to-requires
take-to-requires c =
    let has_from = c.requires.there (Vertex c.args.ends.from) (start_touched c.args.op.now c.args.ends c.requires.joined) in
    let has_to = c.requires.there (Vertex c.args.ends.to) (end_touched c.args.op.now c.args.ends c.requires.joined c.requires.apart) in
    subst (λ (t : Numbered). HasRow t c.args.ends.to.0) (sym c.take-from.ensures.rest)
    (has_same c.args.self.now.vertices _ c.args.ends.to.0 (same_with c.args.self.now.vertices c.args.ends.from.0 no_row has_from) has_to)

pub take-edge-requires : goal.take-edge-requires
take-edge-requires c = c.requires.there (Edge c.args.ends.edge) (edge_touched c.args.op.now c.args.ends c.requires.joined)

has_from : (c : After-put-3) → HasRow c.args.self.now.vertices c.args.ends.from.0
has_from c = c.requires.there (Vertex c.args.ends.from) (start_touched c.args.op.now c.args.ends c.requires.joined)

has_to : (c : After-put-3) → HasRow c.args.self.now.vertices c.args.ends.to.0
has_to c = c.requires.there (Vertex c.args.ends.to) (end_touched c.args.op.now c.args.ends c.requires.joined c.requires.apart)

has_edge : (c : After-put-3) → HasRow c.args.self.now.edges c.args.ends.edge.0
has_edge c = c.requires.there (Edge c.args.ends.edge) (edge_touched c.args.op.now c.args.ends c.requires.joined)

pub write_between-done-requires-clause-from : goal.write_between-done-requires-clause-from
write_between-done-requires-clause-from c =
    subst (λ (r : ObjectRow). IsTrue (is_possible c.args.op.now (Vertex c.args.ends.from) r.newest)) (sym c.take-from.ensures.value)
    (c.requires.possible (Vertex c.args.ends.from) (start_touched c.args.op.now c.args.ends c.requires.joined))

pub write_between-done-requires-clause-to : goal.write_between-done-requires-clause-to
write_between-done-requires-clause-to c =
    let from_there = c.requires.there (Vertex c.args.ends.from) (start_touched c.args.op.now c.args.ends c.requires.joined) in
    subst (λ (r : ObjectRow). IsTrue (is_possible c.args.op.now (Vertex c.args.ends.to) r.newest))
    (sym (c.take-to.ensures.value ∙ ap (λ (t : Numbered). row_of t c.args.ends.to.0) c.take-from.ensures.rest
    ∙ other_row c.args.self.now.vertices c.args.ends.from.0 c.args.ends.to.0 no_row from_there c.requires.apart))
    (c.requires.possible (Vertex c.args.ends.to) (end_touched c.args.op.now c.args.ends c.requires.joined c.requires.apart))

pub write_between-done-requires-clause-edge : goal.write_between-done-requires-clause-edge
write_between-done-requires-clause-edge c =
    subst (λ (r : ObjectRow). IsTrue (is_possible c.args.op.now (Edge c.args.ends.edge) r.newest)) (sym c.take-edge.ensures.value)
    (c.requires.possible (Edge c.args.ends.edge) (edge_touched c.args.op.now c.args.ends c.requires.joined))

pub put-requires : goal.put-requires
put-requires c =
    let from_there = c.requires.there (Vertex c.args.ends.from) (start_touched c.args.op.now c.args.ends c.requires.joined) in
    let to_there = c.requires.there (Vertex c.args.ends.to) (end_touched c.args.op.now c.args.ends c.requires.joined c.requires.apart) in
    subst (λ (t : Numbered). HasRow t c.args.ends.from.0)
    (sym (c.take-to.ensures.rest ∙ ap (λ (t : Numbered). with_row t c.args.ends.to.0 no_row) c.take-from.ensures.rest))
    (has_same c.args.self.now.vertices _ c.args.ends.from.0 (out_both c.args.self.now.vertices c.args.ends.from.0 c.args.ends.to.0 no_row no_row from_there to_there) from_there)

pub put-requires-2 : goal.put-requires-2
put-requires-2 c =
    let from_there = c.requires.there (Vertex c.args.ends.from) (start_touched c.args.op.now c.args.ends c.requires.joined) in
    let to_there = c.requires.there (Vertex c.args.ends.to) (end_touched c.args.op.now c.args.ends c.requires.joined c.requires.apart) in
    subst (λ (t : Numbered). HasRow t c.args.ends.to.0)
    (sym (c.put.ensures ∙ ap (λ (t : Numbered). with_row t c.args.ends.from.0 c.write_between-done.new.from)
    (c.take-to.ensures.rest ∙ ap (λ (t : Numbered). with_row t c.args.ends.to.0 no_row) c.take-from.ensures.rest)))
    (has_same c.args.self.now.vertices _ c.args.ends.to.0 (back_a c.args.self.now.vertices c.args.ends.from.0 c.args.ends.to.0 c.write_between-done.new.from no_row from_there to_there) to_there)

pub put-requires-3 : goal.put-requires-3
put-requires-3 c =
    let has = c.requires.there (Edge c.args.ends.edge) (edge_touched c.args.op.now c.args.ends c.requires.joined) in
    subst (λ (t : Numbered). HasRow t c.args.ends.edge.0) (sym c.take-edge.ensures.rest)
    (has_same c.args.self.now.edges _ c.args.ends.edge.0 (same_with c.args.self.now.edges c.args.ends.edge.0 no_row has) has)

abbrev left : (c : After-put-3) → ObjectRow → ObjectRow → ObjectRow → Objects
left c r s q = record {
  vertices = both_back c.args.self.now.vertices c.args.ends.from.0 c.args.ends.to.0 r s;
  edges = with_row (with_row c.args.self.now.edges c.args.ends.edge.0 no_row) c.args.ends.edge.0 q;
}

-- what is put back, once it is known what that is
left_is : (c : After-put-3) (r s q : ObjectRow) → c.write_between-done.new.from ≡ r → c.write_between-done.new.to ≡ s → c.write_between-done.new.edge ≡ q →
    record { vertices = c.put-2.new.self; edges = c.put-3.new.self } ≡ left c r s q
left_is c r s q is_r is_s is_q =
    ap (λ (t : Numbered). record { vertices = t; edges = c.put-3.new.self }) (c.put-2.ensures
    ∙ ap (λ (t : Numbered). with_row t c.args.ends.to.0 c.write_between-done.new.to) (c.put.ensures
    ∙ ap (λ (t : Numbered). with_row t c.args.ends.from.0 c.write_between-done.new.from)
    (c.take-to.ensures.rest ∙ ap (λ (t : Numbered). with_row t c.args.ends.to.0 no_row) c.take-from.ensures.rest))
    ∙ ap (λ (r : ObjectRow). both_back c.args.self.now.vertices c.args.ends.from.0 c.args.ends.to.0 r c.write_between-done.new.to) is_r
    ∙ ap (both_back c.args.self.now.vertices c.args.ends.from.0 c.args.ends.to.0 r) is_s)
    ∙ ap (λ (t : Numbered). record { vertices = both_back c.args.self.now.vertices c.args.ends.from.0 c.args.ends.to.0 r s; edges = t }) (c.put-3.ensures
    ∙ ap (λ (t : Numbered). with_row t c.args.ends.edge.0 c.write_between-done.new.edge) c.take-edge.ensures.rest
    ∙ ap (with_row (with_row c.args.self.now.edges c.args.ends.edge.0 no_row) c.args.ends.edge.0) is_q)

-- what was taken out is what stood there
to_is : (c : After-put-3) → c.take-to.result ≡ row_of c.args.self.now.vertices c.args.ends.to.0
to_is c = c.take-to.ensures.value ∙ ap (λ (t : Numbered). row_of t c.args.ends.to.0) c.take-from.ensures.rest
    ∙ other_row c.args.self.now.vertices c.args.ends.from.0 c.args.ends.to.0 no_row (has_from c) c.requires.apart

pub returns-clause-ok : goal.returns-clause-ok
returns-clause-ok c =
    let op = c.args.op.now in
    let j = c.args.ends in
    on_ok_three c.write_between-done.result c.write_between-done.ensures.from c.write_between-done.ensures.to c.write_between-done.ensures.edge (λ from to edge.
    subst (λ (o : Objects). Rewritten c.args.self.now o c.args.caller c.args.start op)
    (sym (left_is c _ _ _ (from ∙ ap (written_row c.args.caller c.args.start op (Vertex j.from)) c.take-from.ensures.value)
    (to ∙ ap (written_row c.args.caller c.args.start op (Vertex j.to)) (to_is c))
    (edge ∙ ap (written_row c.args.caller c.args.start op (Edge j.edge)) c.take-edge.ensures.value)))
    (edge_rewritten c.args.self.now c.args.caller c.args.start op j c.requires.joined c.requires.apart (has_from c) (has_to c) (has_edge c)))

pub returns-clause-err : goal.returns-clause-err
returns-clause-err c =
    let op = c.args.op.now in
    let j = c.args.ends in
    on_err_three c.write_between-done.result c.write_between-done.ensures.from_stays c.write_between-done.ensures.to_stays c.write_between-done.ensures.edge_stays (λ from to edge.
    subst (λ (o : Objects). Unmoved c.args.self.now o)
    (sym (left_is c _ _ _ (from ∙ c.take-from.ensures.value) (to ∙ to_is c) (edge ∙ c.take-edge.ensures.value)))
    (edge_unmoved c.args.self.now c.args.caller c.args.start op j c.requires.joined c.requires.apart (has_from c) (has_to c) (has_edge c)))
