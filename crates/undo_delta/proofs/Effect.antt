-- A write leaves no delta exactly where it changes nothing.
use Rattle.std.proofs.Common.{◌≡◌, ◌↔◌, [], ◌∷◌, Bool, true, false, not, ◌||◌, cond, nat_eq, IsTrue, None, Result, Ok, Err, IfOk, OnOk, refl, sym, ap, ◌∙◌}
use Rattle.std.specs.declared.alloc.AllocError.{AllocError}
use Rattle.std.specs.List.{list_any}
use Rattle.std.proofs.lemmas.Bool.{and_parts}
use Rattle.std.proofs.lemmas.Cmp.{nat_list_cmp_total}
use Rattle.graph_value.specs.Name.{name_cmp}
use Rattle.graph_value.specs.declared.id.VertexId.{VertexId}
use Rattle.graph_value.specs.declared.id.EdgeId.{EdgeId}
use Rattle.graph_value.specs.declared.id.Oid.{Oid}
use Rattle.graph_value.specs.declared.id.Oid.TheVariants as oid
use Rattle.graph_record.specs.Ascending.{edge_cmp}
use Rattle.graph_record.specs.Edits.{has, added, removed}
use Rattle.graph_record.specs.declared.object.VertexRecord.{VertexRecord}
use Rattle.graph_record.specs.declared.object.EdgeRecord.{EdgeRecord}
use Rattle.graph_record.specs.declared.object.Object.{Object}
use Rattle.graph_record.specs.declared.object.Object.TheVariants.{Dead, Vertex, Edge}
use Rattle.graph_record.proofs.Edges.{edge_cmp_total}
use Rattle.undo_delta.specs.Change.{no_delta, one_delta, undone_by, is_possible, changed, deltas_of, linked, unlinked, end_deltas}
use Rattle.graph_record.specs.Form.{IsForm}
use Rattle.undo_delta.specs.Touch.{is_touched, ends, same_oid}
use Rattle.undo_delta.specs.declared.delta.Delta.{Delta}
use Rattle.undo_delta.specs.declared.delta.DeltaPair.{DeltaPair}
use Rattle.undo_delta.specs.declared.op.Op.{Op}
use Rattle.undo_delta.specs.declared.op.Op.TheVariants.{CreateVertex, DeleteVertex, AddLabel, RemoveLabel, SetVertexProp, CreateEdge, DeleteEdge, SetEdgeProp}
use Rattle.undo_delta.proofs.Differs.{added_differs, removed_differs}
use Rattle.undo_delta.proofs.Values.{value_there}
use Rattle.undo_delta.proofs.Undone.{not_true, change_undone}

vertex_same : (a b : VertexRecord) → Vertex a ≡ Vertex b → a ≡ b
vertex_same a b same = cc

edge_same : (a b : EdgeRecord) → Edge a ≡ Edge b → a ≡ b
edge_same a b same = cc

-- no delta where the condition holds
none_if : (b : Bool) (d : Delta) → b ≡ true → (cond b no_delta (one_delta d)).first ≡ None
none_if true d is = refl
none_if false d is = absurd (cc)

none_unless : (b : Bool) (d : Delta) → b ≡ false → (cond b (one_delta d) no_delta).first ≡ None
none_unless true d is = absurd (cc)
none_unless false d is = refl

true_or_not : (b : Bool) → (b ≡ false → ⊥) → b ≡ true
true_or_not true h = refl
true_or_not false h = absurd (h refl)

false_or_not : (b : Bool) → (b ≡ true → ⊥) → b ≡ false
false_or_not true h = absurd (h refl)
false_or_not false h = refl

link_differs : (leaves comes : Bool) (e : EdgeId) (r : VertexRecord) → has edge_cmp e r.outs ≡ false → has edge_cmp e r.ins ≡ false
    → (leaves || comes) ≡ true → linked leaves comes e (Vertex r) ≡ Vertex r → ⊥
link_differs false false e r out come end same = absurd (cc)
link_differs true false e r out come end same = added_differs edge_cmp_total e r.outs out (ap (λ (q : VertexRecord). q.outs) (vertex_same _ _ same))
link_differs false true e r out come end same = added_differs edge_cmp_total e r.ins come (ap (λ (q : VertexRecord). q.ins) (vertex_same _ _ same))
link_differs true true e r out come end same = added_differs edge_cmp_total e r.outs out (ap (λ (q : VertexRecord). q.outs) (vertex_same _ _ same))

unlink_differs : (leaves comes : Bool) (e : EdgeId) (r : VertexRecord) → (not leaves || has edge_cmp e r.outs) ≡ true → (not comes || has edge_cmp e r.ins) ≡ true
    → (leaves || comes) ≡ true → unlinked leaves comes e (Vertex r) ≡ Vertex r → ⊥
unlink_differs false false e r out come end same = absurd (cc)
unlink_differs true false e r out come end same = removed_differs edge_cmp_total e r.outs out (ap (λ (q : VertexRecord). q.outs) (vertex_same _ _ same))
unlink_differs false true e r out come end same = removed_differs edge_cmp_total e r.ins come (ap (λ (q : VertexRecord). q.ins) (vertex_same _ _ same))
unlink_differs true true e r out come end same = removed_differs edge_cmp_total e r.outs out (ap (λ (q : VertexRecord). q.outs) (vertex_same _ _ same))

one_end : (a b : Bool) → (a || (false || false)) ≡ true → (a || b) ≡ true
one_end true b h = refl
one_end false b h = absurd (cc)

two_ends : (a b : Bool) → (a || (b || (false || false))) ≡ true → (a || b) ≡ true
two_ends true b h = refl
two_ends false true h = refl
two_ends false false h = absurd (cc)

-- a vertex that an edge's write touches is an end of the edge
touched_end : (v from to : VertexId) (e : EdgeId) → IsTrue (list_any (same_oid (oid.Vertex v)) (ends from to (oid.Edge e ∷ []))) → (nat_eq v.0 from.0 || nat_eq v.0 to.0) ≡ true
touched_end v from to e touched =
    elim (nat_eq from.0 to.0) as (λ b. IsTrue (list_any (same_oid (oid.Vertex v)) (cond b (oid.Vertex from ∷ oid.Edge e ∷ []) (oid.Vertex from ∷ oid.Vertex to ∷ oid.Edge e ∷ []))) → (nat_eq v.0 from.0 || nat_eq v.0 to.0) ≡ true) [
      | true ↦ λ h. one_end (nat_eq v.0 from.0) (nat_eq v.0 to.0) h
      | false ↦ λ h. two_ends (nat_eq v.0 from.0) (nat_eq v.0 to.0) h
    ] touched

-- a write that changes nothing leaves no delta
pub unchanged_none : (op : Op) (x : Oid) (o : Object) → IsTrue (is_touched op x) → IsTrue (is_possible op x o) → changed op x o ≡ o → (deltas_of op x o).first ≡ None
unchanged_none (CreateVertex v) x Dead touched possible same = absurd (cc)
unchanged_none (CreateVertex v) x (Vertex r) touched possible same = absurd (cc)
unchanged_none (CreateVertex v) x (Edge r) touched possible same = absurd (cc)
unchanged_none (DeleteVertex v) x Dead touched possible same = absurd (cc)
unchanged_none (DeleteVertex v) x (Vertex r) touched possible same = absurd (cc)
unchanged_none (DeleteVertex v) x (Edge r) touched possible same = absurd (cc)
unchanged_none (AddLabel v name) x Dead touched possible same = absurd (cc)
unchanged_none (AddLabel v name) x (Vertex r) touched possible same =
    let labels : added name_cmp name r.labels ≡ r.labels = ap (λ (q : VertexRecord). q.labels) (vertex_same _ _ same) in
    none_if _ _ (true_or_not _ (λ none. added_differs nat_list_cmp_total name r.labels none labels))
unchanged_none (AddLabel v name) x (Edge r) touched possible same = absurd (cc)
unchanged_none (RemoveLabel v name) x Dead touched possible same = absurd (cc)
unchanged_none (RemoveLabel v name) x (Vertex r) touched possible same =
    let labels : removed name_cmp name r.labels ≡ r.labels = ap (λ (q : VertexRecord). q.labels) (vertex_same _ _ same) in
    none_unless _ _ (false_or_not _ (λ some. removed_differs nat_list_cmp_total name r.labels some labels))
unchanged_none (RemoveLabel v name) x (Edge r) touched possible same = absurd (cc)
unchanged_none (SetVertexProp v name value) x Dead touched possible same = absurd (cc)
unchanged_none (SetVertexProp v name value) x (Vertex r) touched possible same =
    none_if _ _ (value_there name value r.props (ap (λ (q : VertexRecord). q.props) (vertex_same _ _ same)))
unchanged_none (SetVertexProp v name value) x (Edge r) touched possible same = absurd (cc)
unchanged_none (CreateEdge e from kind to) (oid.Vertex v) Dead touched possible same = absurd (cc)
unchanged_none (CreateEdge e from kind to) (oid.Vertex v) (Vertex r) touched possible same =
    absurd (link_differs (nat_eq v.0 from.0) (nat_eq v.0 to.0) e r (not_true _ (and_parts _ _ possible).0) (not_true _ (and_parts _ _ possible).1) (touched_end v from to e touched) same)
unchanged_none (CreateEdge e from kind to) (oid.Vertex v) (Edge r) touched possible same = absurd (cc)
unchanged_none (CreateEdge e from kind to) (oid.Edge f) Dead touched possible same = absurd (cc)
unchanged_none (CreateEdge e from kind to) (oid.Edge f) (Vertex r) touched possible same = absurd (cc)
unchanged_none (CreateEdge e from kind to) (oid.Edge f) (Edge r) touched possible same = absurd (cc)
unchanged_none (DeleteEdge e from to) (oid.Vertex v) Dead touched possible same = absurd (cc)
unchanged_none (DeleteEdge e from to) (oid.Vertex v) (Vertex r) touched possible same =
    absurd (unlink_differs (nat_eq v.0 from.0) (nat_eq v.0 to.0) e r (and_parts _ _ possible).0 (and_parts _ _ possible).1 (touched_end v from to e touched) same)
unchanged_none (DeleteEdge e from to) (oid.Vertex v) (Edge r) touched possible same = absurd (cc)
unchanged_none (DeleteEdge e from to) (oid.Edge f) Dead touched possible same = absurd (cc)
unchanged_none (DeleteEdge e from to) (oid.Edge f) (Vertex r) touched possible same = absurd (cc)
unchanged_none (DeleteEdge e from to) (oid.Edge f) (Edge r) touched possible same = absurd (cc)
unchanged_none (SetEdgeProp e name value) x Dead touched possible same = absurd (cc)
unchanged_none (SetEdgeProp e name value) x (Vertex r) touched possible same = absurd (cc)
unchanged_none (SetEdgeProp e name value) x (Edge r) touched possible same =
    none_if _ _ (value_there name value r.props (ap (λ (q : EdgeRecord). q.props) (edge_same _ _ same)))

cond_none : (b : Bool) (d : Delta) → (cond b no_delta (one_delta d)).first ≡ None → cond b no_delta (one_delta d) ≡ no_delta
cond_none true d none = refl
cond_none false d none = absurd (cc)

unless_none : (b : Bool) (d : Delta) → (cond b (one_delta d) no_delta).first ≡ None → cond b (one_delta d) no_delta ≡ no_delta
unless_none true d none = absurd (cc)
unless_none false d none = refl

ends_none : (leaves comes : Bool) (out come : Delta) → (end_deltas leaves comes out come).first ≡ None → end_deltas leaves comes out come ≡ no_delta
ends_none true true out come none = absurd (cc)
ends_none true false out come none = absurd (cc)
ends_none false true out come none = absurd (cc)
ends_none false false out come none = refl

-- where the first delta is missing there is no delta at all
pub first_none : (op : Op) (x : Oid) (o : Object) → (deltas_of op x o).first ≡ None → deltas_of op x o ≡ no_delta
first_none (CreateVertex v) x o none = absurd (cc)
first_none (DeleteVertex v) x o none = absurd (cc)
first_none (AddLabel v name) x o none = cond_none _ _ none
first_none (RemoveLabel v name) x o none = unless_none _ _ none
first_none (SetVertexProp v name value) x o none = cond_none _ _ none
first_none (CreateEdge e from kind to) (oid.Vertex v) o none = ends_none (nat_eq v.0 from.0) (nat_eq v.0 to.0) _ _ none
first_none (CreateEdge e from kind to) (oid.Edge f) o none = absurd (cc)
first_none (DeleteEdge e from to) (oid.Vertex v) o none = ends_none (nat_eq v.0 from.0) (nat_eq v.0 to.0) _ _ none
first_none (DeleteEdge e from to) (oid.Edge f) o none = absurd (cc)
first_none (SetEdgeProp e name value) x o none = cond_none _ _ none

-- a write that leaves no delta changes nothing, where its deltas undo it
pub none_unchanged : (op : Op) (x : Oid) (o : Object) → undone_by (deltas_of op x o) (changed op x o) ≡ o → (deltas_of op x o).first ≡ None → changed op x o ≡ o
none_unchanged op x o undone none = ap (λ (pair : DeltaPair). undone_by pair (changed op x o)) (sym (first_none op x o none)) ∙ undone

pub change_effect : (op : Op) (x : Oid) (o : Object) → IsForm o → IsTrue (is_touched op x) → IsTrue (is_possible op x o)
    → ((deltas_of op x o).first ≡ None) ↔ (changed op x o ≡ o)
change_effect op x o form touched possible =
    (none_unchanged op x o (change_undone op x o form touched possible), unchanged_none op x o touched possible)

-- what a write that could be done did is undone by its deltas
pub result_undone : (op : Op) (x : Oid) (o n : Object) (r : Result DeltaPair AllocError) → IsForm o → IsTrue (is_touched op x) → IsTrue (is_possible op x o)
    → OnOk r (n ≡ changed op x o) → IfOk r (λ pair. pair ≡ deltas_of op x o) → IfOk r (λ pair. undone_by pair n ≡ o)
result_undone op x o n (Ok pair) form touched possible edited made =
    ap (λ (p : DeltaPair). undone_by p n) made ∙ ap (λ (m : Object). undone_by (deltas_of op x o) m) edited ∙ change_undone op x o form touched possible
result_undone op x o n (Err e) form touched possible edited made = tt

pub result_effect : (op : Op) (x : Oid) (o n : Object) (r : Result DeltaPair AllocError) → IsForm o → IsTrue (is_touched op x) → IsTrue (is_possible op x o)
    → OnOk r (n ≡ changed op x o) → IfOk r (λ pair. pair ≡ deltas_of op x o) → IfOk r (λ pair. (pair.first ≡ None) ↔ (n ≡ o))
result_effect op x o n (Ok pair) form touched possible edited made =
    let effect = change_effect op x o form touched possible in (
      λ none. edited ∙ effect.0 (ap (λ (p : DeltaPair). p.first) (sym made) ∙ none),
      λ same. ap (λ (p : DeltaPair). p.first) made ∙ effect.1 (sym edited ∙ same),
    )
result_effect op x o n (Err e) form touched possible edited made = tt
