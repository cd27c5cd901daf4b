-- What a write's deltas give back.
use Rattle.std.proofs.Common.{◌≡◌, ℕ, List, Bool, true, false, not, ◌||◌, cond, nat_eq, IsTrue, refl, ap, ◌∙◌}
use Rattle.std.specs.FinMap.{find, IsAntisymmetric, nat_cmp-IsAntisymmetric}
use Rattle.std.proofs.lemmas.Bool.{and_parts}
use Rattle.std.proofs.lemmas.Cmp.{nat_list_cmp_total}
use Rattle.graph_value.specs.Name.{name_cmp}
use Rattle.graph_value.specs.Value.{same_value}
use Rattle.graph_value.specs.declared.value.Value.{Value}
use Rattle.graph_value.specs.declared.id.EdgeId.{EdgeId}
use Rattle.graph_value.specs.declared.id.Oid.{Oid}
use Rattle.graph_value.specs.declared.id.Oid.TheVariants as oid
use Rattle.graph_record.specs.Ascending.{edge_cmp, IsAscendingNames, IsAscendingIds}
use Rattle.graph_record.specs.Edits.{has, added, removed}
use Rattle.graph_record.specs.Stored.{IsPropertyList}
use Rattle.graph_record.specs.declared.object.VertexRecord.{VertexRecord}
use Rattle.graph_record.specs.declared.object.EdgeRecord.{EdgeRecord}
use Rattle.graph_record.specs.declared.object.Object.{Object}
use Rattle.graph_record.specs.declared.object.Object.TheVariants.{Dead, Vertex, Edge}
use Rattle.graph_record.proofs.Edges.{edge_cmp_total}
use Rattle.graph_record.proofs.Place.{removed_absent}
use Rattle.undo_delta.specs.Apply.{after, with_property}
use Rattle.undo_delta.specs.Change.{no_delta, one_delta, undone_by, value_or_null, kept, property_deltas, is_possible, changed, deltas_of, linked, unlinked, end_deltas}
use Rattle.graph_record.specs.Form.{IsForm}
use Rattle.undo_delta.specs.Touch.{is_touched}
use Rattle.undo_delta.specs.declared.delta.Delta.TheVariants as delta
use Rattle.undo_delta.specs.declared.op.Op.{Op}
use Rattle.undo_delta.specs.declared.op.Op.TheVariants.{CreateVertex, DeleteVertex, AddLabel, RemoveLabel, SetVertexProp, CreateEdge, DeleteEdge, SetEdgeProp}
use Rattle.undo_delta.proofs.Values.{Props, names_apart, value_back, value_kept}
use Rattle.undo_delta.proofs.Restored.{removed_added, added_removed, added_present}

edges_apart : IsAntisymmetric edge_cmp
edges_apart x y e = ap (λ (n : ℕ). let id : EdgeId = record { 0 = n } in id) (nat_cmp-IsAntisymmetric x.0 y.0 e)

pub not_true : (b : Bool) → not b ≡ true → b ≡ false
not_true true p = absurd (cc)
not_true false p = refl

pub vertex_value_back : (name : List ℕ) (value : Value) (r : VertexRecord) → IsPropertyList r.props
    → undone_by (property_deltas name value (Vertex r)) (with_property name value (Vertex r)) ≡ Vertex r
vertex_value_back name value r form =
    let old = value_or_null (find name_cmp name r.props) in
    elim (same_value old (kept value)) as (λ b. same_value old (kept value) ≡ b → undone_by (cond b no_delta (one_delta (delta.SetProperty (name, old)))) (with_property name value (Vertex r)) ≡ Vertex r) [
      | true ↦ λ same. ap (λ (ps : Props). Vertex (record r { props = ps })) (value_kept name value r.props form same)
      | false ↦ λ other. ap (λ (ps : Props). Vertex (record r { props = ps })) (value_back name value r.props form)
    ] refl

pub edge_value_back : (name : List ℕ) (value : Value) (r : EdgeRecord) → IsPropertyList r.props
    → undone_by (property_deltas name value (Edge r)) (with_property name value (Edge r)) ≡ Edge r
edge_value_back name value r form =
    let old = value_or_null (find name_cmp name r.props) in
    elim (same_value old (kept value)) as (λ b. same_value old (kept value) ≡ b → undone_by (cond b no_delta (one_delta (delta.SetProperty (name, old)))) (with_property name value (Edge r)) ≡ Edge r) [
      | true ↦ λ same. ap (λ (ps : Props). Edge (record r { props = ps })) (value_kept name value r.props form same)
      | false ↦ λ other. ap (λ (ps : Props). Edge (record r { props = ps })) (value_back name value r.props form)
    ] refl

pub label_added_back : (name : List ℕ) (r : VertexRecord) → IsAscendingNames r.labels
    → undone_by (cond (has name_cmp name r.labels) no_delta (one_delta (delta.RemoveLabel name))) (after (Vertex r) (delta.AddLabel name)) ≡ Vertex r
label_added_back name r ascends =
    elim (has name_cmp name r.labels) as (λ b. has name_cmp name r.labels ≡ b → undone_by (cond b no_delta (one_delta (delta.RemoveLabel name))) (after (Vertex r) (delta.AddLabel name)) ≡ Vertex r) [
      | true ↦ λ is. ap (λ (ls : List (List ℕ)). Vertex (record r { labels = ls })) (added_present nat_list_cmp_total name r.labels ascends is)
      | false ↦ λ is. ap (λ (ls : List (List ℕ)). Vertex (record r { labels = ls })) (removed_added nat_list_cmp_total name r.labels is)
    ] refl

pub label_removed_back : (name : List ℕ) (r : VertexRecord) → IsAscendingNames r.labels
    → undone_by (cond (has name_cmp name r.labels) (one_delta (delta.AddLabel name)) no_delta) (after (Vertex r) (delta.RemoveLabel name)) ≡ Vertex r
label_removed_back name r ascends =
    elim (has name_cmp name r.labels) as (λ b. has name_cmp name r.labels ≡ b → undone_by (cond b (one_delta (delta.AddLabel name)) no_delta) (after (Vertex r) (delta.RemoveLabel name)) ≡ Vertex r) [
      | true ↦ λ is. ap (λ (ls : List (List ℕ)). Vertex (record r { labels = ls })) (added_removed nat_list_cmp_total names_apart name r.labels ascends is)
      | false ↦ λ is. ap (λ (ls : List (List ℕ)). Vertex (record r { labels = ls })) (removed_absent nat_list_cmp_total name r.labels is)
    ] refl

pub vertex_lists : (r : VertexRecord) (outs ins : List EdgeId) → outs ≡ r.outs → ins ≡ r.ins → record r { outs = outs; ins = ins } ≡ r
vertex_lists r outs ins same_outs same_ins =
    ap (λ (es : List EdgeId). let s : VertexRecord = record r { outs = es; ins = ins } in s) same_outs
    ∙ ap (λ (es : List EdgeId). let s : VertexRecord = record r { ins = es } in s) same_ins

-- an edge that was linked is unlinked
pub link_back : (leaves comes : Bool) (e : EdgeId) (r : VertexRecord) → has edge_cmp e r.outs ≡ false → has edge_cmp e r.ins ≡ false
    → undone_by (end_deltas leaves comes (delta.RemoveOutEdge e) (delta.RemoveInEdge e)) (linked leaves comes e (Vertex r)) ≡ Vertex r
link_back false false e r out come = refl
link_back true false e r out come = ap (λ (es : List EdgeId). Vertex (record r { outs = es })) (removed_added edge_cmp_total e r.outs out)
link_back false true e r out come = ap (λ (es : List EdgeId). Vertex (record r { ins = es })) (removed_added edge_cmp_total e r.ins come)
link_back true true e r out come =
    ap (λ (es : List EdgeId). Vertex (record r { outs = removed edge_cmp e (added edge_cmp e r.outs); ins = es })) (removed_added edge_cmp_total e r.ins come)
    ∙ ap (λ (es : List EdgeId). Vertex (record r { outs = es })) (removed_added edge_cmp_total e r.outs out)

-- an edge that was unlinked is linked again
pub unlink_back : (leaves comes : Bool) (e : EdgeId) (r : VertexRecord) → IsAscendingIds r.outs → IsAscendingIds r.ins
    → (not leaves || has edge_cmp e r.outs) ≡ true → (not comes || has edge_cmp e r.ins) ≡ true
    → undone_by (end_deltas leaves comes (delta.AddOutEdge e) (delta.AddInEdge e)) (unlinked leaves comes e (Vertex r)) ≡ Vertex r
unlink_back false false e r outs ins out come = refl
unlink_back true false e r outs ins out come = ap (λ (es : List EdgeId). Vertex (record r { outs = es })) (added_removed edge_cmp_total edges_apart e r.outs outs out)
unlink_back false true e r outs ins out come = ap (λ (es : List EdgeId). Vertex (record r { ins = es })) (added_removed edge_cmp_total edges_apart e r.ins ins come)
unlink_back true true e r outs ins out come =
    ap (λ (es : List EdgeId). Vertex (record r { outs = added edge_cmp e (removed edge_cmp e r.outs); ins = es })) (added_removed edge_cmp_total edges_apart e r.ins ins come)
    ∙ ap (λ (es : List EdgeId). Vertex (record r { outs = es })) (added_removed edge_cmp_total edges_apart e r.outs outs out)

-- whatever the write is, its deltas give the object back
pub change_undone : (op : Op) (x : Oid) (o : Object) → IsForm o → IsTrue (is_touched op x) → IsTrue (is_possible op x o)
    → undone_by (deltas_of op x o) (changed op x o) ≡ o
change_undone (CreateVertex v) x Dead form touched possible = refl
change_undone (CreateVertex v) x (Vertex r) form touched possible = absurd (cc)
change_undone (CreateVertex v) x (Edge r) form touched possible = absurd (cc)
change_undone (DeleteVertex v) x o form touched possible = refl
change_undone (AddLabel v name) x Dead form touched possible = absurd (cc)
change_undone (AddLabel v name) x (Vertex r) form touched possible = label_added_back name r form.labels
change_undone (AddLabel v name) x (Edge r) form touched possible = absurd (cc)
change_undone (RemoveLabel v name) x Dead form touched possible = absurd (cc)
change_undone (RemoveLabel v name) x (Vertex r) form touched possible = label_removed_back name r form.labels
change_undone (RemoveLabel v name) x (Edge r) form touched possible = absurd (cc)
change_undone (SetVertexProp v name value) x Dead form touched possible = absurd (cc)
change_undone (SetVertexProp v name value) x (Vertex r) form touched possible = vertex_value_back name value r form.props
change_undone (SetVertexProp v name value) x (Edge r) form touched possible = absurd (cc)
change_undone (CreateEdge e from kind to) (oid.Vertex v) Dead form touched possible = absurd (cc)
change_undone (CreateEdge e from kind to) (oid.Vertex v) (Vertex r) form touched possible =
    link_back (nat_eq v.0 from.0) (nat_eq v.0 to.0) e r (not_true _ (and_parts _ _ possible).0) (not_true _ (and_parts _ _ possible).1)
change_undone (CreateEdge e from kind to) (oid.Vertex v) (Edge r) form touched possible = absurd (cc)
change_undone (CreateEdge e from kind to) (oid.Edge f) Dead form touched possible = refl
change_undone (CreateEdge e from kind to) (oid.Edge f) (Vertex r) form touched possible = absurd (cc)
change_undone (CreateEdge e from kind to) (oid.Edge f) (Edge r) form touched possible = absurd (cc)
change_undone (DeleteEdge e from to) (oid.Vertex v) Dead form touched possible = absurd (cc)
change_undone (DeleteEdge e from to) (oid.Vertex v) (Vertex r) form touched possible =
    unlink_back (nat_eq v.0 from.0) (nat_eq v.0 to.0) e r form.outs form.ins (and_parts _ _ possible).0 (and_parts _ _ possible).1
change_undone (DeleteEdge e from to) (oid.Vertex v) (Edge r) form touched possible = absurd (cc)
change_undone (DeleteEdge e from to) (oid.Edge f) o form touched possible = refl
change_undone (SetEdgeProp e name value) x Dead form touched possible = absurd (cc)
change_undone (SetEdgeProp e name value) x (Vertex r) form touched possible = absurd (cc)
change_undone (SetEdgeProp e name value) x (Edge r) form touched possible = edge_value_back name value r form
