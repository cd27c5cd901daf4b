-- A write keeps the form of each object.
use Rattle.std.proofs.Common.{ℕ, List, Bool, true, false, IsTrue, nat_eq, refl}
use Rattle.std.proofs.lemmas.Cmp.{nat_list_cmp_total}
use Rattle.graph_value.specs.declared.value.Value.{Value}
use Rattle.graph_value.specs.declared.id.EdgeId.{EdgeId}
use Rattle.graph_value.specs.declared.id.Oid.{Oid}
use Rattle.graph_value.specs.declared.id.Oid.TheVariants as oid
use Rattle.graph_record.specs.declared.object.Object.{Object}
use Rattle.graph_record.specs.declared.object.Object.TheVariants.{Dead, Vertex, Edge}
use Rattle.graph_record.proofs.Edges.{edge_cmp_total}
use Rattle.graph_record.proofs.Place.{added_ascends, removed_ascends}
use Rattle.graph_record.proofs.Stored.{set_kept}
use Rattle.undo_delta.specs.Apply.{after, with_property}
use Rattle.undo_delta.specs.Change.{is_possible, changed, linked, unlinked}
use Rattle.graph_record.specs.Form.{IsForm}
use Rattle.undo_delta.specs.declared.delta.Delta.TheVariants as delta
use Rattle.undo_delta.specs.declared.op.Op.{Op}
use Rattle.undo_delta.specs.declared.op.Op.TheVariants.{CreateVertex, DeleteVertex, AddLabel, RemoveLabel, SetVertexProp, CreateEdge, DeleteEdge, SetEdgeProp}

label_added_form : (name : List ℕ) (o : Object) → IsForm o → IsForm (after o (delta.AddLabel name))
label_added_form name Dead form = form
label_added_form name (Vertex r) form = record { labels = added_ascends nat_list_cmp_total name r.labels form.labels; props = form.props; outs = form.outs; ins = form.ins }
label_added_form name (Edge r) form = form

label_removed_form : (name : List ℕ) (o : Object) → IsForm o → IsForm (after o (delta.RemoveLabel name))
label_removed_form name Dead form = form
label_removed_form name (Vertex r) form = record { labels = removed_ascends nat_list_cmp_total name r.labels form.labels; props = form.props; outs = form.outs; ins = form.ins }
label_removed_form name (Edge r) form = form

property_form : (name : List ℕ) (value : Value) (o : Object) → IsForm o → IsForm (with_property name value o)
property_form name value Dead form = form
property_form name value (Vertex r) form = record { labels = form.labels; props = set_kept name value r.props form.props; outs = form.outs; ins = form.ins }
property_form name value (Edge r) form = set_kept name value r.props form

out_added_form : (e : EdgeId) (o : Object) → IsForm o → IsForm (after o (delta.AddOutEdge e))
out_added_form e Dead form = form
out_added_form e (Vertex r) form = record { labels = form.labels; props = form.props; outs = added_ascends edge_cmp_total e r.outs form.outs; ins = form.ins }
out_added_form e (Edge r) form = form

in_added_form : (e : EdgeId) (o : Object) → IsForm o → IsForm (after o (delta.AddInEdge e))
in_added_form e Dead form = form
in_added_form e (Vertex r) form = record { labels = form.labels; props = form.props; outs = form.outs; ins = added_ascends edge_cmp_total e r.ins form.ins }
in_added_form e (Edge r) form = form

out_removed_form : (e : EdgeId) (o : Object) → IsForm o → IsForm (after o (delta.RemoveOutEdge e))
out_removed_form e Dead form = form
out_removed_form e (Vertex r) form = record { labels = form.labels; props = form.props; outs = removed_ascends edge_cmp_total e r.outs form.outs; ins = form.ins }
out_removed_form e (Edge r) form = form

in_removed_form : (e : EdgeId) (o : Object) → IsForm o → IsForm (after o (delta.RemoveInEdge e))
in_removed_form e Dead form = form
in_removed_form e (Vertex r) form = record { labels = form.labels; props = form.props; outs = form.outs; ins = removed_ascends edge_cmp_total e r.ins form.ins }
in_removed_form e (Edge r) form = form

linked_form : (leaves comes : Bool) (e : EdgeId) (o : Object) → IsForm o → IsForm (linked leaves comes e o)
linked_form false false e o form = form
linked_form true false e o form = out_added_form e o form
linked_form false true e o form = in_added_form e o form
linked_form true true e o form = in_added_form e (after o (delta.AddOutEdge e)) (out_added_form e o form)

unlinked_form : (leaves comes : Bool) (e : EdgeId) (o : Object) → IsForm o → IsForm (unlinked leaves comes e o)
unlinked_form false false e o form = form
unlinked_form true false e o form = out_removed_form e o form
unlinked_form false true e o form = in_removed_form e o form
unlinked_form true true e o form = in_removed_form e (after o (delta.RemoveOutEdge e)) (out_removed_form e o form)

pub changed_form : (op : Op) (x : Oid) (o : Object) → IsForm o → IsTrue (is_possible op x o) → IsForm (changed op x o)
changed_form (CreateVertex v) x o form possible = record { labels = refl; props = record { ascending = refl; storable = refl }; outs = refl; ins = refl }
changed_form (DeleteVertex v) x o form possible = tt
changed_form (AddLabel v name) x o form possible = label_added_form name o form
changed_form (RemoveLabel v name) x o form possible = label_removed_form name o form
changed_form (SetVertexProp v name value) x o form possible = property_form name value o form
changed_form (CreateEdge e from kind to) (oid.Vertex v) o form possible = linked_form (nat_eq v.0 from.0) (nat_eq v.0 to.0) e o form
changed_form (CreateEdge e from kind to) (oid.Edge f) o form possible = record { ascending = refl; storable = refl }
changed_form (DeleteEdge e from to) (oid.Vertex v) o form possible = unlinked_form (nat_eq v.0 from.0) (nat_eq v.0 to.0) e o form
changed_form (DeleteEdge e from to) (oid.Edge f) o form possible = tt
changed_form (SetEdgeProp e name value) x o form possible = property_form name value o form
