-- An edge between two vertices leaves one delta on each.
use Rattle.std.proofs.Common.{◌≡◌, ◌≢◌, ◌≤◌, ℕ, Some, Bool, true, false, sym, ap, subst, ◌∙◌, arith}
use Rattle.graph_value.specs.declared.id.Oid.TheVariants as oid
use Rattle.graph_record.specs.declared.object.Object.{Object}
use Rattle.undo_delta.specs.Change.{deltas_of, end_deltas}
use Rattle.undo_delta.specs.Touch.{joined}
use Rattle.undo_delta.specs.declared.delta.Delta.{Delta}
use Rattle.undo_delta.specs.declared.delta.Delta.TheVariants as delta
use Rattle.undo_delta.specs.declared.op.Joined.{Joined}
use Rattle.undo_delta.specs.declared.op.Op.{Op}
use Rattle.undo_delta.specs.declared.op.Op.TheVariants.{CreateVertex, DeleteVertex, AddLabel, RemoveLabel, SetVertexProp, CreateEdge, DeleteEdge, SetEdgeProp}
use Rattle.std.specs.Prelude.{nat_eq}
use Rattle.std.proofs.lemmas.Bool.Decides.{nat_tests}
use Rattle.front_core.specs.RoomFor.{delta_count}

one_end : (leaves : Bool) (a b : Delta) → delta_count (end_deltas leaves false a b) ≤ 1
one_end true a b = omega arith
one_end false a b = omega arith

differ : (a b : ℕ) → a ≢ b → nat_eq a b ≡ false
differ a b ne = grind (arith, nat_tests, ne)

some_same : {a b : Joined} → Some a ≡ Some b → a ≡ b
some_same same = cc

pub start_count : (op : Op) (ends : Joined) (o : Object) → joined op ≡ Some ends → ends.from.0 ≢ ends.to.0 → delta_count (deltas_of op (oid.Vertex ends.from) o) ≤ 1
start_count (CreateEdge e from kind to) ends o is ne =
    let apart : nat_eq ends.from.0 to.0 ≡ false = differ ends.from.0 to.0 (λ same. ne (same ∙ ap (λ j. j.to.0) (some_same is))) in
    subst (λ b. delta_count (end_deltas (nat_eq ends.from.0 from.0) b (delta.RemoveOutEdge e) (delta.RemoveInEdge e)) ≤ 1) (sym apart) (one_end (nat_eq ends.from.0 from.0) _ _)
start_count (DeleteEdge e from to) ends o is ne =
    let apart : nat_eq ends.from.0 to.0 ≡ false = differ ends.from.0 to.0 (λ same. ne (same ∙ ap (λ j. j.to.0) (some_same is))) in
    subst (λ b. delta_count (end_deltas (nat_eq ends.from.0 from.0) b (delta.AddOutEdge e) (delta.AddInEdge e)) ≤ 1) (sym apart) (one_end (nat_eq ends.from.0 from.0) _ _)
start_count (CreateVertex v) ends o is ne = absurd cc
start_count (DeleteVertex v) ends o is ne = absurd cc
start_count (AddLabel v name) ends o is ne = absurd cc
start_count (RemoveLabel v name) ends o is ne = absurd cc
start_count (SetVertexProp v name value) ends o is ne = absurd cc
start_count (SetEdgeProp e name value) ends o is ne = absurd cc
