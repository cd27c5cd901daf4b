-- A write seen from one object: the graph after it has, at each object, what the write leaves of that object.
use Rattle.std.proofs.Common.{◌≡◌, ℕ, List, [], ◌∷◌, ◌++◌, Option, Some, None, Bool, true, false, not, ◌||◌, cond, refl, sym, ap, ◌∙◌, arith, rules}
use Rattle.std.specs.Prelude.{nat_eq}
use Rattle.std.specs.FinMap.{find, put}
use Rattle.std.specs.FinMap.Entries.{find-put, find-where_key}
use Rattle.std.specs.List.{list_any}
use Rattle.std.specs.Ordering.{nat_cmp, is_eq, eq_by_cmp}
use Rattle.std.specs.Cmp.{nat_cmp_total, IsTotalOrder}
use Rattle.std.proofs.lemmas.Cmp.{on_total, alike_right}
use Rattle.std.proofs.lemmas.Bool.{false≢true}
use Rattle.std.proofs.lemmas.Bool.Decides.{nat_tests}
use Rattle.graph_value.specs.Name.{name_cmp}
use Rattle.graph_value.specs.declared.value.Value.{Value}
use Rattle.graph_value.specs.declared.id.VertexId.{VertexId}
use Rattle.graph_value.specs.declared.id.EdgeId.{EdgeId}
use Rattle.graph_value.specs.declared.id.Oid.{Oid}
use Rattle.graph_value.specs.declared.id.Oid.TheVariants.{Vertex, Edge}
use Rattle.graph_record.specs.declared.object.VertexRecord.{VertexRecord}
use Rattle.graph_record.specs.declared.object.EdgeRecord.{EdgeRecord}
use Rattle.graph_record.specs.declared.object.Object.{Object}
use Rattle.graph_record.specs.declared.object.Object.TheVariants as object
use Rattle.graph_record.specs.Edits.{added, removed, removed_key}
use Rattle.graph_record.specs.Record.{empty_vertex}
use Rattle.graph_record.specs.Stored.{set_property}
use Rattle.graph_record.specs.Graph.{Graph, vertex_cmp, edge_cmp, vertex_object, edge_object, object_at}
use Rattle.undo_delta.specs.Apply.{on_vertex, with_property}
use Rattle.undo_delta.specs.Change.{changed, new_edge}
use Rattle.undo_delta.specs.Touch.{ends, same_oid, is_touched}
use Rattle.undo_delta.specs.declared.op.Op.{Op}
use Rattle.undo_delta.specs.declared.op.Op.TheVariants.{CreateVertex, DeleteVertex, AddLabel, RemoveLabel, SetVertexProp, CreateEdge, DeleteEdge, SetEdgeProp}
use Rattle.world_model.specs.Op.{apply, apply_all, are_touching, with_found_vertex, with_vertex, with_found_edge, with_edge}
use Rattle.world_model.specs.Change.{object_after, object_after_all}

pub vertices_total : IsTotalOrder vertex_cmp
vertices_total = on_total (λ v. v.0) nat_cmp_total

pub edges_total : IsTotalOrder edge_cmp
edges_total = on_total (λ e. e.0) nat_cmp_total

-- two numbers tie exactly where they are equal
pub tied : (a b : ℕ) → is_eq (nat_cmp a b) ≡ nat_eq a b
tied a b = grind (arith, rules)

-- a choice carries over
pub cond_map : {A B : Type 0} (f : A → B) (b : Bool) (x y : A) → f (cond b x y) ≡ cond b (f x) (f y)
cond_map f true x y = refl
cond_map f false x y = refl

pub or_false : (b : Bool) → (b || false) ≡ b
or_false true = refl
or_false false = refl

cond_not : {A : Type 0} (b : Bool) (x y : A) → cond (not b) y x ≡ cond b x y
cond_not true x y = refl
cond_not false x y = refl

turned : (a b : ℕ) → nat_eq a b ≡ nat_eq b a
turned a b = grind (arith, nat_tests)

-- the vertex that is put, and every other as before
pub vertex-put : (g : Graph) (v : VertexId) (r : VertexRecord) (q : VertexId) →
    vertex_object (find vertex_cmp q (put vertex_cmp v r g.vertices)) ≡ cond (nat_eq q.0 v.0) (object.Vertex r) (vertex_object (find vertex_cmp q g.vertices))
vertex-put g v r q =
    ap vertex_object (find-put vertex_cmp vertices_total q v r g.vertices)
    ∙ cond_map vertex_object (is_eq (nat_cmp q.0 v.0)) (Some r) (find vertex_cmp q g.vertices)
    ∙ ap (λ b. cond b (object.Vertex r) (vertex_object (find vertex_cmp q g.vertices))) (tied q.0 v.0)

pub edge-put : (g : Graph) (e : EdgeId) (r : EdgeRecord) (q : EdgeId) →
    edge_object (find edge_cmp q (put edge_cmp e r g.edges)) ≡ cond (nat_eq q.0 e.0) (object.Edge r) (edge_object (find edge_cmp q g.edges))
edge-put g e r q =
    ap edge_object (find-put edge_cmp edges_total q e r g.edges)
    ∙ cond_map edge_object (is_eq (nat_cmp q.0 e.0)) (Some r) (find edge_cmp q g.edges)
    ∙ ap (λ b. cond b (object.Edge r) (edge_object (find edge_cmp q g.edges))) (tied q.0 e.0)

-- ids with one number are one id
pub same_vertex : (a b : VertexId) → nat_eq a.0 b.0 ≡ true → a ≡ b
same_vertex a b h = let e : a.0 ≡ b.0 = grind (arith, rules) in ap (λ (n : ℕ). record { 0 = n }) e

pub same_edge : (a b : EdgeId) → nat_eq a.0 b.0 ≡ true → a ≡ b
same_edge a b h = let e : a.0 ≡ b.0 = grind (arith, rules) in ap (λ (n : ℕ). record { 0 = n }) e

-- a vertex that is taken away is dead, and every other as before
pub vertex-removed : (g : Graph) (v q : VertexId) →
    vertex_object (find vertex_cmp q (removed_key vertex_cmp v g.vertices)) ≡ cond (nat_eq q.0 v.0) object.Dead (vertex_object (find vertex_cmp q g.vertices))
vertex-removed g v q =
    ap vertex_object (find-where_key vertex_cmp (λ u. not (eq_by_cmp vertex_cmp v u)) q (λ u t. ap (λ r. not (is_eq r)) (sym (alike_right vertices_total q u v t))) g.vertices)
    ∙ cond_map vertex_object (not (is_eq (nat_cmp v.0 q.0))) (find vertex_cmp q g.vertices) None
    ∙ ap (λ b. cond (not b) (vertex_object (find vertex_cmp q g.vertices)) object.Dead) (tied v.0 q.0 ∙ turned v.0 q.0)
    ∙ cond_not (nat_eq q.0 v.0) object.Dead (vertex_object (find vertex_cmp q g.vertices))

pub edge-removed : (g : Graph) (e q : EdgeId) →
    edge_object (find edge_cmp q (removed_key edge_cmp e g.edges)) ≡ cond (nat_eq q.0 e.0) object.Dead (edge_object (find edge_cmp q g.edges))
edge-removed g e q =
    ap edge_object (find-where_key edge_cmp (λ f. not (eq_by_cmp edge_cmp e f)) q (λ f t. ap (λ r. not (is_eq r)) (sym (alike_right edges_total q f e t))) g.edges)
    ∙ cond_map edge_object (not (is_eq (nat_cmp e.0 q.0))) (find edge_cmp q g.edges) None
    ∙ ap (λ b. cond (not b) (edge_object (find edge_cmp q g.edges)) object.Dead) (tied e.0 q.0 ∙ turned e.0 q.0)
    ∙ cond_not (nat_eq q.0 e.0) object.Dead (edge_object (find edge_cmp q g.edges))

-- at the vertex that is changed, and beside it
vertex_changed : (g : Graph) (v : VertexId) (f : VertexRecord → VertexRecord) (q : VertexId) (found : Option VertexRecord) → find vertex_cmp v g.vertices ≡ found →
    object_at (with_found_vertex g v f found) (Vertex q) ≡ cond (nat_eq q.0 v.0) (on_vertex f (object_at g (Vertex q))) (object_at g (Vertex q))
vertex_changed g v f q None h =
    elim (nat_eq q.0 v.0) as (λ b. nat_eq q.0 v.0 ≡ b → object_at g (Vertex q) ≡ cond b (on_vertex f (object_at g (Vertex q))) (object_at g (Vertex q))) [
      | true ↦ λ e. let dead : object_at g (Vertex q) ≡ object.Dead = ap (λ w. object_at g (Vertex w)) (same_vertex q v e) ∙ ap vertex_object h in
          dead ∙ sym (ap (on_vertex f) dead)
      | false ↦ λ e. refl
    ] refl
vertex_changed g v f q (Some r) h =
    vertex-put g v (f r) q
    ∙ elim (nat_eq q.0 v.0) as (λ b. nat_eq q.0 v.0 ≡ b → cond b (object.Vertex (f r)) (object_at g (Vertex q)) ≡ cond b (on_vertex f (object_at g (Vertex q))) (object_at g (Vertex q))) [
      | true ↦ λ e. let alive : object_at g (Vertex q) ≡ object.Vertex r = ap (λ w. object_at g (Vertex w)) (same_vertex q v e) ∙ ap vertex_object h in
          sym (ap (on_vertex f) alive)
      | false ↦ λ e. refl
    ] refl

pub with_vertex_at : (g : Graph) (v : VertexId) (f : VertexRecord → VertexRecord) (q : VertexId) →
    object_at (with_vertex v f g) (Vertex q) ≡ cond (nat_eq q.0 v.0) (on_vertex f (object_at g (Vertex q))) (object_at g (Vertex q))
with_vertex_at g v f q = vertex_changed g v f q (find vertex_cmp v g.vertices) refl

-- no edge changes with a vertex
pub with_vertex_edges : (g : Graph) (v : VertexId) (f : VertexRecord → VertexRecord) → (with_vertex v f g).edges ≡ g.edges
with_vertex_edges g v f = found (find vertex_cmp v g.vertices)
  where
    found : (r : Option VertexRecord) → (with_found_vertex g v f r).edges ≡ g.edges
    found None = refl
    found (Some r) = refl

with_vertex_edge : (g : Graph) (v : VertexId) (f : VertexRecord → VertexRecord) (q : EdgeId) → object_at (with_vertex v f g) (Edge q) ≡ object_at g (Edge q)
with_vertex_edge g v f q = ap (λ es. edge_object (find edge_cmp q es)) (with_vertex_edges g v f)

-- what is alive as an edge has its property set
edge_set_at : (g : Graph) (e : EdgeId) (k : List ℕ) (x : Value) (q : EdgeId) (found : Option EdgeRecord) → find edge_cmp e g.edges ≡ found →
    object_at (with_found_edge g e (λ r. record r { props = set_property k x r.props }) found) (Edge q) ≡ cond (nat_eq q.0 e.0) (with_property k x (object_at g (Edge q))) (object_at g (Edge q))
edge_set_at g e k x q None h =
    elim (nat_eq q.0 e.0) as (λ b. nat_eq q.0 e.0 ≡ b → object_at g (Edge q) ≡ cond b (with_property k x (object_at g (Edge q))) (object_at g (Edge q))) [
      | true ↦ λ t. let dead : object_at g (Edge q) ≡ object.Dead = ap (λ w. object_at g (Edge w)) (same_edge q e t) ∙ ap edge_object h in
          dead ∙ sym (ap (with_property k x) dead)
      | false ↦ λ t. refl
    ] refl
edge_set_at g e k x q (Some r) h =
    edge-put g e (record r { props = set_property k x r.props }) q
    ∙ elim (nat_eq q.0 e.0) as (λ b. nat_eq q.0 e.0 ≡ b → cond b (object.Edge (record r { props = set_property k x r.props })) (object_at g (Edge q)) ≡ cond b (with_property k x (object_at g (Edge q))) (object_at g (Edge q))) [
      | true ↦ λ t. let alive : object_at g (Edge q) ≡ object.Edge r = ap (λ w. object_at g (Edge w)) (same_edge q e t) ∙ ap edge_object h in
          sym (ap (with_property k x) alive)
      | false ↦ λ t. refl
    ] refl

pub with_edge_vertex : (g : Graph) (e : EdgeId) (f : EdgeRecord → EdgeRecord) (q : VertexId) → object_at (with_edge e f g) (Vertex q) ≡ object_at g (Vertex q)
with_edge_vertex g e f q = found (find edge_cmp e g.edges)
  where
    found : (r : Option EdgeRecord) → object_at (with_found_edge g e f r) (Vertex q) ≡ object_at g (Vertex q)
    found None = refl
    found (Some r) = refl

-- the property of a vertex is one of its record
vertex_property : (k : List ℕ) (x : Value) (found : Option VertexRecord) →
    on_vertex (λ r. record r { props = set_property k x r.props }) (vertex_object found) ≡ with_property k x (vertex_object found)
vertex_property k x None = refl
vertex_property k x (Some r) = refl

-- ---- the objects that an edge's write touches

twice : (a b : Bool) → a ≡ b → (a || false) ≡ (a || b)
twice true b e = refl
twice false b e = e

same_number : (a b : ℕ) → nat_eq a b ≡ true → a ≡ b
same_number a b h = grind (arith, rules)

ends_vertex : (q from to : VertexId) (e : EdgeId) (b : Bool) → nat_eq from.0 to.0 ≡ b →
    list_any (same_oid (Vertex q)) (cond b (Vertex from ∷ Edge e ∷ []) (Vertex from ∷ Vertex to ∷ Edge e ∷ [])) ≡ (nat_eq q.0 from.0 || nat_eq q.0 to.0)
ends_vertex q from to e true h = twice (nat_eq q.0 from.0) (nat_eq q.0 to.0) (ap (nat_eq q.0) (same_number from.0 to.0 h))
ends_vertex q from to e false h = ap (λ b. nat_eq q.0 from.0 || b) (or_false (nat_eq q.0 to.0))

-- its two vertices
pub touched_end : (q from to : VertexId) (e : EdgeId) → list_any (same_oid (Vertex q)) (ends from to (Edge e ∷ [])) ≡ (nat_eq q.0 from.0 || nat_eq q.0 to.0)
touched_end q from to e = ends_vertex q from to e (nat_eq from.0 to.0) refl

ends_edge : (q e : EdgeId) (from to : VertexId) (b : Bool) →
    list_any (same_oid (Edge q)) (cond b (Vertex from ∷ Edge e ∷ []) (Vertex from ∷ Vertex to ∷ Edge e ∷ [])) ≡ nat_eq q.0 e.0
ends_edge q e from to true = or_false (nat_eq q.0 e.0)
ends_edge q e from to false = or_false (nat_eq q.0 e.0)

-- and the edge
pub touched_edge : (q e : EdgeId) (from to : VertexId) → list_any (same_oid (Edge q)) (ends from to (Edge e ∷ [])) ≡ nat_eq q.0 e.0
touched_edge q e from to = ends_edge q e from to (nat_eq from.0 to.0)

-- both ends changed, one after the other
module _ (out_of into : VertexRecord → VertexRecord) where
  abbrev at_ends : Bool → Bool → Object → Object
  at_ends leaves comes o = cond comes (on_vertex into (cond leaves (on_vertex out_of o) o)) (cond leaves (on_vertex out_of o) o)

  only_ends : (leaves comes : Bool) (o : Object) → at_ends leaves comes o ≡ cond (leaves || comes) (at_ends leaves comes o) o
  only_ends true comes o = refl
  only_ends false true o = refl
  only_ends false false o = refl

  ends_changed : (g : Graph) (from to : VertexId) (e : EdgeId) (q : VertexId) →
      object_at (with_vertex to into (with_vertex from out_of g)) (Vertex q)
      ≡ cond (list_any (same_oid (Vertex q)) (ends from to (Edge e ∷ []))) (at_ends (nat_eq q.0 from.0) (nat_eq q.0 to.0) (object_at g (Vertex q))) (object_at g (Vertex q))
  ends_changed g from to e q =
      with_vertex_at (with_vertex from out_of g) to into q
      ∙ ap (λ o. cond (nat_eq q.0 to.0) (on_vertex into o) o) (with_vertex_at g from out_of q)
      ∙ only_ends (nat_eq q.0 from.0) (nat_eq q.0 to.0) (object_at g (Vertex q))
      ∙ ap (λ b. cond b (at_ends (nat_eq q.0 from.0) (nat_eq q.0 to.0) (object_at g (Vertex q))) (object_at g (Vertex q))) (sym (touched_end q from to e))

  ends_edges : (g : Graph) (from to : VertexId) (q : EdgeId) → object_at (with_vertex to into (with_vertex from out_of g)) (Edge q) ≡ object_at g (Edge q)
  ends_edges g from to q = with_vertex_edge (with_vertex from out_of g) to into q ∙ with_vertex_edge g from out_of q

-- the one vertex that a write touches
one_vertex : (q v : VertexId) (o p : Object) → cond (nat_eq q.0 v.0) p o ≡ cond (nat_eq q.0 v.0 || false) p o
one_vertex q v o p = ap (λ b. cond b p o) (sym (or_false (nat_eq q.0 v.0)))

-- what the graph has at an object after a write
pub object_at-apply : (op : Op) (g : Graph) (x : Oid) → object_at (apply op g) x ≡ object_after op x (object_at g x)
object_at-apply (CreateVertex v) g (Vertex q) = vertex-put g v empty_vertex q ∙ one_vertex q v (object_at g (Vertex q)) (object.Vertex empty_vertex)
object_at-apply (CreateVertex v) g (Edge q) = refl
object_at-apply (DeleteVertex v) g (Vertex q) = vertex-removed g v q ∙ one_vertex q v (object_at g (Vertex q)) object.Dead
object_at-apply (DeleteVertex v) g (Edge q) = refl
object_at-apply (AddLabel v name) g (Vertex q) =
    with_vertex_at g v (λ r. record r { labels = added name_cmp name r.labels }) q ∙ one_vertex q v (object_at g (Vertex q)) _
object_at-apply (AddLabel v name) g (Edge q) = with_vertex_edge g v (λ r. record r { labels = added name_cmp name r.labels }) q
object_at-apply (RemoveLabel v name) g (Vertex q) =
    with_vertex_at g v (λ r. record r { labels = removed name_cmp name r.labels }) q ∙ one_vertex q v (object_at g (Vertex q)) _
object_at-apply (RemoveLabel v name) g (Edge q) = with_vertex_edge g v (λ r. record r { labels = removed name_cmp name r.labels }) q
object_at-apply (SetVertexProp v k x) g (Vertex q) =
    with_vertex_at g v (λ r. record r { props = set_property k x r.props }) q
    ∙ ap (λ o. cond (nat_eq q.0 v.0) o (object_at g (Vertex q))) (vertex_property k x (find vertex_cmp q g.vertices))
    ∙ one_vertex q v (object_at g (Vertex q)) (with_property k x (object_at g (Vertex q)))
object_at-apply (SetVertexProp v k x) g (Edge q) = with_vertex_edge g v (λ r. record r { props = set_property k x r.props }) q
object_at-apply (CreateEdge e from kind to) g (Vertex q) =
    ends_changed (λ r. record r { outs = added edge_cmp e r.outs }) (λ r. record r { ins = added edge_cmp e r.ins })
    (record g { edges = put edge_cmp e (new_edge kind from to) g.edges }) from to e q
object_at-apply (CreateEdge e from kind to) g (Edge q) =
    ends_edges (λ r. record r { outs = added edge_cmp e r.outs }) (λ r. record r { ins = added edge_cmp e r.ins })
    (record g { edges = put edge_cmp e (new_edge kind from to) g.edges }) from to q
    ∙ edge-put g e (new_edge kind from to) q
    ∙ ap (λ b. cond b (object.Edge (new_edge kind from to)) (object_at g (Edge q))) (sym (touched_edge q e from to))
object_at-apply (DeleteEdge e from to) g (Vertex q) =
    ends_changed (λ r. record r { outs = removed edge_cmp e r.outs }) (λ r. record r { ins = removed edge_cmp e r.ins })
    (record g { edges = removed_key edge_cmp e g.edges }) from to e q
object_at-apply (DeleteEdge e from to) g (Edge q) =
    ends_edges (λ r. record r { outs = removed edge_cmp e r.outs }) (λ r. record r { ins = removed edge_cmp e r.ins })
    (record g { edges = removed_key edge_cmp e g.edges }) from to q
    ∙ edge-removed g e q
    ∙ ap (λ b. cond b object.Dead (object_at g (Edge q))) (sym (touched_edge q e from to))
object_at-apply (SetEdgeProp e k x) g (Edge q) =
    edge_set_at g e k x q _ refl ∙ ap (λ b. cond b (with_property k x (object_at g (Edge q))) (object_at g (Edge q))) (sym (or_false (nat_eq q.0 e.0)))
object_at-apply (SetEdgeProp e k x) g (Vertex q) = with_edge_vertex g e (λ r. record r { props = set_property k x r.props }) q

-- and after several
pub object_at-apply_all : (ops : List Op) (g : Graph) (x : Oid) → object_at (apply_all ops g) x ≡ object_after_all ops x (object_at g x)
unfolding apply_all object_after_all
object_at-apply_all [] g x = refl
object_at-apply_all (op ∷ ops) g x = object_at-apply_all ops (apply op g) x ∙ ap (object_after_all ops x) (object_at-apply op g x)

pub apply_all-append : (xs ys : List Op) (g : Graph) → apply_all (xs ++ ys) g ≡ apply_all ys (apply_all xs g)
unfolding apply_all
apply_all-append [] ys g = refl
apply_all-append (op ∷ xs) ys g = apply_all-append xs ys (apply op g)

pub object_after_all-append : (xs ys : List Op) (x : Oid) (o : Object) → object_after_all (xs ++ ys) x o ≡ object_after_all ys x (object_after_all xs x o)
unfolding object_after_all
object_after_all-append [] ys x o = refl
object_after_all-append (op ∷ xs) ys x o = object_after_all-append xs ys x (object_after op x o)

pub are_touching-append : (xs ys : List Op) (x : Oid) → are_touching (xs ++ ys) x ≡ (are_touching xs x || are_touching ys x)
unfolding are_touching
are_touching-append [] ys x = refl
are_touching-append (op ∷ xs) ys x = ap (λ b. is_touched op x || b) (are_touching-append xs ys x) ∙ or_assoc (is_touched op x) (are_touching xs x) (are_touching ys x)
  where
    or_assoc : (a b c : Bool) → (a || (b || c)) ≡ ((a || b) || c)
    or_assoc true b c = refl
    or_assoc false b c = refl

pub or_left_false : (a b : Bool) → (a || b) ≡ false → a ≡ false
or_left_false true b h = h
or_left_false false b h = refl

pub or_right_false : (a b : Bool) → (a || b) ≡ false → b ≡ false
or_right_false true b h = absurd (false≢true (sym h))
or_right_false false b h = h

-- what no write touches stays
pub untouched : (ops : List Op) (x : Oid) (o : Object) → are_touching ops x ≡ false → object_after_all ops x o ≡ o
unfolding are_touching object_after_all
untouched [] x o h = refl
untouched (op ∷ ops) x o h =
    let first : is_touched op x ≡ false = or_left_false _ _ h in
    untouched ops x (object_after op x o) (or_right_false (is_touched op x) _ h) ∙ ap (λ b. cond b (changed op x o) o) first
