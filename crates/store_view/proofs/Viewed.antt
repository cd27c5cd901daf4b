-- A search of a store for vertices is that of a reader of its graph.
use Rattle.std.proofs.Common.{◌≡◌, ℕ, List, [], ◌∷◌, Option, Some, None, Bool, true, false, cond, filter, map, refl, ap, subst, ◌∙◌}
use Rattle.std.specs.Prelude.{Ok, option_map}
use Rattle.graph_value.specs.declared.id.VertexId.{VertexId}
use Rattle.graph_value.specs.declared.id.EdgeId.{EdgeId}
use Rattle.graph_value.specs.declared.id.Oid.TheVariants as oid
use Rattle.graph_record.specs.declared.object.VertexRecord.{VertexRecord}
use Rattle.graph_record.specs.declared.object.EdgeRecord.{EdgeRecord}
use Rattle.graph_reader.specs.Alive.{edge_in, first_above, is_above, next_vertex_in, vertex_in}
use Rattle.graph_record.specs.Graph.{Graph, edge_object, object_at, vertex_object}
use Rattle.world_model.specs.declared.event.Kind.TheVariants.{Vertex}
use Rattle.graph_value.specs.declared.id.Oid.{Oid}
use Rattle.graph_record.specs.declared.object.Object.{Object}
use Rattle.world_model.specs.declared.event.Event.TheVariants as event
use Rattle.world_model.specs.declared.event.When.{When}
use Rattle.world_model.specs.History.{Entry, IsLegal, IsStart}
use Rattle.world_model.specs.Reply.{Reply}
use Rattle.world_model.specs.Reply as reply
use Rattle.world_model.specs.Sending.{Sees, Sends, SendsRead}
use Rattle.world_model.specs.World.{Start}
use Rattle.world_model.proofs.Sent.{next_tells, read_tells}
use Rattle.store_view.specs.Seen.{edge_record, numbered, vertex_number, vertex_record}
use Rattle.world_model.specs.Views.{first_of, next_id, is_above as is_above_number}

same_above : (after : Option VertexId) (v : VertexId) → is_above_number (option_map vertex_number after) v.0 ≡ is_above after v
same_above None v = refl
same_above (Some a) v = refl

first_is : (after : Option VertexId) (es : List (VertexId × VertexRecord)) →
    option_map numbered (first_of (filter (is_above_number (option_map vertex_number after)) (map (λ v. v.0.0) es))) ≡ first_above after es
first_is after [] = refl
first_is after (e ∷ es) =
    let rest = filter (is_above_number (option_map vertex_number after)) (map (λ (v : VertexId × VertexRecord). v.0.0) es) in
    ap (λ b. option_map numbered (first_of (cond b (e.0.0 ∷ rest) rest))) (same_above after e.0)
    ∙ elim (is_above after e.0) as (λ b. option_map numbered (first_of (cond b (e.0.0 ∷ rest) rest)) ≡ cond b (Some e.0) (first_above after es)) [
      | true ↦ refl
      | false ↦ first_is after es
    ]

pub next_is : (g : Graph) (after : Option VertexId) → option_map numbered (next_id Vertex (option_map vertex_number after) g) ≡ next_vertex_in g after
next_is g after = first_is after g.vertices

vertex_back : (r : Option VertexRecord) → vertex_record (vertex_object r) ≡ r
vertex_back None = refl
vertex_back (Some r) = refl

edge_back : (r : Option EdgeRecord) → edge_record (edge_object r) ≡ r
edge_back None = refl
edge_back (Some r) = refl

pub vertex_is : (g : Graph) (v : VertexId) → vertex_record (object_at g (oid.Vertex v)) ≡ vertex_in g v
vertex_is g v = vertex_back (vertex_in g v)

pub edge_is : (g : Graph) (e : EdgeId) → edge_record (object_at g (oid.Edge e)) ≡ edge_in g e
edge_is g e = edge_back (edge_in g e)

-- ---- what a call on the store tells by each graph that the view stands for

module _ {S : Type 0} (stands : S → Start → List Entry → Type 0) (caller : S → ℕ) (alone : S → Bool)
    (legal : (r : S) (s : Start) (es : List Entry) → stands r s es → IsStart s × IsLegal s es) (when : When) (start : ℕ) (old new : S) (g : Graph) where
  pub object_told : (x : Oid) (o : Object) → SendsRead stands caller alone x when (Ok o) old new → Sees stands caller alone start when old g → o ≡ object_at g x
  object_told x o s sees = read_tells stands caller alone legal x when o old new (subst (λ (r : Reply). Sends stands caller alone (event.Read x when) r old new) s.told s.sent) start g sees

  pub vertex_told : (v : VertexId) (o : Object) → SendsRead stands caller alone (oid.Vertex v) when (Ok o) old new → Sees stands caller alone start when old g → vertex_record o ≡ vertex_in g v
  vertex_told v o s sees = ap vertex_record (object_told (oid.Vertex v) o s sees) ∙ vertex_is g v

  pub edge_told : (e : EdgeId) (o : Object) → SendsRead stands caller alone (oid.Edge e) when (Ok o) old new → Sees stands caller alone start when old g → edge_record o ≡ edge_in g e
  edge_told e o s sees = ap edge_record (object_told (oid.Edge e) o s sees) ∙ edge_is g e

  pub next_told : (after : Option VertexId) (id : Option ℕ) → Sends stands caller alone (event.Next Vertex (option_map vertex_number after) when) (reply.Id id) old new → Sees stands caller alone start when old g →
      option_map numbered id ≡ next_vertex_in g after
  next_told after id s sees = ap (option_map numbered) (next_tells stands caller alone legal Vertex (option_map vertex_number after) when id old new s start g sees) ∙ next_is g after
