-- Sound writes keep a graph coherent.
use Rattle.std.proofs.Common.{◌≡◌, ℕ, List, [], ◌∷◌, Bool, true, false, ◌&&◌, cond, refl, sym, ap, subst, ◌∙◌}
use Rattle.std.specs.Prelude.{nat_eq}
use Rattle.std.proofs.lemmas.Bool.{false≢true}
use Rattle.graph_value.specs.Name.{name_cmp}
use Rattle.graph_value.specs.declared.id.VertexId.{VertexId}
use Rattle.graph_value.specs.declared.id.EdgeId.{EdgeId}
use Rattle.graph_value.specs.declared.id.Oid.{Oid}
use Rattle.graph_value.specs.declared.id.Oid.TheVariants.{Vertex, Edge}
use Rattle.graph_record.specs.declared.object.Object.{Object}
use Rattle.graph_record.specs.declared.object.Object.TheVariants as object
use Rattle.graph_record.specs.Edits.{added, removed}
use Rattle.graph_record.specs.Graph.{Graph, object_at, is_dead, IsCoherent}
use Rattle.undo_delta.specs.Change as one
use Rattle.undo_delta.specs.Change.{changed, new_edge, linked, unlinked, is_vertex, is_without_edges, goes_between}
use Rattle.undo_delta.specs.Touch.{is_touched}
use Rattle.undo_delta.specs.declared.op.Op.{Op}
use Rattle.undo_delta.specs.declared.op.Op.TheVariants.{CreateVertex, DeleteVertex, AddLabel, RemoveLabel, SetVertexProp, CreateEdge, DeleteEdge, SetEdgeProp}
use Rattle.world_model.specs.Op.{apply, apply_all, is_possible, changes, are_sound}
use Rattle.world_model.proofs.Objects.{object_at-apply, same_edge, touched_end, touched_edge}
use Rattle.world_model.proofs.GraphOrder.{vertices_sorted, edges_sorted}
use Rattle.world_model.proofs.Ends.{Side, side}
use Rattle.world_model.proofs.Folds.{and_left_true, and_right_true, possible_at}

choice : {A : Type 0} (F : A → Bool) (b : Bool) (p o : A) (n : Bool) → (b ≡ true → F p ≡ n) → (b ≡ false → F o ≡ n) → F (cond b p o) ≡ n
choice F true p o n taken left = taken refl
choice F false p o n taken left = left refl

module _ (s : Side) where
  -- both tell the same at the edge and the vertex
  Agree : EdgeId → VertexId → Graph → Type 0
  Agree e v g = s.names v (object_at g (Edge e)) ≡ s.listed e (object_at g (Vertex v))

  -- an object that a write touches not, or whose fact it keeps
  kept : (F : Object → Bool) (op : Op) (g : Graph) (x : Oid) → (is_touched op x ≡ true → F (changed op x (object_at g x)) ≡ F (object_at g x)) → F (object_at (apply op g) x) ≡ F (object_at g x)
  kept F op g x h = ap F (object_at-apply op g x) ∙ choice F (is_touched op x) (changed op x (object_at g x)) (object_at g x) (F (object_at g x)) h (λ t. refl)

  agree_where : (op : Op) (g : Graph) (e : EdgeId) (v : VertexId) → Agree e v g →
      (is_touched op (Edge e) ≡ true → s.names v (changed op (Edge e) (object_at g (Edge e))) ≡ s.names v (object_at g (Edge e))) →
      (is_touched op (Vertex v) ≡ true → s.listed e (changed op (Vertex v) (object_at g (Vertex v))) ≡ s.listed e (object_at g (Vertex v))) →
      Agree e v (apply op g)
  unfolding Agree
  agree_where op g e v agree edge vertex = kept (s.names v) op g (Edge e) edge ∙ agree ∙ sym (kept (s.listed e) op g (Vertex v) vertex)

  new_edge_agrees : (g : Graph) (e f : EdgeId) (v from to : VertexId) (kind : List ℕ) → is_possible (CreateEdge f from kind to) g ≡ true → Agree e v g → (b : Bool) → nat_eq e.0 f.0 ≡ b → Agree e v (apply (CreateEdge f from kind to) g)
  unfolding Agree
  new_edge_agrees g e f v from to kind possible agree false apart =
      agree_where (CreateEdge f from kind to) g e v agree
      (λ t. absurd (false≢true (sym apart ∙ (sym (touched_edge e f from to) ∙ t))))
      (λ t. s.link_other e f v from to (object_at g (Vertex v)) apart)
  new_edge_agrees g e f v from to kind possible agree true same =
      let op = CreateEdge f from kind to in
      let mine : e ≡ f = same_edge e f same in
      let dead : is_dead (object_at g (Edge e)) ≡ true = possible_at op g (Edge e) possible (touched_edge e f from to ∙ same) in
      let unlisted : s.listed e (object_at g (Vertex v)) ≡ false = sym agree ∙ s.dead_names v (object_at g (Edge e)) dead in
      let edge : s.names v (object_at (apply op g) (Edge e)) ≡ s.here v from to =
      ap (s.names v) (object_at-apply op g (Edge e) ∙ ap (λ b. cond b (object.Edge (new_edge kind from to)) (object_at g (Edge e))) (touched_edge e f from to ∙ same)) ∙ s.new_names v from to kind in
      let vertex : s.listed e (object_at (apply op g) (Vertex v)) ≡ s.here v from to =
      ap (s.listed e) (object_at-apply op g (Vertex v))
      ∙ choice (s.listed e) (is_touched op (Vertex v)) (changed op (Vertex v) (object_at g (Vertex v))) (object_at g (Vertex v)) (s.here v from to)
      (λ t. subst (λ (h : EdgeId). s.listed e (linked (nat_eq v.0 from.0) (nat_eq v.0 to.0) h (object_at g (Vertex v))) ≡ s.here v from to) mine
      (s.link_here e v from to (object_at g (Vertex v)) (free_is_vertex f (object_at g (Vertex v)) (possible_at op g (Vertex v) possible t)) unlisted))
      (λ t. unlisted ∙ sym (s.here_touched v from to (sym (touched_end v from to f) ∙ t))) in
      edge ∙ sym vertex
    where
      free_is_vertex : (f : EdgeId) (o : Object) → one.is_free_of f o ≡ true → is_vertex o ≡ true
      free_is_vertex f object.Dead h = h
      free_is_vertex f (object.Vertex r) h = refl
      free_is_vertex f (object.Edge r) h = h

  lost_edge_agrees : (g : Graph) (e f : EdgeId) (v from to : VertexId) → is_possible (DeleteEdge f from to) g ≡ true → Agree e v g → (b : Bool) → nat_eq e.0 f.0 ≡ b → Agree e v (apply (DeleteEdge f from to) g)
  unfolding Agree
  lost_edge_agrees g e f v from to possible agree false apart =
      agree_where (DeleteEdge f from to) g e v agree
      (λ t. absurd (false≢true (sym apart ∙ (sym (touched_edge e f from to) ∙ t))))
      (λ t. s.unlink_other e f v from to (object_at g (Vertex v)) apart)
  lost_edge_agrees g e f v from to possible agree true same =
      let op = DeleteEdge f from to in
      let mine : e ≡ f = same_edge e f same in
      let between : goes_between from to (object_at g (Edge e)) ≡ true = possible_at op g (Edge e) possible (touched_edge e f from to ∙ same) in
      let listed : s.listed e (object_at g (Vertex v)) ≡ s.here v from to = sym agree ∙ s.between_names v from to (object_at g (Edge e)) between in
      let edge : s.names v (object_at (apply op g) (Edge e)) ≡ false =
      ap (s.names v) (object_at-apply op g (Edge e) ∙ ap (λ b. cond b object.Dead (object_at g (Edge e))) (touched_edge e f from to ∙ same)) ∙ s.dead_names v object.Dead refl in
      let vertex : s.listed e (object_at (apply op g) (Vertex v)) ≡ false =
      ap (s.listed e) (object_at-apply op g (Vertex v))
      ∙ choice (s.listed e) (is_touched op (Vertex v)) (changed op (Vertex v) (object_at g (Vertex v))) (object_at g (Vertex v)) false
      (λ t. subst (λ (h : EdgeId). s.listed e (unlinked (nat_eq v.0 from.0) (nat_eq v.0 to.0) h (object_at g (Vertex v))) ≡ false) mine
      (s.unlink_here e v from to (object_at g (Vertex v)) (λ away. listed ∙ away)))
      (λ t. listed ∙ s.here_touched v from to (sym (touched_end v from to f) ∙ t)) in
      edge ∙ sym vertex

  agrees : (op : Op) (g : Graph) (e : EdgeId) (v : VertexId) → is_possible op g ≡ true → Agree e v g → Agree e v (apply op g)
  unfolding Agree
  agrees (CreateVertex w) g e v possible agree =
      agree_where (CreateVertex w) g e v agree (λ t. absurd (false≢true t))
      (λ t. s.new_lists e ∙ sym (s.dead_lists e (object_at g (Vertex v)) (possible_at (CreateVertex w) g (Vertex v) possible t)))
  agrees (DeleteVertex w) g e v possible agree =
      agree_where (DeleteVertex w) g e v agree (λ t. absurd (false≢true t))
      (λ t. s.dead_lists e object.Dead refl ∙ sym (s.bare_lists e (object_at g (Vertex v)) (possible_at (DeleteVertex w) g (Vertex v) possible t)))
  agrees (AddLabel w name) g e v possible agree =
      agree_where (AddLabel w name) g e v agree (λ t. absurd (false≢true t)) (λ t. s.labels_kept e (added name_cmp name) (object_at g (Vertex v)))
  agrees (RemoveLabel w name) g e v possible agree =
      agree_where (RemoveLabel w name) g e v agree (λ t. absurd (false≢true t)) (λ t. s.labels_kept e (removed name_cmp name) (object_at g (Vertex v)))
  agrees (SetVertexProp w k x) g e v possible agree =
      agree_where (SetVertexProp w k x) g e v agree (λ t. absurd (false≢true t)) (λ t. s.property_lists e k x (object_at g (Vertex v)))
  agrees (CreateEdge f from kind to) g e v possible agree = new_edge_agrees g e f v from to kind possible agree (nat_eq e.0 f.0) refl
  agrees (DeleteEdge f from to) g e v possible agree = lost_edge_agrees g e f v from to possible agree (nat_eq e.0 f.0) refl
  agrees (SetEdgeProp f k x) g e v possible agree =
      agree_where (SetEdgeProp f k x) g e v agree (λ t. s.property_names v k x (object_at g (Edge e))) (λ t. absurd (false≢true t))

-- a possible write keeps a graph coherent
pub coherent-apply : (op : Op) (g : Graph) → is_possible op g ≡ true → IsCoherent g → IsCoherent (apply op g)
unfolding Agree side
coherent-apply op g possible c = record {
  vertices_ascend = vertices_sorted op g c.vertices_ascend;
  edges_ascend = edges_sorted op g c.edges_ascend;
  starts = λ e v. agrees (side true) op g e v possible (c.starts e v);
  ends = λ e v. agrees (side false) op g e v possible (c.ends e v);
}

-- and so do sound writes
pub coherent-sound : (ops : List Op) (g : Graph) → are_sound ops g ≡ true → IsCoherent g → IsCoherent (apply_all ops g)
unfolding are_sound apply_all
coherent-sound [] g h c = c
coherent-sound (op ∷ ops) g h c =
    let first = and_left_true (is_possible op g) (changes op g) (and_left_true (is_possible op g && changes op g) (are_sound ops (apply op g)) h) in
    let rest = and_right_true (is_possible op g && changes op g) (are_sound ops (apply op g)) h in
    coherent-sound ops (apply op g) rest (coherent-apply op g first c)
