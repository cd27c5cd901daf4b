-- A possible write changes the graph exactly where it changes an object of it.
use Rattle.std.proofs.Common.{◌≡◌, ◌↔◌, None, Bool, true, false, not, ◌||◌, cond, refl, sym, ap, subst, ◌∙◌}
use Rattle.std.proofs.lemmas.Bool.{false≢true}
use Rattle.graph_value.specs.declared.id.Oid.{Oid}
use Rattle.graph_value.specs.declared.id.Oid.TheVariants.{Vertex, Edge}
use Rattle.graph_record.specs.Graph.{Graph, object_at}
use Rattle.undo_delta.specs.Change.{changed, deltas_of, no_delta, one_delta}
use Rattle.graph_record.specs.Form.{IsForm}
use Rattle.undo_delta.specs.Touch.{is_touched, same_oid}
use Rattle.undo_delta.specs.declared.delta.Delta.{Delta}
use Rattle.undo_delta.specs.declared.op.Op.{Op}
use Rattle.undo_delta.specs.declared.op.Op.TheVariants.{CreateVertex, DeleteVertex, AddLabel, RemoveLabel, SetVertexProp, CreateEdge, DeleteEdge, SetEdgeProp}
use Rattle.undo_delta.proofs.Effect.{change_effect}
use Rattle.world_model.specs.Op.{apply, is_possible, changes}
use Rattle.world_model.proofs.Objects.{object_at-apply, or_false, touched_edge}
use Rattle.world_model.proofs.Folds.{nat_eq_refl, one_touched, same_id, possible_at}

-- the object that a write speaks of
main_of : Op → Oid
main_of (CreateVertex v) = Vertex v
main_of (DeleteVertex v) = Vertex v
main_of (AddLabel v name) = Vertex v
main_of (RemoveLabel v name) = Vertex v
main_of (SetVertexProp v name value) = Vertex v
main_of (CreateEdge e from kind to) = Edge e
main_of (DeleteEdge e from to) = Edge e
main_of (SetEdgeProp e name value) = Edge e

main_touched : (op : Op) → is_touched op (main_of op) ≡ true
unfolding main_of
main_touched (CreateVertex v) = one_touched v.0
main_touched (DeleteVertex v) = one_touched v.0
main_touched (AddLabel v name) = one_touched v.0
main_touched (RemoveLabel v name) = one_touched v.0
main_touched (SetVertexProp v name value) = one_touched v.0
main_touched (CreateEdge e from kind to) = touched_edge e e from to ∙ nat_eq_refl e.0
main_touched (DeleteEdge e from to) = touched_edge e e from to ∙ nat_eq_refl e.0
main_touched (SetEdgeProp e name value) = one_touched e.0

none_where : (b : Bool) (d : Delta) → not b ≡ false → (cond b no_delta (one_delta d)).first ≡ None
none_where true d h = refl
none_where false d h = absurd (false≢true (sym h))

none_there : (b : Bool) (d : Delta) → b ≡ false → (cond b (one_delta d) no_delta).first ≡ None
none_there true d h = absurd (false≢true (sym h))
none_there false d h = refl

where_none : (b : Bool) (d : Delta) → (cond b no_delta (one_delta d)).first ≡ None → not b ≡ false
where_none true d h = refl
where_none false d h = absurd (cc)

there_none : (b : Bool) (d : Delta) → (cond b (one_delta d) no_delta).first ≡ None → b ≡ false
there_none true d h = absurd (cc)
there_none false d h = refl

-- it leaves no delta there exactly where it doesn't change the graph
quiet_main : (op : Op) (g : Graph) → changes op g ≡ false → (deltas_of op (main_of op) (object_at g (main_of op))).first ≡ None
unfolding main_of
quiet_main (CreateVertex v) g h = absurd (false≢true (sym h))
quiet_main (DeleteVertex v) g h = absurd (false≢true (sym h))
quiet_main (AddLabel v name) g h = none_where _ _ h
quiet_main (RemoveLabel v name) g h = none_there _ _ h
quiet_main (SetVertexProp v name value) g h = none_where _ _ h
quiet_main (CreateEdge e from kind to) g h = absurd (false≢true (sym h))
quiet_main (DeleteEdge e from to) g h = absurd (false≢true (sym h))
quiet_main (SetEdgeProp e name value) g h = none_where _ _ h

main_quiet : (op : Op) (g : Graph) → (deltas_of op (main_of op) (object_at g (main_of op))).first ≡ None → changes op g ≡ false
unfolding main_of
main_quiet (CreateVertex v) g h = absurd (cc)
main_quiet (DeleteVertex v) g h = absurd (cc)
main_quiet (AddLabel v name) g h = where_none _ _ h
main_quiet (RemoveLabel v name) g h = there_none _ _ h
main_quiet (SetVertexProp v name value) g h = where_none _ _ h
main_quiet (CreateEdge e from kind to) g h = absurd (cc)
main_quiet (DeleteEdge e from to) g h = absurd (cc)
main_quiet (SetEdgeProp e name value) g h = where_none _ _ h

one_only : (x y : Oid) → (same_oid x y || false) ≡ true → x ≡ y
one_only x y h = same_id x y (sym (or_false (same_oid x y)) ∙ h)

-- a write that changes nothing touches no other object
only_main : (op : Op) (g : Graph) (x : Oid) → changes op g ≡ false → is_touched op x ≡ true → x ≡ main_of op
unfolding main_of
only_main (CreateVertex v) g x h t = absurd (false≢true (sym h))
only_main (DeleteVertex v) g x h t = absurd (false≢true (sym h))
only_main (AddLabel v name) g x h t = one_only x (Vertex v) t
only_main (RemoveLabel v name) g x h t = one_only x (Vertex v) t
only_main (SetVertexProp v name value) g x h t = one_only x (Vertex v) t
only_main (CreateEdge e from kind to) g x h t = absurd (false≢true (sym h))
only_main (DeleteEdge e from to) g x h t = absurd (false≢true (sym h))
only_main (SetEdgeProp e name value) g x h t = one_only x (Edge e) t

module _ (op : Op) (g : Graph) (form : (x : Oid) → IsForm (object_at g x)) (possible : is_possible op g ≡ true) where
  unchanged : changes op g ≡ false → (x : Oid) → object_at (apply op g) x ≡ object_at g x
  unchanged quiet x = object_at-apply op g x ∙ by_touch (is_touched op x) refl
    where
      by_touch : (b : Bool) → is_touched op x ≡ b → cond b (changed op x (object_at g x)) (object_at g x) ≡ object_at g x
      by_touch true t =
          let none : (deltas_of op x (object_at g x)).first ≡ None = subst (λ (y : Oid). (deltas_of op y (object_at g y)).first ≡ None) (sym (only_main op g x quiet t)) (quiet_main op g quiet) in
          (change_effect op x (object_at g x) (form x) t (possible_at op g x possible t)).0 none
      by_touch false t = refl

  quiet_of : ((x : Oid) → object_at (apply op g) x ≡ object_at g x) → changes op g ≡ false
  quiet_of same =
      let x = main_of op in
      let touched = main_touched op in
      let here : changed op x (object_at g x) ≡ object_at g x = ap (λ b. cond b (changed op x (object_at g x)) (object_at g x)) (sym touched) ∙ sym (object_at-apply op g x) ∙ same x in
      main_quiet op g ((change_effect op x (object_at g x) (form x) touched (possible_at op g x possible touched)).1 here)

  pub effect_seen : (changes op g ≡ false) ↔ ((x : Oid) → object_at (apply op g) x ≡ object_at g x)
  effect_seen = (unchanged, quiet_of)
