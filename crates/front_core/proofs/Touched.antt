-- The objects that a write touches, one after the other.
use Rattle.std.proofs.Common.{◌≡◌, ℕ, ◌+◌, ◌<◌, ◌≤◌, List, [], ◌∷◌, Option, Some, None, ◌⊎◌, inl, inr, Bool, true, false, ◌||◌, cond, length, drop, get_or, refl, sym, ap, ◌∙◌, arith}
use Rattle.std.specs.Prelude.{slice_get, nat_eq}
use Rattle.std.proofs.lemmas.Option.{slice_get_within, slice_get_cases, get_or_from_slice_get}
use Rattle.std.proofs.lemmas.List.{drop_more, drop_all}
use Rattle.graph_value.specs.declared.id.Oid.{Oid}
use Rattle.graph_value.specs.declared.id.Oid.TheVariants.{Vertex, Edge}
use Rattle.undo_delta.specs.Touch.{touches, ends}
use Rattle.undo_delta.specs.declared.ask.Ask.{Ask}
use Rattle.undo_delta.specs.declared.ask.Ask.TheVariants as ask
use Rattle.undo_delta.specs.declared.op.Op.{Op}
use Rattle.undo_delta.specs.declared.op.Op.TheVariants as op
use Rattle.world_model.specs.Asked.{named}

pub touches_few : (o : Op) → length (touches o) ≤ 3
touches_few (op.CreateVertex v) = omega arith
touches_few (op.DeleteVertex v) = omega arith
touches_few (op.AddLabel v name) = omega arith
touches_few (op.RemoveLabel v name) = omega arith
touches_few (op.SetVertexProp v name value) = omega arith
touches_few (op.SetEdgeProp e name value) = omega arith
touches_few (op.CreateEdge e from kind to) = few (nat_eq from.0 to.0)
  where
    few : (b : Bool) → length (cond b (Vertex from ∷ Edge e ∷ []) (Vertex from ∷ Vertex to ∷ Edge e ∷ [])) ≤ 3
    few true = omega arith
    few false = omega arith
touches_few (op.DeleteEdge e from to) = few (nat_eq from.0 to.0)
  where
    few : (b : Bool) → length (cond b (Vertex from ∷ Edge e ∷ []) (Vertex from ∷ Vertex to ∷ Edge e ∷ [])) ≤ 3
    few true = omega arith
    few false = omega arith

pub names_few : (a : Ask) → length (named a) ≤ 2
names_few ask.CreateVertex = omega arith
names_few (ask.DeleteVertex v) = omega arith
names_few (ask.AddLabel v name) = omega arith
names_few (ask.RemoveLabel v name) = omega arith
names_few (ask.SetVertexProp v name value) = omega arith
names_few (ask.CreateEdge from kind to) = omega arith
names_few (ask.DeleteEdge e) = omega arith
names_few (ask.SetEdgeProp e name value) = omega arith

pub next_one : {A : Type 0} (xs : List A) (i : ℕ) (x : A) → slice_get xs i ≡ Some x → drop i xs ≡ x ∷ drop (i + 1) xs
next_one xs i x at = drop_more xs i x (slice_get_within xs i x at) ∙ ap (λ y. y ∷ drop (i + 1) xs) (get_or_from_slice_get xs i x x at)

pub no_more : {A : Type 0} (xs : List A) (i : ℕ) → slice_get xs i ≡ None → drop i xs ≡ []
no_more {A = A} xs i at = drop_all i xs (past (slice_get_cases xs i).1)
  where
    past : ((x : A) × (i < length xs) × (slice_get xs i ≡ Some x) × (get_or xs i x ≡ x)) ⊎ ((length xs ≤ i) × (slice_get xs i ≡ None)) → length xs ≤ i
    past (inl within) = absurd (some_none within.0 (sym within.2 ∙ at))
      where
        some_none : (x : A) → Some x ≡ None → ⊥
        some_none x h = cc
    past (inr end) = end.0
