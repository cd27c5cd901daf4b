-- The newest delta of the commits at an object has the timestamp of the newest commit that touches it.
use Rattle.std.proofs.Common.{◌≡◌, ℕ, ◌<◌, List, [], ◌∷◌, ◌++◌, Option, Some, None, Bool, true, false, not, ◌&&◌, ◌||◌, cond, max, fold, map, filter, reverse, refl, sym, ap, subst, ◌∙◌, arith}
use Rattle.std.specs.Prelude.{nat_lt, nat_eq}
use Rattle.std.specs.List.{list_all, list_any}
use Rattle.std.proofs.lemmas.Bool.{false≢true}
use Rattle.std.proofs.lemmas.Bool.Decides.{nat_tests}
use Rattle.std.proofs.lemmas.List.{map-append, reverse-append}
use Rattle.graph_value.specs.declared.id.Oid.{Oid}
use Rattle.graph_value.specs.declared.id.Oid.TheVariants.{Vertex, Edge}
use Rattle.graph_record.specs.declared.object.Object.{Object}
use Rattle.graph_record.specs.Graph.{Graph, empty_graph, object_at}
use Rattle.undo_law.specs.declared.dated.Dated.{Dated}
use Rattle.undo_delta.specs.Change.{deltas_of, end_deltas, no_delta, one_delta}
use Rattle.undo_delta.specs.Touch.{is_touched, same_oid}
use Rattle.undo_delta.specs.declared.delta.Delta.{Delta}
use Rattle.undo_delta.specs.declared.op.Op.{Op}
use Rattle.undo_delta.specs.declared.op.Op.TheVariants.{CreateVertex, DeleteVertex, AddLabel, RemoveLabel, SetVertexProp, CreateEdge, DeleteEdge, SetEdgeProp}
use Rattle.version_chain.specs.Parts.{first_of}
use Rattle.world_model.specs.Op.{apply, apply_all, are_touching, are_sound, is_possible, changes}
use Rattle.world_model.specs.World.{World, Commit, InOrder, ops_of, stamps_ascend, newest_touch, greatest}
use Rattle.world_model.specs.Undo.{both, dated, left_by, left_by_all, left_since, undo_list}
use Rattle.world_model.specs.Refusals.{or_else}
use Rattle.world_model.proofs.Objects.{or_false, touched_end, touched_edge}
use Rattle.world_model.proofs.Folds.{same_id, are_sound-append, both_true, and_left_true, and_right_true}

-- the last number of a list
pub last_of : List ℕ → Option ℕ
last_of [] = None
last_of (n ∷ []) = Some n
last_of (n ∷ m ∷ ms) = last_of (m ∷ ms)

-- each number is above those before it
climbs : List ℕ → Bool
climbs [] = true
climbs (n ∷ ns) = list_all (nat_lt n) ns && climbs ns

-- of a list that climbs, the greatest is the last
greatest-last : (n : ℕ) (ns : List ℕ) → climbs (n ∷ ns) ≡ true → Some (fold max n ns) ≡ last_of (n ∷ ns)
unfolding climbs last_of
greatest-last n [] h = refl
greatest-last n (m ∷ ms) h =
    let above : nat_lt n m ≡ true = and_left_true (nat_lt n m) (list_all (nat_lt n) ms) (and_left_true _ _ h) in
    ap (λ k. Some (fold max k ms)) (higher n m above) ∙ greatest-last m ms (and_right_true _ _ h)
  where
    higher : (a b : ℕ) → nat_lt a b ≡ true → max a b ≡ b
    higher a b lt = let below : a < b = grind (arith, nat_tests) in omega arith

climbs-touching : (cs : List Commit) (x : Oid) → stamps_ascend cs ≡ true → climbs (map (λ c. c.ts) (filter (λ c. are_touching c.ops x) cs)) ≡ true
unfolding climbs stamps_ascend
climbs-touching [] x h = refl
climbs-touching (c ∷ cs) x h =
    elim (are_touching c.ops x) as (λ b. climbs (map (λ c. c.ts) (cond b (c ∷ filter (λ c. are_touching c.ops x) cs) (filter (λ c. are_touching c.ops x) cs))) ≡ true) [
      | true ↦ both_true _ _ (above c.ts cs (and_left_true _ _ h)) (climbs-touching cs x (and_right_true _ _ h))
      | false ↦ climbs-touching cs x (and_right_true _ _ h)
    ]
  where
    above : (n : ℕ) (cs : List Commit) → list_all (λ d. nat_lt n d.ts) cs ≡ true → list_all (nat_lt n) (map (λ c. c.ts) (filter (λ c. are_touching c.ops x) cs)) ≡ true
    above n [] h = refl
    above n (d ∷ ds) h =
        elim (are_touching d.ops x) as (λ b. list_all (nat_lt n) (map (λ c. c.ts) (cond b (d ∷ filter (λ c. are_touching c.ops x) ds) (filter (λ c. are_touching c.ops x) ds))) ≡ true) [
          | true ↦ both_true _ _ (and_left_true _ _ h) (above n ds (and_right_true _ _ h))
          | false ↦ above n ds (and_right_true _ _ h)
        ]

pub touch_is_last : (cs : List Commit) (x : Oid) → stamps_ascend cs ≡ true → newest_touch cs x ≡ last_of (map (λ c. c.ts) (filter (λ c. are_touching c.ops x) cs))
unfolding newest_touch last_of
touch_is_last cs x h = of_list (map (λ c. c.ts) (filter (λ c. are_touching c.ops x) cs)) (climbs-touching cs x h)
  where
    of_list : (ns : List ℕ) → climbs ns ≡ true → greatest ns ≡ last_of ns
    of_list [] c = refl
    of_list (n ∷ ns) c = greatest-last n ns c

-- WHAT A WRITE LEAVES

has_some : {A : Type 0} → List A → Bool
has_some [] = false
has_some (y ∷ ys) = true

some-append : {A : Type 0} (xs ys : List A) → has_some (xs ++ ys) ≡ (has_some xs || has_some ys)
unfolding has_some
some-append [] ys = refl
some-append (x ∷ xs) ys = refl

ends_some : (a b : Bool) (s t : Delta) → (a || b) ≡ true → has_some (both (end_deltas a b s t)) ≡ true
unfolding has_some
ends_some true true s t h = refl
ends_some true false s t h = refl
ends_some false true s t h = refl
ends_some false false s t h = absurd (false≢true h)

unless : (b : Bool) (d : Delta) → not b ≡ true → has_some (both (cond b no_delta (one_delta d))) ≡ true
unfolding has_some
unless true d h = absurd (false≢true h)
unless false d h = refl

only : (b : Bool) (d : Delta) → b ≡ true → has_some (both (cond b (one_delta d) no_delta)) ≡ true
unfolding has_some
only true d h = refl
only false d h = absurd (false≢true h)

one_only : (x y : Oid) → (same_oid x y || false) ≡ true → x ≡ y
one_only x y h = same_id x y (sym (or_false (same_oid x y)) ∙ h)

-- a write that changes the graph leaves a delta on each object that it touches
leaves_some : (op : Op) (g : Graph) (x : Oid) → is_touched op x ≡ true → changes op g ≡ true → has_some (both (deltas_of op x (object_at g x))) ≡ true
unfolding has_some
leaves_some (CreateVertex v) g x t c = refl
leaves_some (DeleteVertex v) g x t c = refl
leaves_some (AddLabel v name) g x t c = subst (λ (y : Oid). has_some (both (deltas_of (AddLabel v name) y (object_at g y))) ≡ true) (sym (one_only x (Vertex v) t)) (unless _ _ c)
leaves_some (RemoveLabel v name) g x t c = subst (λ (y : Oid). has_some (both (deltas_of (RemoveLabel v name) y (object_at g y))) ≡ true) (sym (one_only x (Vertex v) t)) (only _ _ c)
leaves_some (SetVertexProp v name value) g x t c = subst (λ (y : Oid). has_some (both (deltas_of (SetVertexProp v name value) y (object_at g y))) ≡ true) (sym (one_only x (Vertex v) t)) (unless _ _ c)
leaves_some (SetEdgeProp e name value) g x t c = subst (λ (y : Oid). has_some (both (deltas_of (SetEdgeProp e name value) y (object_at g y))) ≡ true) (sym (one_only x (Edge e) t)) (unless _ _ c)
leaves_some (CreateEdge e from kind to) g (Vertex v) t c = ends_some (nat_eq v.0 from.0) (nat_eq v.0 to.0) _ _ (sym (touched_end v from to e) ∙ t)
leaves_some (CreateEdge e from kind to) g (Edge f) t c = refl
leaves_some (DeleteEdge e from to) g (Vertex v) t c = ends_some (nat_eq v.0 from.0) (nat_eq v.0 to.0) _ _ (sym (touched_end v from to e) ∙ t)
leaves_some (DeleteEdge e from to) g (Edge f) t c = refl

left_some : (op : Op) (g : Graph) (x : Oid) → changes op g ≡ true → has_some (left_by op x (object_at g x)) ≡ is_touched op x
unfolding has_some
left_some op g x c = by_touch (is_touched op x) refl
  where
    by_touch : (b : Bool) → is_touched op x ≡ b → has_some (cond b (both (deltas_of op x (object_at g x))) []) ≡ b
    by_touch true t = leaves_some op g x t c
    by_touch false t = refl

all_some : (ops : List Op) (g : Graph) (x : Oid) → are_sound ops g ≡ true → has_some (left_by_all ops x g) ≡ are_touching ops x
unfolding has_some left_by_all are_touching are_sound
all_some [] g x h = refl
all_some (op ∷ ops) g x h =
    some-append (left_by op x (object_at g x)) (left_by_all ops x (apply op g))
    ∙ ap (λ b. b || has_some (left_by_all ops x (apply op g))) (left_some op g x (and_right_true (is_possible op g) _ (and_left_true (is_possible op g && changes op g) _ h)))
    ∙ ap (λ b. is_touched op x || b) (all_some ops (apply op g) x (and_right_true (is_possible op g && changes op g) _ h))

-- THE LAST OF THEM

sound_parts : (c : Commit) (cs : List Commit) (g : Graph) → are_sound (ops_of (c ∷ cs)) g ≡ true → (are_sound c.ops g ≡ true) × (are_sound (ops_of cs) (apply_all c.ops g) ≡ true)
unfolding ops_of
sound_parts c cs g h =
    let both_sound : (are_sound c.ops g && are_sound (ops_of cs) (apply_all c.ops g)) ≡ true = sym (are_sound-append c.ops (ops_of cs) g) ∙ h in
    (and_left_true _ _ both_sound, and_right_true _ _ both_sound)

or_none : (a : Option ℕ) → or_else a None ≡ a
or_none None = refl
or_none (Some n) = refl

or_assoc : (a b c : Option ℕ) → or_else (or_else a b) c ≡ or_else a (or_else b c)
or_assoc None b c = refl
or_assoc (Some n) b c = refl

last_cons : (n : ℕ) (ns : List ℕ) → last_of (n ∷ ns) ≡ or_else (last_of ns) (Some n)
unfolding last_of
last_cons n [] = refl
last_cons n (m ∷ ms) = last_cons m ms ∙ sym (ap (λ o. or_else o (Some n)) (last_cons m ms) ∙ or_assoc (last_of ms) (Some m) (Some n))

last-append : (xs ys : List ℕ) → last_of (xs ++ ys) ≡ or_else (last_of ys) (last_of xs)
unfolding last_of
last-append [] ys = nil (last_of ys)
  where
    nil : (o : Option ℕ) → o ≡ or_else o (last_of [])
    nil o = sym (or_none o)
last-append (x ∷ xs) ys =
    last_cons x (xs ++ ys) ∙ ap (λ o. or_else o (Some x)) (last-append xs ys) ∙ or_assoc (last_of ys) (last_of xs) (Some x) ∙ ap (or_else (last_of ys)) (sym (last_cons x xs))

last_dated : (t : ℕ) (ds : List Delta) → last_of (map (λ d. d.ts) (dated t ds)) ≡ cond (has_some ds) (Some t) None
unfolding has_some last_of
last_dated t [] = refl
last_dated t (d ∷ ds) = last_cons t (map (λ d. d.ts) (dated t ds)) ∙ ap (λ o. or_else o (Some t)) (last_dated t ds) ∙ either (has_some ds)
  where
    either : (b : Bool) → or_else (cond b (Some t) None) (Some t) ≡ Some t
    either true = refl
    either false = refl

last_since : (cs : List Commit) (g : Graph) (x : Oid) → are_sound (ops_of cs) g ≡ true → last_of (map (λ d. d.ts) (left_since g cs x)) ≡ last_of (map (λ c. c.ts) (filter (λ c. are_touching c.ops x) cs))
unfolding left_since
last_since [] g x h = refl
last_since (c ∷ cs) g x h =
    let both_sound = sound_parts c cs g h in
    ap last_of (map-append (λ (d : Dated Delta). d.ts) (dated c.ts (left_by_all c.ops x g)) (left_since (apply_all c.ops g) cs x))
    ∙ last-append (map (λ d. d.ts) (dated c.ts (left_by_all c.ops x g))) (map (λ d. d.ts) (left_since (apply_all c.ops g) cs x))
    ∙ ap (λ o. or_else o (last_of (map (λ d. d.ts) (dated c.ts (left_by_all c.ops x g))))) (last_since cs (apply_all c.ops g) x both_sound.1)
    ∙ ap (or_else (last_of (map (λ c. c.ts) (filter (λ c. are_touching c.ops x) cs)))) (last_dated c.ts (left_by_all c.ops x g) ∙ ap (λ b. cond b (Some c.ts) None) (all_some c.ops g x both_sound.0))
    ∙ by_touch (are_touching c.ops x)
  where
    by_touch : (b : Bool) → or_else (last_of (map (λ c. c.ts) (filter (λ c. are_touching c.ops x) cs))) (cond b (Some c.ts) None) ≡ last_of (map (λ c. c.ts) (cond b (c ∷ filter (λ c. are_touching c.ops x) cs) (filter (λ c. are_touching c.ops x) cs)))
    by_touch true = sym (last_cons c.ts (map (λ c. c.ts) (filter (λ c. are_touching c.ops x) cs)))
    by_touch false = or_none (last_of (map (λ c. c.ts) (filter (λ c. are_touching c.ops x) cs)))

first-append : (xs : List ℕ) (n : ℕ) → first_of (xs ++ n ∷ []) ≡ or_else (first_of xs) (Some n)
first-append [] n = refl
first-append (x ∷ xs) n = refl

first_reversed : (ds : List (Dated Delta)) → first_of (map (λ d. d.ts) (reverse ds)) ≡ last_of (map (λ d. d.ts) ds)
unfolding last_of
first_reversed [] = refl
first_reversed (d ∷ ds) =
    ap (λ es. first_of (map (λ d. d.ts) es)) (reverse-append (d ∷ []) ds)
    ∙ ap first_of (map-append (λ (d : Dated Delta). d.ts) (reverse ds) (d ∷ []))
    ∙ first-append (map (λ d. d.ts) (reverse ds)) d.ts
    ∙ ap (λ o. or_else o (Some d.ts)) (first_reversed ds)
    ∙ sym (last_cons d.ts (map (λ d. d.ts) ds))

pub newest_is_touch : (w : World) (x : Oid) → InOrder w → first_of (map (λ d. d.ts) (undo_list w x)) ≡ newest_touch w.commits x
newest_is_touch w x o =
    first_reversed (left_since empty_graph w.commits x) ∙ last_since w.commits empty_graph x o.committed_sound ∙ sym (touch_is_last w.commits x o.ascending)
