-- The deltas that writes and commits leave on an object.
use Rattle.std.proofs.Common.{◌≡◌, ℕ, List, [], ◌∷◌, ◌++◌, Option, Some, None, Bool, true, false, ◌||◌, cond, map, filter, reverse, refl, sym, ap, ◌∙◌}
use Rattle.std.proofs.lemmas.List.{append-nil, append_assoc, reverse-append, map-append}
use Rattle.graph_value.specs.declared.id.Oid.{Oid}
use Rattle.graph_record.specs.declared.object.Object.{Object}
use Rattle.graph_record.specs.Graph.{Graph, empty_graph, object_at}
use Rattle.undo_law.specs.declared.dated.Dated.{Dated}
use Rattle.undo_delta.specs.Change.{deltas_of}
use Rattle.undo_delta.specs.Touch.{is_touched}
use Rattle.undo_delta.specs.declared.delta.Delta.{Delta}
use Rattle.undo_delta.specs.declared.delta.DeltaPair.{DeltaPair}
use Rattle.undo_delta.specs.declared.op.Op.{Op}
use Rattle.version_chain.specs.Entry.{is_committed, open_entry, stamped}
use Rattle.version_chain.specs.declared.entry.Entry.{Entry}
use Rattle.world_model.specs.Change.{object_after}
use Rattle.world_model.specs.Op.{apply, apply_all, are_touching}
use Rattle.world_model.specs.World.{World, Commit, Txn, ops_of, fold_of, before}
use Rattle.world_model.specs.Undo.{both, dated, or_nothing, left_by, left_by_all, left_since, undo_list, open_list}
use Rattle.world_model.proofs.Objects.{object_at-apply, apply_all-append, or_left_false, or_right_false}
use Rattle.front_core.specs.Keeps.{committed_entry}
use Rattle.front_core.specs.Rows.{push_some, pushed}

pub left-append : (xs ys : List Op) (g : Graph) (x : Oid) → left_by_all (xs ++ ys) x g ≡ left_by_all xs x g ++ left_by_all ys x (apply_all xs g)
unfolding left_by_all apply_all
left-append [] ys g x = refl
left-append (op ∷ xs) ys g x =
    ap (λ ds. left_by op x (object_at g x) ++ ds) (left-append xs ys (apply op g) x)
    ∙ sym (append_assoc (left_by op x (object_at g x)) (left_by_all xs x (apply op g)) (left_by_all ys x (apply_all xs (apply op g))))

untouched_left : (op : Op) (x : Oid) (o : Object) → is_touched op x ≡ false → left_by op x o ≡ []
untouched_left op x o h = ap (λ b. cond b (both (deltas_of op x o)) []) h

pub left_none : (ops : List Op) (g : Graph) (x : Oid) → are_touching ops x ≡ false → left_by_all ops x g ≡ []
unfolding left_by_all are_touching
left_none [] g x h = refl
left_none (op ∷ ops) g x h =
    ap (λ ds. ds ++ left_by_all ops x (apply op g)) (untouched_left op x (object_at g x) (or_left_false (is_touched op x) _ h))
    ∙ left_none ops (apply op g) x (or_right_false (is_touched op x) _ h)

-- the deltas are those of the object alone
pub left_same : (ops : List Op) (g h : Graph) (x : Oid) → object_at g x ≡ object_at h x → left_by_all ops x g ≡ left_by_all ops x h
unfolding left_by_all
left_same [] g h x is = refl
left_same (op ∷ ops) g h x is =
    ap (λ o. left_by op x o ++ left_by_all ops x (apply op g)) is
    ∙ ap (λ ds. left_by op x (object_at h x) ++ ds) (left_same ops (apply op g) (apply op h) x (object_at-apply op g x ∙ ap (object_after op x) is ∙ sym (object_at-apply op h x)))

-- ONE MORE WRITE

one_more : (op : Op) (g : Graph) (x : Oid) → left_by_all (op ∷ []) x g ≡ left_by op x (object_at g x)
unfolding left_by_all
one_more op g x = append-nil (left_by op x (object_at g x))

pub left_one : (ops : List Op) (op : Op) (g : Graph) (x : Oid) → reverse (left_by_all (ops ++ op ∷ []) x g) ≡ reverse (left_by op x (object_at (apply_all ops g) x)) ++ reverse (left_by_all ops x g)
left_one ops op g x =
    ap reverse (left-append ops (op ∷ []) g x ∙ ap (λ ds. left_by_all ops x g ++ ds) (one_more op (apply_all ops g) x))
    ∙ reverse-append (left_by_all ops x g) (left_by op x (object_at (apply_all ops g) x))

pub left_by_touch : (op : Op) (x : Oid) (o : Object) → is_touched op x ≡ true → left_by op x o ≡ both (deltas_of op x o)
left_by_touch op x o h = ap (λ b. cond b (both (deltas_of op x o)) []) h

-- the deltas of a pair stand in front of the chain
pushed_both : (older newer : Option Delta) (chain : List (Entry Delta)) → push_some newer (push_some older chain) ≡ map open_entry (reverse (or_nothing older ++ or_nothing newer)) ++ chain
pushed_both None None chain = refl
pushed_both (Some d) None chain = refl
pushed_both None (Some e) chain = refl
pushed_both (Some d) (Some e) chain = refl

pub pushed_front : (pair : DeltaPair) (chain : List (Entry Delta)) → pushed pair chain ≡ map open_entry (reverse (both pair)) ++ chain
pushed_front pair chain = pushed_both pair.first pair.second chain

-- ONE MORE COMMIT

since_one : (cs : List Commit) (k : Commit) (g : Graph) (x : Oid) → left_since g (cs ++ k ∷ []) x ≡ left_since g cs x ++ dated k.ts (left_by_all k.ops x (apply_all (ops_of cs) g))
unfolding left_since ops_of apply_all
since_one [] k g x = append-nil (dated k.ts (left_by_all k.ops x g))
since_one (c ∷ cs) k g x =
    ap (λ ds. dated c.ts (left_by_all c.ops x g) ++ ds) (since_one cs k (apply_all c.ops g) x)
    ∙ sym (append_assoc (dated c.ts (left_by_all c.ops x g)) (left_since (apply_all c.ops g) cs x) (dated k.ts (left_by_all k.ops x (apply_all (ops_of cs) (apply_all c.ops g)))))
    ∙ ap (λ h. (dated c.ts (left_by_all c.ops x g) ++ left_since (apply_all c.ops g) cs x) ++ dated k.ts (left_by_all k.ops x h)) (sym (apply_all-append c.ops (ops_of cs) g))

map-reverse : {A B : Type 0} (f : A → B) (xs : List A) → map f (reverse xs) ≡ reverse (map f xs)
map-reverse f [] = refl
map-reverse f (x ∷ xs) =
    ap (map f) (reverse-append (x ∷ []) xs) ∙ map-append f (reverse xs) (x ∷ []) ∙ ap (λ ys. ys ++ f x ∷ []) (map-reverse f xs) ∙ sym (reverse-append (f x ∷ []) (map f xs))

pub undo_one : (w : World) (k : Commit) (x : Oid) (w' : World) → w'.commits ≡ w.commits ++ k ∷ [] → undo_list w' x ≡ dated k.ts (reverse (left_by_all k.ops x (fold_of w.commits))) ++ undo_list w x
undo_one w k x w' is =
    ap (λ cs. reverse (left_since empty_graph cs x)) is
    ∙ ap reverse (since_one w.commits k empty_graph x)
    ∙ reverse-append (left_since empty_graph w.commits x) (dated k.ts (left_by_all k.ops x (fold_of w.commits)))
    ∙ ap (λ ds. ds ++ undo_list w x) (sym (map-reverse (λ d. record { ts = k.ts; delta = d }) (left_by_all k.ops x (fold_of w.commits))))

-- the open deltas get the timestamp, and those of commits keep theirs
pub all_stamped : (ts : ℕ) (os : List Delta) (ds : List (Dated Delta)) → map (stamped ts) (map open_entry os ++ map committed_entry ds) ≡ map committed_entry (dated ts os ++ ds)
all_stamped ts [] [] = refl
all_stamped ts [] (d ∷ ds) = ap (λ es. committed_entry d ∷ es) (all_stamped ts [] ds)
all_stamped ts (o ∷ os) ds = ap (λ es. committed_entry (record { ts = ts; delta = o }) ∷ es) (all_stamped ts os ds)

-- the open deltas are dropped
pub open_dropped : (os : List Delta) (ds : List (Dated Delta)) → filter is_committed (map open_entry os ++ map committed_entry ds) ≡ map committed_entry ds
open_dropped [] [] = refl
open_dropped [] (d ∷ ds) = ap (λ es. committed_entry d ∷ es) (open_dropped [] ds)
open_dropped (o ∷ os) ds = open_dropped os ds
