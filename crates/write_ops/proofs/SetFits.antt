-- SET, REMOVE and DELETE name only what was there.
use Rattle.std.proofs.Common.{◌≡◌, ℕ, Bool, true, false, List, [], ◌∷◌, ◌++◌, map, Ok, subst}
use Rattle.graph_value.specs.declared.id.Oid.{Oid}
use Rattle.graph_value.specs.declared.id.Oid.TheVariants as oid
use Rattle.graph_value.specs.declared.value.Value.{Value}
use Rattle.graph_value.specs.declared.value.Value.TheVariants as value
use Rattle.graph_record.specs.Graph.{Graph}
use Rattle.cypher_syntax.specs.declared.tree.clause.SetItem.{SetItem}
use Rattle.cypher_syntax.specs.declared.tree.clause.SetItem.TheVariants as set
use Rattle.cypher_syntax.specs.declared.tree.clause.RemoveItem.{RemoveItem}
use Rattle.cypher_syntax.specs.declared.tree.clause.RemoveItem.TheVariants as remove
use Rattle.expr_eval.specs.Outcome.{and_then}
use Rattle.expr_eval.specs.Row.{Row}
use Rattle.write_ops.specs.declared.planned.Pick.TheVariants.{Known}
use Rattle.write_ops.specs.declared.target.Target.{Target}
use Rattle.write_ops.specs.declared.target.Target.TheVariants.{Nothing, Entity, Other}
use Rattle.write_ops.specs.Deleting.{firsts, deletes, delete_of, found_of, doomed}
use Rattle.write_ops.specs.Earlier.{AllFit, EntityFits}
use Rattle.write_ops.specs.Setting.{Ops, with_prop, with_labels, set_item, remove_item, set_row, remove_row, set_of, remove_of}
use Rattle.write_ops.specs.Targets.{target_of, alive}
use Rattle.write_ops.specs.Writing.{known, kept_value, prop_op, label_op, delete_op}
use Rattle.write_ops.proofs.Fitting.{fine, ok_is, opened, over_keeps, Good, nothing_good, prop_good, labels_good}

known_fits : (x : Oid) → EntityFits [] (known x)
known_fits (oid.Vertex v) = tt
known_fits (oid.Edge e) = tt

abbrev Keeps : Ops → Type 0
Keeps ops = Good ops []

prop_keeps : (g : Graph) (key : List ℕ) (v : Value) (target : Target) (ops t : Ops) → Keeps ops → with_prop g key v target ops ≡ Ok t → Keeps t
prop_keeps g key v Nothing ops t k h = subst Keeps (ok_is ops t h) k
prop_keeps g key v (Entity x) ops t k h =
    let o = opened (alive g x) (λ y. fine (ops ++ prop_op (known y) key v ∷ [])) t h in
    subst Keeps (ok_is (ops ++ prop_op (known o.0) key v ∷ []) t o.2) (prop_good ops [] (known o.0) key v (known_fits o.0) k)
prop_keeps g key v Other ops t k h = absurd (cc)

labels_keep : (g : Graph) (adds : Bool) (labels : List (List ℕ)) (target : Target) (ops t : Ops) → Keeps ops → with_labels g adds labels target ops ≡ Ok t → Keeps t
labels_keep g adds labels Nothing ops t k h = subst Keeps (ok_is ops t h) k
labels_keep g adds labels (Entity (oid.Vertex v)) ops t k h =
    let o = opened (alive g (oid.Vertex v)) (λ y. fine (ops ++ map (label_op adds (Known v.0)) labels)) t h in
    subst Keeps (ok_is (ops ++ map (label_op adds (Known v.0)) labels) t o.2) (labels_good ops [] adds (Known v.0) labels tt k)
labels_keep g adds labels (Entity (oid.Edge e)) ops t k h = absurd (cc)
labels_keep g adds labels Other ops t k h = absurd (cc)

set_item_keeps : (g : Graph) (row : Row) (ops : Ops) (item : SetItem) (t : Ops) → Keeps ops → set_item g row ops item ≡ Ok t → Keeps t
set_item_keeps g row ops (set.Prop name key e) t k h =
    let o = opened (kept_value g row e) (λ v. with_prop g key v (target_of row name) ops) t h in
    prop_keeps g key o.0 (target_of row name) ops t k o.2
set_item_keeps g row ops (set.Labels name labels) t k h = labels_keep g true labels (target_of row name) ops t k h

remove_item_keeps : (g : Graph) (row : Row) (ops : Ops) (item : RemoveItem) (t : Ops) → Keeps ops → remove_item g row ops item ≡ Ok t → Keeps t
remove_item_keeps g row ops (remove.Prop name key) t k h = prop_keeps g key value.Null (target_of row name) ops t k h
remove_item_keeps g row ops (remove.Labels name labels) t k h = labels_keep g false labels (target_of row name) ops t k h

set_row_keeps : (g : Graph) (items : List SetItem) (ops : Ops) (row : Row) (t : Ops) → Keeps ops → set_row g items ops row ≡ Ok t → Keeps t
set_row_keeps g items ops row t k h = over_keeps (set_item g row) Keeps (set_item_keeps g row) ops items t k h

remove_row_keeps : (g : Graph) (items : List RemoveItem) (ops : Ops) (row : Row) (t : Ops) → Keeps ops → remove_row g items ops row ≡ Ok t → Keeps t
remove_row_keeps g items ops row t k h = over_keeps (remove_item g row) Keeps (remove_item_keeps g row) ops items t k h

pub set_fits : (g : Graph) (items : List SetItem) (table : List Row) (t : Ops) → set_of g items table ≡ Ok t → AllFit [] t
set_fits g items table t h = (over_keeps (set_row g items) Keeps (set_row_keeps g items) [] table t nothing_good h).fit

pub remove_fits : (g : Graph) (items : List RemoveItem) (table : List Row) (t : Ops) → remove_of g items table ≡ Ok t → AllFit [] t
remove_fits g items table t h = (over_keeps (remove_row g items) Keeps (remove_row_keeps g items) [] table t nothing_good h).fit

deletes_fit : (made : List Bool) (xs : List Oid) → AllFit made (map delete_op xs)
deletes_fit made [] = tt
deletes_fit made (oid.Vertex v ∷ xs) = (tt, deletes_fit (made ++ []) xs)
deletes_fit made (oid.Edge e ∷ xs) = (tt, deletes_fit (made ++ []) xs)

pub delete_fits : (g : Graph) (detach : Bool) (names : List (List ℕ)) (table : List Row) (t : Ops) → delete_of g detach names table ≡ Ok t → AllFit [] t
delete_fits g detach names table t h =
    let o = opened (found_of g names table) (λ found. and_then (doomed g detach found) (λ all. fine (deletes all))) t h in
    let p = opened (doomed g detach o.0) (λ all. fine (deletes all)) t o.2 in
    subst (AllFit []) (ok_is (deletes p.0) t p.2) (deletes_fit [] (firsts p.0))
