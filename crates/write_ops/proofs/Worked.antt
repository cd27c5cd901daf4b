-- Plans that are known, on the graph of a vertex with a loop and an edge that leads to a second one.
use Rattle.std.proofs.Common.{◌≡◌, ℕ, List, [], ◌∷◌, true, false, Some, None, Ok, Err, refl}
use Rattle.graph_value.specs.declared.id.Oid.TheVariants as oid
use Rattle.graph_value.specs.declared.value.Value as values
use Rattle.graph_value.specs.declared.value.Value.{Value}
use Rattle.graph_value.specs.declared.value.Value.TheVariants as value
use Rattle.graph_record.specs.Graph.{Graph}
use Rattle.cypher_syntax.specs.declared.tree.clause.RemoveItem.TheVariants as remove
use Rattle.cypher_syntax.specs.declared.tree.clause.SetItem.TheVariants as set
use Rattle.cypher_syntax.specs.declared.tree.clause.Update.TheVariants.{Create, Set, Remove, Delete}
use Rattle.cypher_syntax.specs.declared.tree.expr.Expr as exprs
use Rattle.cypher_syntax.specs.declared.tree.expr.Expr.{Expr}
use Rattle.cypher_syntax.specs.declared.tree.expr.Expr.TheFolds.{fold-roll-Expr}
use Rattle.cypher_syntax.specs.declared.tree.expr.Expr.TheOpen.{Expr-F}
use Rattle.cypher_syntax.specs.declared.tree.expr.Expr.TheVariants as expr
use Rattle.cypher_syntax.specs.declared.tree.pattern.Arrow.{Arrow}
use Rattle.cypher_syntax.specs.declared.tree.pattern.Arrow.TheVariants.{Right, Left}
use Rattle.cypher_syntax.specs.declared.tree.pattern.EdgePattern.{EdgePattern}
use Rattle.cypher_syntax.specs.declared.tree.pattern.NodePattern.{NodePattern}
use Rattle.cypher_syntax.specs.declared.tree.pattern.Pattern.{Pattern}
use Rattle.expr_eval.specs.declared.refused.EvalRefused.TheVariants.{TypeFault, Gone}
use Rattle.expr_eval.specs.Eval.{Step, eval_of, expr_level, post_level, pred_level}
use Rattle.expr_eval.specs.Outcome.{Outcome}
use Rattle.expr_eval.specs.Row.{Row}
use Rattle.write_ops.specs.declared.planned.Entity.TheVariants.{Vertex, Edge}
use Rattle.write_ops.specs.declared.planned.Pick.TheVariants.{Known, Made}
use Rattle.write_ops.specs.declared.planned.PlannedOp.TheVariants as op
use Rattle.write_ops.specs.Creating.{create_of}
use Rattle.write_ops.specs.Planning.{plan_of}
use Rattle.write_ops.specs.Targets.{stands_for}

-- v0 with a loop e1, and e0 from v0 to v1
abbrev small : Graph
small = record {
  vertices = (record { 0 = 0 }, record { labels = []; props = []; outs = record { 0 = 0 } ∷ record { 0 = 1 } ∷ []; ins = record { 0 = 1 } ∷ [] })
      ∷ (record { 0 = 1 }, record { labels = []; props = []; outs = []; ins = record { 0 = 0 } ∷ [] }) ∷ [];
  edges = (record { 0 = 0 }, record { kind = 84 ∷ []; from = record { 0 = 0 }; to = record { 0 = 1 }; props = [] })
      ∷ (record { 0 = 1 }, record { kind = 84 ∷ []; from = record { 0 = 0 }; to = record { 0 = 0 }; props = [] }) ∷ [];
}

-- names: a, b, k
abbrev a : List ℕ
a = 97 ∷ []

abbrev b : List ℕ
b = 98 ∷ []

abbrev k : List ℕ
k = 107 ∷ []

-- a row in which a is bound
abbrev where_a : Value → List Row
where_a v = ((a, v) ∷ []) ∷ []

abbrev no_name : List Row
no_name = [] ∷ []

abbrev v0 : Value
v0 = value.Vertex (record { 0 = 0 })

abbrev e0 : Value
e0 = value.Edge (record { 0 = 0 })

abbrev v9 : Value
v9 = value.Vertex (record { 0 = 9 })

abbrev e9 : Value
e9 = value.Edge (record { 0 = 9 })

abbrev node : List ℕ → NodePattern
node name = record { name = Some name; labels = []; map = None }

abbrev node_with : List (List ℕ × Expr) → NodePattern
node_with map = record { name = None; labels = k ∷ []; map = Some map }

abbrev edge : Arrow → EdgePattern
edge arrow = record { name = Some k; kinds = (84 ∷ []) ∷ []; arrow = arrow; map = None }

abbrev pair : Arrow → Pattern
pair arrow = record { first = node a; steps = (edge arrow, node b) ∷ [] }

eval_lit : (row : Row) (v : Value) → eval_of small row (expr.Lit v) ≡ Ok v
unfolding exprs.roll-Expr exprs.out-Expr denote.Hole.Carrier.roll
eval_lit row v = fold-roll-Expr (Outcome Value) Step Step (expr_level small row) (post_level small) pred_level (Expr-F.Lit v)

-- CREATE (a)-[k:T]->(b)
an_edge : plan_of small (Create (pair Right ∷ [])) no_name ≡ Ok (op.CreateVertex ∷ op.CreateVertex ∷ op.CreateEdge (Made 0) (84 ∷ []) (Made 1) ∷ [])
an_edge = refl

-- CREATE (a)<-[k:T]-(b)
the_other_way : plan_of small (Create (pair Left ∷ [])) no_name ≡ Ok (op.CreateVertex ∷ op.CreateVertex ∷ op.CreateEdge (Made 1) (84 ∷ []) (Made 0) ∷ [])
the_other_way = refl

-- the same where a is v0, and in two rows: creates are counted on
two_rows : plan_of small (Create (pair Right ∷ [])) (((a, v0) ∷ []) ∷ [] ∷ [])
    ≡ Ok (op.CreateVertex ∷ op.CreateEdge (Known 0) (84 ∷ []) (Made 0)
    ∷ op.CreateVertex ∷ op.CreateVertex ∷ op.CreateEdge (Made 2) (84 ∷ []) (Made 3) ∷ [])
unfolding stands_for values.out-Value denote.Hole.Carrier.out
two_rows = refl

-- the names of both rows, as they are read
names_of_two_rows : create_of small (pair Right ∷ []) (((a, v0) ∷ []) ∷ [] ∷ [])
    ≡ Ok (record {
      ops = op.CreateVertex ∷ op.CreateEdge (Known 0) (84 ∷ []) (Made 0) ∷ op.CreateVertex ∷ op.CreateVertex ∷ op.CreateEdge (Made 2) (84 ∷ []) (Made 3) ∷ [];
      made = 5;
      names = ((k, Edge (Made 1)) ∷ (b, Vertex (Made 0)) ∷ []) ∷ ((a, Vertex (Made 2)) ∷ (k, Edge (Made 4)) ∷ (b, Vertex (Made 3)) ∷ []) ∷ [];
    })
unfolding stands_for values.out-Value denote.Hole.Carrier.out
names_of_two_rows = refl

-- CREATE (:k {a: true, b: null, a: false})
a_map : plan_of small (Create (record { first = node_with ((a, expr.Lit (value.Bool true)) ∷ (b, expr.Lit value.Null) ∷ (a, expr.Lit (value.Bool false)) ∷ []); steps = [] } ∷ [])) no_name
    ≡ Ok (op.CreateVertex ∷ op.AddLabel (Made 0) k ∷ op.SetVertexProp (Made 0) a (value.Bool true) ∷ op.SetVertexProp (Made 0) a (value.Bool false) ∷ [])
unfolding stands_for values.out-Value denote.Hole.Carrier.out
a_map = rw (eval_lit [] (value.Bool true), eval_lit [] value.Null, eval_lit [] (value.Bool false)) refl

-- CREATE (a)-[k:T]->(b) where a is null, an edge, or gone
on_null : plan_of small (Create (pair Right ∷ [])) (where_a value.Null) ≡ Err TypeFault
unfolding stands_for values.out-Value denote.Hole.Carrier.out
on_null = refl

on_an_edge : plan_of small (Create (pair Right ∷ [])) (where_a e9) ≡ Err TypeFault
unfolding stands_for values.out-Value denote.Hole.Carrier.out
on_an_edge = refl

on_what_is_gone : plan_of small (Create (pair Right ∷ [])) (where_a v9) ≡ Err (Gone (oid.Vertex (record { 0 = 9 })))
unfolding stands_for values.out-Value denote.Hole.Carrier.out
on_what_is_gone = refl

-- SET a.k = true, a:b
set_both : plan_of small (Set (set.Prop a k (expr.Lit (value.Bool true)) ∷ set.Labels a (b ∷ k ∷ []) ∷ [])) (where_a v0)
    ≡ Ok (op.SetVertexProp (Known 0) k (value.Bool true) ∷ op.AddLabel (Known 0) b ∷ op.AddLabel (Known 0) k ∷ [])
unfolding stands_for values.out-Value denote.Hole.Carrier.out
set_both = rw (eval_lit ((a, v0) ∷ []) (value.Bool true)) refl

-- SET a.k = a vertex, where a is gone: the value comes first
value_first : plan_of small (Set (set.Prop a k (expr.Lit v0) ∷ [])) (where_a v9) ≡ Err TypeFault
unfolding stands_for values.out-Value denote.Hole.Carrier.out
value_first = rw (eval_lit ((a, v9) ∷ []) v0) refl

-- SET a:b, where a is an edge that is gone: the wrong kind comes first
kind_first : plan_of small (Set (set.Labels a (b ∷ []) ∷ [])) (where_a e9) ≡ Err TypeFault
unfolding stands_for values.out-Value denote.Hole.Carrier.out
kind_first = refl

-- REMOVE a.k, where a is e0, and where it is null
removed : plan_of small (Remove (remove.Prop a k ∷ [])) (where_a e0) ≡ Ok (op.SetEdgeProp (Known 0) k value.Null ∷ [])
unfolding stands_for values.out-Value denote.Hole.Carrier.out
removed = refl

not_removed : plan_of small (Remove (remove.Prop a k ∷ [])) (where_a value.Null) ≡ Ok []
unfolding stands_for values.out-Value denote.Hole.Carrier.out
not_removed = refl

-- DETACH DELETE a, b: e0 was planned behind v0, and each goes once
detached : plan_of small (Delete true (a ∷ b ∷ [])) (((a, v0) ∷ (b, value.Vertex (record { 0 = 1 })) ∷ []) ∷ ((a, v0) ∷ (b, v9) ∷ []) ∷ [])
    ≡ Ok (op.DeleteEdge (Known 0) ∷ op.DeleteEdge (Known 1) ∷ op.DeleteVertex (Known 0) ∷ op.DeleteVertex (Known 1) ∷ [])
unfolding stands_for values.out-Value denote.Hole.Carrier.out
detached = refl

-- DELETE a, b: edges first
edges_first : plan_of small (Delete false (a ∷ b ∷ [])) (((a, v0) ∷ (b, e0) ∷ []) ∷ []) ≡ Ok (op.DeleteEdge (Known 0) ∷ op.DeleteVertex (Known 0) ∷ [])
unfolding stands_for values.out-Value denote.Hole.Carrier.out
edges_first = refl
