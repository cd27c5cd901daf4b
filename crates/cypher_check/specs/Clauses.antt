-- The asks of a query by its parts, in reading order.
use Rattle.std.specs.Prelude.{ℕ, Bool, true, false, not, ◌&&◌, ◌||◌, List, [], ◌∷◌, ◌++◌, Option, Some, None, is_none, if◌then◌else◌}
use Rattle.std.specs.List.{flat_map, list_any}
use Rattle.cypher_syntax.specs.declared.tree.expr.Expr.{Expr, out-Expr}
use Rattle.cypher_syntax.specs.declared.tree.expr.Expr.TheOpen.{Expr-F}
use Rattle.cypher_syntax.specs.declared.tree.expr.PostOp.{PostOp}
use Rattle.cypher_syntax.specs.declared.tree.expr.PredOp.{PredOp}
use Rattle.cypher_syntax.specs.declared.tree.pattern.NodePattern.{NodePattern}
use Rattle.cypher_syntax.specs.declared.tree.pattern.EdgePattern.{EdgePattern}
use Rattle.cypher_syntax.specs.declared.tree.pattern.Pattern.{Pattern}
use Rattle.cypher_syntax.specs.declared.tree.clause.MatchClause.{MatchClause}
use Rattle.cypher_syntax.specs.declared.tree.clause.Unwind.{Unwind}
use Rattle.cypher_syntax.specs.declared.tree.clause.Update.{Update}
use Rattle.cypher_syntax.specs.declared.tree.clause.Update.TheVariants as update
use Rattle.cypher_syntax.specs.declared.tree.clause.SetItem.{SetItem}
use Rattle.cypher_syntax.specs.declared.tree.clause.SetItem.TheVariants as set
use Rattle.cypher_syntax.specs.declared.tree.clause.RemoveItem.{RemoveItem}
use Rattle.cypher_syntax.specs.declared.tree.clause.RemoveItem.TheVariants as remove
use Rattle.cypher_syntax.specs.declared.tree.clause.Clause.{Clause}
use Rattle.cypher_syntax.specs.declared.tree.clause.Clause.TheVariants as clause
use Rattle.cypher_syntax.specs.declared.tree.projection.Item.{Item}
use Rattle.cypher_syntax.specs.declared.tree.projection.Sort.{Sort}
use Rattle.cypher_syntax.specs.declared.tree.projection.Projection.{Projection}
use Rattle.cypher_syntax.specs.declared.tree.query.Stage.{Stage}
use Rattle.cypher_syntax.specs.declared.tree.query.Query.{Query}
use Rattle.cypher_check.specs.declared.names.place.Place.TheVariants.{Plain, Grouped, Seeking}
use Rattle.cypher_check.specs.declared.names.place.Place.{Place}
use Rattle.cypher_check.specs.Marks.{Uses, expr_marks}
use Rattle.cypher_check.specs.Faults.{first_fault}
use Rattle.cypher_check.specs.Same.{same_expr}
use Rattle.cypher_check.specs.Asks.{Ask, Reads, Vertex, Edge, NewVertex, NewEdge, Closes, Unwinds, Star, Gives, Widens, Narrows}

-- Whether an aggregate stands in an expression: one is misplaced where no name is asked for and no aggregate may stand.
abbrev pub has_aggregate : Expr → Bool
has_aggregate e = not (is_none (first_fault [] (expr_marks e Seeking)))

abbrev pub plain : Expr → List Ask
plain e = Reads (expr_marks e Plain) ∷ []

abbrev pub uses : List ℕ → List Ask
uses name = Reads (Uses name ∷ []) ∷ []

abbrev pub filter_asks : Option Expr → List Ask
filter_asks None = []
filter_asks (Some e) = plain e

-- PATTERNS

abbrev pub map_asks : Option (List (List ℕ × Expr)) → List Ask
map_asks None = []
map_asks (Some properties) = flat_map (λ p. plain p.1) properties

abbrev pub name_asks : (List ℕ → Ask) → Option (List ℕ) → List Ask
name_asks ask None = []
name_asks ask (Some name) = ask name ∷ []

abbrev pub node_asks : NodePattern → List Ask
node_asks n = name_asks Vertex n.name ++ map_asks n.map

abbrev pub edge_asks : EdgePattern → List Ask
edge_asks e = name_asks Edge e.name ++ map_asks e.map

abbrev pub pattern_asks : Pattern → List Ask
pattern_asks p = node_asks p.first ++ flat_map (λ s. edge_asks s.0 ++ node_asks s.1) p.steps

abbrev pub is_empty : {A : Type 0} → List A → Bool
is_empty [] = true
is_empty (x ∷ xs) = false

-- A vertex of CREATE that may be one that is there: nothing is asked of it, and its pattern has an edge.
abbrev pub is_bare : Bool → NodePattern → Bool
is_bare alone n = not alone && is_empty n.labels && is_none n.map

abbrev pub new_node_asks : Bool → NodePattern → List Ask
new_node_asks alone n = name_asks (NewVertex (is_bare alone n)) n.name ++ map_asks n.map

abbrev pub new_edge_asks : EdgePattern → List Ask
new_edge_asks e = name_asks NewEdge e.name ++ map_asks e.map

abbrev pub new_pattern_asks : Pattern → List Ask
new_pattern_asks p =
    new_node_asks (is_empty p.steps) p.first
    ++ flat_map (λ s. new_edge_asks s.0 ++ new_node_asks false s.1) p.steps

-- CLAUSES

abbrev pub match_asks : MatchClause → List Ask
match_asks m = flat_map pattern_asks m.patterns ++ Closes ∷ filter_asks m.filter

abbrev pub unwind_asks : Unwind → List Ask
unwind_asks u = plain u.list ++ Unwinds u.name ∷ []

abbrev pub set_asks : SetItem → List Ask
set_asks (set.Prop name key value) = uses name ++ plain value
set_asks (set.Labels name labels) = uses name

abbrev pub remove_asks : RemoveItem → List Ask
remove_asks (remove.Prop name key) = uses name
remove_asks (remove.Labels name labels) = uses name

abbrev pub update_asks : Update → List Ask
update_asks (update.Create patterns) = flat_map new_pattern_asks patterns ++ Closes ∷ []
update_asks (update.Set items) = flat_map set_asks items
update_asks (update.Remove items) = flat_map remove_asks items
update_asks (update.Delete detach names) = flat_map uses names

abbrev pub clause_asks : Clause → List Ask
clause_asks (clause.Match m) = match_asks m
clause_asks (clause.Unwind u) = unwind_asks u
clause_asks (clause.Update u) = update_asks u

-- PROJECTIONS

abbrev pub item_place : Expr → Place
item_place e = if has_aggregate e then Grouped else Plain

-- the name that an expression is
abbrev pub bare_name : Expr-F Expr PostOp PredOp → Option (List ℕ)
bare_name (Expr-F.Var name) = Some name
bare_name _ = None

-- the name that an item gives: behind AS, or where it is a name alone
abbrev pub given_name : Option (List ℕ) → Expr → Option (List ℕ)
given_name (Some name) e = Some name
given_name None e = bare_name (out-Expr e)

abbrev pub item_asks : Item → List Ask
item_asks i = Reads (expr_marks i.expr (item_place i.expr)) ∷ name_asks Gives (given_name i.name i.expr)

-- rows are grouped, or made distinct: what stood before isn't seen behind it
abbrev pub is_closed : Projection → Bool
is_closed p = p.distinct || list_any (λ i. has_aggregate i.expr) p.items

-- A sort key that is an item means that item.
abbrev pub sort_asks : List Item → Sort → List Ask
sort_asks items s = if list_any (λ i. same_expr i.expr s.expr) items then [] else plain s.expr

abbrev pub star_asks : Bool → List Ask
star_asks true = Star ∷ []
star_asks false = []

abbrev pub tail_asks : Bool → List Ask → List Ask → List Ask
tail_asks true sorts filter = (Narrows ∷ sorts) ++ filter
tail_asks false sorts filter = (Widens ∷ sorts) ++ Narrows ∷ filter

abbrev pub projection_asks : Projection → List Ask
projection_asks p =
    star_asks p.star ++ flat_map item_asks p.items
    ++ tail_asks (is_closed p) (flat_map (sort_asks p.items) p.sort) (filter_asks p.filter)

abbrev pub stage_asks : Stage → List Ask
stage_asks s = flat_map clause_asks s.clauses ++ projection_asks s.next

abbrev pub returns_asks : Option Projection → List Ask
returns_asks None = []
returns_asks (Some p) = projection_asks p

abbrev pub query_asks : Query → List Ask
query_asks q = flat_map stage_asks q.stages ++ flat_map clause_asks q.clauses ++ returns_asks q.returns
