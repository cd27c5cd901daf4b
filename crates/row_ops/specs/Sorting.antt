-- ORDER BY.
use Rattle.std.specs.Prelude.{ℕ, Bool, List, [], ◌∷◌, ◌++◌, map, drop, if◌then◌else◌, Option, Some, None, unwrap_or, slice_get, Ok}
use Rattle.std.specs.declared.cmp.Ordering.{Ordering}
use Rattle.std.specs.declared.cmp.Ordering.TheVariants.{Equal}
use Rattle.std.specs.Ordering.{ordering_then, is_lt}
use Rattle.cypher_check.specs.Same.{same_expr}
use Rattle.cypher_syntax.specs.declared.tree.expr.Expr.{Expr}
use Rattle.cypher_syntax.specs.declared.tree.projection.Item.{Item}
use Rattle.cypher_syntax.specs.declared.tree.projection.Sort.{Sort}
use Rattle.cypher_syntax.specs.declared.tree.projection.Projection.{Projection}
use Rattle.graph_record.specs.Graph.{Graph}
use Rattle.graph_value.specs.Order.{order_of}
use Rattle.graph_value.specs.declared.value.Value.{Value}
use Rattle.graph_value.specs.declared.value.Value.TheVariants as value
use Rattle.expr_eval.specs.Eval.{eval_of, all_on}
use Rattle.expr_eval.specs.Outcome.{Outcome, and_then}
use Rattle.expr_eval.specs.Row.{Row}
use Rattle.row_ops.specs.declared.made.Made.{Made}
use Rattle.row_ops.specs.declared.sorting.Keyed.{Keyed}
use Rattle.row_ops.specs.Making.{after, seen}

-- THE KEYS OF A ROW

-- the value of the first item that is this expression
abbrev pub item_value : List Item → List Value → Expr → Option Value
item_value [] vs e = None
item_value (i ∷ items) [] e = None
item_value (i ∷ items) (v ∷ vs) e = if same_expr i.expr e then Some v else item_value items vs e

abbrev pub value_or_eval : Graph → Row → Expr → Option Value → Outcome Value
value_or_eval g row e None = eval_of g row e
value_or_eval g row e (Some v) = Ok v

-- a sort key that is an item is the value of that item; any other is evaluated
abbrev pub key_of : Graph → List Item → List Value → Row → Sort → Outcome Value
key_of g items vs row s = value_or_eval g row s.expr (item_value items vs s.expr)

abbrev pub all_keys : Graph → List Item → List Value → Row → List Sort → Outcome (List Value)
all_keys g items vs row sorts = all_on [] (map (key_of g items vs row) sorts)

abbrev pub keys_of : Graph → Projection → Made → Outcome (List Value)
keys_of g p made = all_keys g p.items made.values (seen p made) p.sort

-- each row as the projection gives it, with its keys, behind the rows that are there
abbrev pub keyed_on : Graph → Projection → List Keyed → List Made → Outcome (List Keyed)
keyed_on g p done [] = Ok done
keyed_on g p done (made ∷ rows) =
    and_then (keys_of g p made) (λ keys. keyed_on g p (done ++ (record { keys = keys; row = after p made }) ∷ []) rows)

-- THE ORDER

abbrev pub turned : Bool → Value → Value → Ordering
turned down a b = if down then order_of b a else order_of a b

-- a key that isn't there, which every row has, is null
abbrev pub key_at : List Value → ℕ → Value
key_at vs place = unwrap_or (slice_get vs place) value.Null

-- by the first key, then by the next
abbrev pub keys_cmp : List Sort → List Value → List Value → Ordering
keys_cmp [] a b = Equal
keys_cmp (s ∷ sorts) a b = ordering_then (turned s.down (key_at a 0) (key_at b 0)) (keys_cmp sorts (drop 1 a) (drop 1 b))

abbrev pub is_before : List Sort → Keyed → Keyed → Bool
is_before sorts a b = is_lt (keys_cmp sorts a.keys b.keys)

-- in front of the first that isn't before it
abbrev pub placed : {X : Type 0} → (X → X → Bool) → X → List X → List X
placed lt x [] = x ∷ []
placed lt x (y ∷ ys) = if lt y x then y ∷ placed lt x ys else x ∷ y ∷ ys

-- in order, those that tie as they stood
abbrev pub in_order : {X : Type 0} → (X → X → Bool) → List X → List X
in_order lt [] = []
in_order lt (x ∷ xs) = placed lt x (in_order lt xs)

abbrev pub rows_in_order : List Sort → List Keyed → List Row
rows_in_order sorts keyed = map (λ k. k.row) (in_order (is_before sorts) keyed)

-- behind the rows that have their keys already
abbrev pub sorted_on : Graph → Projection → List Keyed → List Made → Outcome (List Row)
sorted_on g p keyed rows = and_then (keyed_on g p keyed rows) (λ keyed. Ok (rows_in_order p.sort keyed))

-- the rows in order; without sort keys they stay as they are
abbrev pub sorted_of : Graph → Projection → List Made → Outcome (List Row)
sorted_of g p rows = sorted_on g p [] rows
