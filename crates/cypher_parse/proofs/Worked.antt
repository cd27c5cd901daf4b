-- Texts that were worked out by hand from the grammar, computed on the parser of queries. `Depth` ties it to the grammar.
use Rattle.std.proofs.Common.{◌≡◌, ℕ, pos, negsuc, true, false, List, [], ◌∷◌, Option, Some, None, refl}
use Rattle.graph_value.specs.declared.value.Value.TheVariants as value
use Rattle.cypher_syntax.specs.declared.tree.clause.Clause.{Clause}
use Rattle.cypher_syntax.specs.declared.tree.clause.Clause.TheVariants as clause
use Rattle.cypher_syntax.specs.declared.tree.clause.SetItem.TheVariants as set
use Rattle.cypher_syntax.specs.declared.tree.clause.RemoveItem.TheVariants as remove
use Rattle.cypher_syntax.specs.declared.tree.clause.Update.TheVariants as update
use Rattle.cypher_syntax.specs.declared.tree.expr.Expr.{Expr}
use Rattle.cypher_syntax.specs.declared.tree.expr.Expr.TheVariants as tree
use Rattle.cypher_syntax.specs.declared.tree.expr.PredOp.TheVariants as test
use Rattle.cypher_syntax.specs.declared.tree.expr.PostOp.TheVariants as step
use Rattle.cypher_syntax.specs.declared.tree.operators.CmpOp.TheVariants as cmp
use Rattle.cypher_syntax.specs.declared.tree.operators.SumOp.TheVariants as sign
use Rattle.cypher_syntax.specs.declared.tree.operators.ProdOp.TheVariants as factor
use Rattle.cypher_syntax.specs.declared.tree.operators.AggFun.TheVariants as agg
use Rattle.cypher_syntax.specs.declared.tree.operators.Fun.TheVariants as fun
use Rattle.cypher_syntax.specs.declared.tree.pattern.Arrow.TheVariants as arrow
use Rattle.cypher_syntax.specs.declared.tree.pattern.NodePattern.{NodePattern}
use Rattle.cypher_syntax.specs.declared.tree.pattern.Pattern.{Pattern}
use Rattle.cypher_syntax.specs.declared.tree.projection.Item.{Item}
use Rattle.cypher_syntax.specs.declared.tree.projection.Projection.{Projection}
use Rattle.cypher_syntax.specs.declared.tree.query.Query.{Query}
use Rattle.cypher_syntax.specs.declared.tree.query.Stage.{Stage}
use Rattle.cypher_syntax.specs.declared.tree.query.Time.TheVariants as time
use Rattle.cypher_parse.specs.declared.kind.Kind.{Kind}
use Rattle.cypher_parse.specs.declared.kind.Kind.TheVariants as k
use Rattle.cypher_parse.specs.declared.lexeme.Lexeme.{Lexeme}
use Rattle.cypher_parse.specs.declared.lexeme.Payload.TheVariants as payload
use Rattle.cypher_parse.specs.Languages.{Tokens}
use Rattle.cypher_parse.specs.Parsers.{Outcome, Done, Fault}
use Rattle.cypher_parse.specs.ExpressionParsers.{labels, labels_more, literal, behind_minus, null_test, operand, range_bounds, list, list_more, counted_rows, elements, when, whens, whens_more, case_operand, case_otherwise, cases, tests, single_call, range_call, coalesce_call, count_call, aggregate_call, call, atom, next, turn, steps, post, unary, product_turn, product_more, product, sum_turn, sum_more, sum, test_behind, predicate_more, predicate, comparison_turn, comparison_more, comparison, negation, conjunction_more, conjunction, exclusive_more, exclusive, disjunction_more, disjunction, at}
use Rattle.cypher_parse.specs.PatternParsers.{name_or_none, kinds_more, kinds_or_none, entry, entries, property_map, map_or_none, node, inner, edge, path_step, path_more, path, new_inner, new_edge, new_step, new_more, new_path}
use Rattle.cypher_parse.specs.ClauseParsers.{remove_item, remove_items, remove_clause, names, delete, filter, paths, match_clause, unwind, reading, set_item, set_items, set_clause, new_paths, create, updating}
use Rattle.cypher_parse.specs.ProjectionParsers.{number, counted, direction, alias, sort, sorts, sorts_or_none, tail, return_item, with_item, body, parts as projection_parts, returned, passed}
use Rattle.cypher_parse.specs.QueryParsers.{instants, readings, updatings, clauses, stage, stages, return_clause, parts, times, whole, query_at}

-- the parser of queries, computed
read : ℕ → Tokens → Outcome Query
unfolding labels labels_more literal behind_minus null_test operand range_bounds list list_more counted_rows elements when whens whens_more case_operand case_otherwise cases tests single_call range_call coalesce_call count_call aggregate_call call atom next turn steps post unary product_turn product_more product sum_turn sum_more sum test_behind predicate_more predicate comparison_turn comparison_more comparison negation conjunction_more conjunction exclusive_more exclusive disjunction_more disjunction at name_or_none kinds_more kinds_or_none entry entries property_map map_or_none node inner edge path_step path_more path new_inner new_edge new_step new_more new_path remove_item remove_items remove_clause names delete filter paths match_clause unwind reading set_item set_items set_clause new_paths create updating number counted direction alias sort sorts sorts_or_none tail return_item with_item body projection_parts returned passed instants readings updatings clauses stage stages return_clause parts times whole
read n ts = query_at n ts

-- ---- tokens

abbrev t : Kind → Lexeme
t kind = record { kind = kind; payload = payload.Bare; place = 0 }

abbrev name : ℕ → Lexeme
name letter = record { kind = k.Name; payload = payload.Name (letter ∷ []); place = 0 }

abbrev word : Kind → ℕ → Lexeme
word kind letter = record { kind = kind; payload = payload.Name (letter ∷ []); place = 0 }

abbrev int : ℕ → Lexeme
int n = record { kind = k.Integer; payload = payload.Integer (pos n); place = 0 }

abbrev A : Lexeme
A = name 97

abbrev B : Lexeme
B = name 98

abbrev C : Lexeme
C = name 99

abbrev D : Lexeme
D = name 100

-- ---- trees

abbrev number_of : ℕ → Expr
number_of n = tree.Lit (value.Int (pos n))

abbrev a : Expr
a = tree.Var (97 ∷ [])

abbrev b : Expr
b = tree.Var (98 ∷ [])

abbrev c : Expr
c = tree.Var (99 ∷ [])

abbrev d : Expr
d = tree.Var (100 ∷ [])

abbrev item : Expr → Item
item x = record { expr = x; name = None }

abbrev items_alone : List Item → Projection
items_alone items = record { distinct = false; star = false; items = items; sort = []; skip = None; limit = None; filter = None }

abbrev vertex : Option (List ℕ) → NodePattern
vertex n = record { name = n; labels = []; map = None }

abbrev alone : NodePattern → Pattern
alone n = record { first = n; steps = [] }

abbrev match_of : Pattern → Clause
match_of p = clause.Match (record { optional = false; patterns = p ∷ []; filter = None })

abbrev query : List Stage → List Clause → Option Projection → Query
query stages clauses returns = record { stages = stages; clauses = clauses; returns = returns; time = time.None }

-- RETURN and one expression
abbrev Gives : Tokens → Expr → Type 0
Gives ts x = read 64 (t k.Return ∷ ts) ≡ Done (query [] [] (Some (items_alone (item x ∷ [])))) []

-- ---- expressions

-- RETURN 1
one_number : Gives (int 1 ∷ []) (number_of 1)
unfolding read
one_number = refl

-- RETURN 1 < 2 < 3
comparisons : Gives (int 1 ∷ t k.Less ∷ int 2 ∷ t k.Less ∷ int 3 ∷ []) (tree.Cmp (number_of 1) ((cmp.Lt, number_of 2) ∷ (cmp.Lt, number_of 3) ∷ []))
unfolding read
comparisons = refl

-- RETURN -9223372036854775808
least : Gives (t k.Minus ∷ t k.LeastMagnitude ∷ []) (tree.Lit (value.Int (negsuc 9223372036854775807)))
unfolding read
least = refl

-- RETURN 9223372036854775808: a fault at the number
least_without_sign : read 64 (t k.Return ∷ t k.LeastMagnitude ∷ []) ≡ Fault false (t k.LeastMagnitude ∷ [])
unfolding read
least_without_sign = refl

-- RETURN a - 9223372036854775808: a fault at the number
least_subtracted : read 64 (t k.Return ∷ A ∷ t k.Minus ∷ t k.LeastMagnitude ∷ []) ≡ Fault false (t k.LeastMagnitude ∷ [])
unfolding read
least_subtracted = refl

-- RETURN a - - 1 * b
signs : Gives (A ∷ t k.Minus ∷ t k.Minus ∷ int 1 ∷ t k.Star ∷ B ∷ []) (tree.Sum a ((sign.Minus, tree.Prod (tree.Sign sign.Minus (number_of 1)) ((factor.Times, b) ∷ [])) ∷ []))
unfolding read
signs = refl

-- RETURN a:B:C
two_labels : Gives (A ∷ t k.Colon ∷ B ∷ t k.Colon ∷ C ∷ []) (tree.Post a (step.Labels ((98 ∷ []) ∷ (99 ∷ []) ∷ []) ∷ []))
unfolding read
two_labels = refl

-- RETURN (a:B):C
two_tests : Gives (t k.LeftParen ∷ A ∷ t k.Colon ∷ B ∷ t k.RightParen ∷ t k.Colon ∷ C ∷ []) (tree.Post (tree.Post a (step.Labels ((98 ∷ []) ∷ []) ∷ [])) (step.Labels ((99 ∷ []) ∷ []) ∷ []))
unfolding read
two_tests = refl

-- RETURN a:B.c[1]:D
steps_and_labels : Gives (A ∷ t k.Colon ∷ B ∷ t k.Point ∷ C ∷ t k.LeftBracket ∷ int 1 ∷ t k.RightBracket ∷ t k.Colon ∷ D ∷ [])
    (tree.Post a (step.Labels ((98 ∷ []) ∷ []) ∷ step.Prop (99 ∷ []) ∷ step.At (number_of 1) ∷ step.Labels ((100 ∷ []) ∷ []) ∷ []))
unfolding read
steps_and_labels = refl

-- RETURN a IS NOT NULL IS NULL
null_tests : Gives (A ∷ t k.Is ∷ t k.Not ∷ t k.Null ∷ t k.Is ∷ t k.Null ∷ []) (tree.Pred a (test.IsNotNull ∷ test.IsNull ∷ []))
unfolding read
null_tests = refl

-- RETURN a STARTS WITH b IN c
word_tests : Gives (A ∷ t k.Starts ∷ t k.With ∷ B ∷ t k.In ∷ C ∷ []) (tree.Pred a (test.Starts b ∷ test.OneOf c ∷ []))
unfolding read
word_tests = refl

-- RETURN NOT a = b
denied : Gives (t k.Not ∷ A ∷ t k.Equal ∷ B ∷ []) (tree.Not (tree.Cmp a ((cmp.Eq, b) ∷ [])))
unfolding read
denied = refl

-- RETURN a OR b XOR c AND d
ranked : Gives (A ∷ t k.Or ∷ B ∷ t k.Xor ∷ C ∷ t k.And ∷ D ∷ []) (tree.Or (a ∷ tree.Xor (b ∷ tree.And (c ∷ d ∷ []) ∷ []) ∷ []))
unfolding read
ranked = refl

-- RETURN a OR b AND NOT c OR d
ranked_and_denied : Gives (A ∷ t k.Or ∷ B ∷ t k.And ∷ t k.Not ∷ C ∷ t k.Or ∷ D ∷ []) (tree.Or (a ∷ tree.And (b ∷ tree.Not c ∷ []) ∷ d ∷ []))
unfolding read
ranked_and_denied = refl

-- RETURN size, count(*), count(DISTINCT a), size(b), range(1, 2), [], CASE a WHEN b THEN c ELSE d END
calls : read 64 (t k.Return ∷ word k.SizeWord 97 ∷ t k.Comma
    ∷ word k.CountWord 97 ∷ t k.LeftParen ∷ t k.Star ∷ t k.RightParen ∷ t k.Comma
    ∷ word k.CountWord 97 ∷ t k.LeftParen ∷ t k.Distinct ∷ A ∷ t k.RightParen ∷ t k.Comma
    ∷ word k.SizeWord 97 ∷ t k.LeftParen ∷ B ∷ t k.RightParen ∷ t k.Comma
    ∷ word k.RangeWord 97 ∷ t k.LeftParen ∷ int 1 ∷ t k.Comma ∷ int 2 ∷ t k.RightParen ∷ t k.Comma
    ∷ t k.LeftBracket ∷ t k.RightBracket ∷ t k.Comma
    ∷ t k.Case ∷ A ∷ t k.When ∷ B ∷ t k.Then ∷ C ∷ t k.Else ∷ D ∷ t k.End ∷ [])
    ≡ Done (query [] [] (Some (items_alone (item a ∷ item tree.CountRows ∷ item (tree.Agg agg.Count true a) ∷ item (tree.Call fun.Size (b ∷ []))
    ∷ item (tree.Call fun.Range (number_of 1 ∷ number_of 2 ∷ [])) ∷ item (tree.List []) ∷ item (tree.Case (Some a) ((b, c) ∷ []) (Some d)) ∷ [])))) []
unfolding read
calls = refl

-- ---- levels

-- RETURN ((1)), where two may be open
two_open : read 2 (t k.Return ∷ t k.LeftParen ∷ t k.LeftParen ∷ int 1 ∷ t k.RightParen ∷ t k.RightParen ∷ []) ≡ Done (query [] [] (Some (items_alone (item (number_of 1) ∷ [])))) []
unfolding read
two_open = refl

-- RETURN ((1)), where one may be open: too deep at the second
second_open : read 1 (t k.Return ∷ t k.LeftParen ∷ t k.LeftParen ∷ int 1 ∷ t k.RightParen ∷ t k.RightParen ∷ []) ≡ Fault true (t k.LeftParen ∷ int 1 ∷ t k.RightParen ∷ t k.RightParen ∷ [])
unfolding read
second_open = refl

-- RETURN NOT - [: too deep at the bracket, where two may be open
three_open : read 2 (t k.Return ∷ t k.Not ∷ t k.Minus ∷ t k.LeftBracket ∷ []) ≡ Fault true (t k.LeftBracket ∷ [])
unfolding read
three_open = refl

-- RETURN - 9223372036854775808, where none may be open: too deep at the sign
sign_opens : read 0 (t k.Return ∷ t k.Minus ∷ t k.LeastMagnitude ∷ []) ≡ Fault true (t k.Minus ∷ t k.LeastMagnitude ∷ [])
unfolding read
sign_opens = refl

-- RETURN a IS NOT NULL, and MATCH (a {b: c}) RETURN a, where none may be open
none_open : read 0 (t k.Match ∷ t k.LeftParen ∷ A ∷ t k.LeftBrace ∷ B ∷ t k.Colon ∷ C ∷ t k.RightBrace ∷ t k.RightParen ∷ t k.Return ∷ A ∷ t k.Is ∷ t k.Not ∷ t k.Null ∷ [])
    ≡ Done (query [] (match_of (alone (record { name = Some (97 ∷ []); labels = []; map = Some (((98 ∷ []), c) ∷ []) })) ∷ []) (Some (items_alone (item (tree.Pred a (test.IsNotNull ∷ [])) ∷ [])))) []
unfolding read
none_open = refl

-- ---- faults

-- nothing
nothing : read 64 [] ≡ Fault false []
unfolding read
nothing = refl

-- RETURN 1 1: the second number is left
more : read 64 (t k.Return ∷ int 1 ∷ int 2 ∷ []) ≡ Done (query [] [] (Some (items_alone (item (number_of 1) ∷ [])))) (int 2 ∷ [])
unfolding read
more = refl

-- MATCH (a RETURN a
open_vertex : read 64 (t k.Match ∷ t k.LeftParen ∷ A ∷ t k.Return ∷ A ∷ []) ≡ Fault false (t k.Return ∷ A ∷ [])
unfolding read
open_vertex = refl

-- MATCH (a): an end of the text where no query ends
no_return : read 64 (t k.Match ∷ t k.LeftParen ∷ A ∷ t k.RightParen ∷ []) ≡ Fault false []
unfolding read
no_return = refl

-- a number behind the expression of WITH: 1 isn't a name
without_name : read 64 (t k.With ∷ int 1 ∷ t k.Return ∷ A ∷ []) ≡ Fault false (t k.Return ∷ A ∷ [])
unfolding read
without_name = refl

-- WITH (a) RETURN a: a name between parentheses is no name alone
between_parentheses : read 64 (t k.With ∷ t k.LeftParen ∷ A ∷ t k.RightParen ∷ t k.Return ∷ A ∷ []) ≡ Fault false (t k.Return ∷ A ∷ [])
unfolding read
between_parentheses = refl

-- CREATE (a)-[b]->(c): an edge that is made has a kind
without_kind : read 64 (t k.Create ∷ t k.LeftParen ∷ A ∷ t k.RightParen ∷ t k.Minus ∷ t k.LeftBracket ∷ B ∷ t k.RightBracket ∷ []) ≡ Fault false (t k.RightBracket ∷ [])
unfolding read
without_kind = refl

-- MATCH (a)-[*]-(b) RETURN a
star_in_edge : read 64 (t k.Match ∷ t k.LeftParen ∷ A ∷ t k.RightParen ∷ t k.Minus ∷ t k.LeftBracket ∷ t k.Star ∷ []) ≡ Fault false (t k.Star ∷ [])
unfolding read
star_in_edge = refl

-- ---- clauses

-- MATCH (a) RETURN a
one_vertex : read 64 (t k.Match ∷ t k.LeftParen ∷ A ∷ t k.RightParen ∷ t k.Return ∷ A ∷ []) ≡ Done (query [] (match_of (alone (vertex (Some (97 ∷ [])))) ∷ []) (Some (items_alone (item a ∷ [])))) []
unfolding read
one_vertex = refl

-- OPTIONAL MATCH (a)<-[b:C|D]-()--(c) WHERE a RETURN DISTINCT a AS b ORDER BY c DESC, d SKIP 1 LIMIT 2 ;
all_of_match : read 64 (t k.Optional ∷ t k.Match ∷ t k.LeftParen ∷ A ∷ t k.RightParen ∷ t k.Less ∷ t k.Minus ∷ t k.LeftBracket ∷ B ∷ t k.Colon ∷ C ∷ t k.Bar ∷ D ∷ t k.RightBracket ∷ t k.Minus
    ∷ t k.LeftParen ∷ t k.RightParen ∷ t k.Minus ∷ t k.Minus ∷ t k.LeftParen ∷ C ∷ t k.RightParen ∷ t k.Where ∷ A
    ∷ t k.Return ∷ t k.Distinct ∷ A ∷ t k.As ∷ B ∷ t k.Order ∷ t k.By ∷ C ∷ t k.Desc ∷ t k.Comma ∷ D ∷ t k.Skip ∷ int 1 ∷ t k.Limit ∷ int 2 ∷ t k.Semicolon ∷ [])
    ≡ Done (query [] (clause.Match (record {
      optional = true;
      patterns = record {
        first = vertex (Some (97 ∷ []));
        steps = (record { name = Some (98 ∷ []); kinds = (99 ∷ []) ∷ (100 ∷ []) ∷ []; arrow = arrow.Left; map = None }, vertex None) ∷ (record { name = None; kinds = []; arrow = arrow.Neither; map = None }, vertex (Some (99 ∷ []))) ∷ [];
      } ∷ [];
      filter = Some a;
    }) ∷ []) (Some (record {
      distinct = true;
      star = false;
      items = record { expr = a; name = Some (98 ∷ []) } ∷ [];
      sort = record { expr = c; down = true } ∷ record { expr = d; down = false } ∷ [];
      skip = Some 1;
      limit = Some 2;
      filter = None;
    }))) []
unfolding read
all_of_match = refl

-- CREATE (a)-[:B]->(c)
created : read 64 (t k.Create ∷ t k.LeftParen ∷ A ∷ t k.RightParen ∷ t k.Minus ∷ t k.LeftBracket ∷ t k.Colon ∷ B ∷ t k.RightBracket ∷ t k.Minus ∷ t k.Greater ∷ t k.LeftParen ∷ C ∷ t k.RightParen ∷ [])
    ≡ Done (query [] (clause.Update (update.Create (record {
      first = vertex (Some (97 ∷ []));
      steps = (record { name = None; kinds = (98 ∷ []) ∷ []; arrow = arrow.Right; map = None }, vertex (Some (99 ∷ []))) ∷ [];
    } ∷ [])) ∷ []) None) []
unfolding read
created = refl

-- SET a.b = 1, a:C REMOVE a.b, a:C DETACH DELETE a, b
changed : read 64 (t k.Set ∷ A ∷ t k.Point ∷ B ∷ t k.Equal ∷ int 1 ∷ t k.Comma ∷ A ∷ t k.Colon ∷ C ∷ t k.Remove ∷ A ∷ t k.Point ∷ B ∷ t k.Comma ∷ A ∷ t k.Colon ∷ C ∷ t k.Detach ∷ t k.Delete ∷ A ∷ t k.Comma ∷ B ∷ [])
    ≡ Done (query [] (clause.Update (update.Set (set.Prop (97 ∷ []) (98 ∷ []) (number_of 1) ∷ set.Labels (97 ∷ []) ((99 ∷ []) ∷ []) ∷ []))
    ∷ clause.Update (update.Remove (remove.Prop (97 ∷ []) (98 ∷ []) ∷ remove.Labels (97 ∷ []) ((99 ∷ []) ∷ []) ∷ []))
    ∷ clause.Update (update.Delete true ((97 ∷ []) ∷ (98 ∷ []) ∷ [])) ∷ []) None) []
unfolding read
changed = refl

-- UNWIND a AS b SET b:C WITH *, b, 1 AS c .. is a fault at the comma; WITH b, 1 AS c WHERE c WITH * RETURN * TT BETWEEN 1 AND 2
stages_in_order : read 64 (t k.Unwind ∷ A ∷ t k.As ∷ B ∷ t k.Set ∷ B ∷ t k.Colon ∷ C ∷ t k.With ∷ B ∷ t k.Comma ∷ int 1 ∷ t k.As ∷ C ∷ t k.Where ∷ C ∷ t k.With ∷ t k.Star ∷ t k.Return ∷ t k.Star ∷ t k.Tt ∷ t k.Between ∷ int 1 ∷ t k.And ∷ int 2 ∷ [])
    ≡ Done (record {
      stages =
          record {
            clauses = clause.Unwind (record { list = a; name = 98 ∷ [] }) ∷ clause.Update (update.Set (set.Labels (98 ∷ []) ((99 ∷ []) ∷ []) ∷ [])) ∷ [];
            next = record { distinct = false; star = false; items = item b ∷ record { expr = number_of 1; name = Some (99 ∷ []) } ∷ []; sort = []; skip = None; limit = None; filter = Some c };
          }
          ∷ record { clauses = []; next = record { distinct = false; star = true; items = []; sort = []; skip = None; limit = None; filter = None } } ∷ [];
      clauses = [];
      returns = Some (record { distinct = false; star = true; items = []; sort = []; skip = None; limit = None; filter = None });
      time = time.Between 1 2;
    }) []
unfolding read
stages_in_order = refl

-- CREATE (a) MATCH (b) RETURN b: no reading clause stands behind an updating one
reading_behind_updating : read 64 (t k.Create ∷ t k.LeftParen ∷ A ∷ t k.RightParen ∷ t k.Match ∷ t k.LeftParen ∷ []) ≡ Done (query [] (clause.Update (update.Create (alone (vertex (Some (97 ∷ []))) ∷ [])) ∷ []) None) (t k.Match ∷ t k.LeftParen ∷ [])
unfolding read
reading_behind_updating = refl
