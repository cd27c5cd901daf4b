-- The printed form of a query, clause by clause.
use Rattle.std.specs.Prelude.{ℕ, Bool, true, false, List, [], ◌∷◌, ◌++◌, Option, Some, None, codes}
use Rattle.std.specs.List.{flat_map}
use Rattle.std.specs.Fmt.{decimal}
use Rattle.cypher_syntax.specs.declared.tree.expr.Expr.{Expr}
use Rattle.cypher_syntax.specs.declared.tree.pattern.Arrow.{Arrow}
use Rattle.cypher_syntax.specs.declared.tree.pattern.Arrow.TheVariants.{Right, Left, Neither}
use Rattle.cypher_syntax.specs.declared.tree.pattern.NodePattern.{NodePattern}
use Rattle.cypher_syntax.specs.declared.tree.pattern.EdgePattern.{EdgePattern}
use Rattle.cypher_syntax.specs.declared.tree.pattern.Pattern.{Pattern}
use Rattle.cypher_syntax.specs.declared.tree.clause.MatchClause.{MatchClause}
use Rattle.cypher_syntax.specs.declared.tree.clause.Unwind.{Unwind}
use Rattle.cypher_syntax.specs.declared.tree.clause.Update.{Update}
use Rattle.cypher_syntax.specs.declared.tree.clause.Update.TheVariants as update
use Rattle.cypher_syntax.specs.declared.tree.clause.SetItem.{SetItem}
use Rattle.cypher_syntax.specs.declared.tree.clause.SetItem.TheVariants as set
use Rattle.cypher_syntax.specs.declared.tree.clause.RemoveItem.{RemoveItem}
use Rattle.cypher_syntax.specs.declared.tree.clause.RemoveItem.TheVariants as remove
use Rattle.cypher_syntax.specs.declared.tree.clause.Clause.{Clause}
use Rattle.cypher_syntax.specs.declared.tree.clause.Clause.TheVariants as clause
use Rattle.cypher_syntax.specs.declared.tree.projection.Item.{Item}
use Rattle.cypher_syntax.specs.declared.tree.projection.Sort.{Sort}
use Rattle.cypher_syntax.specs.declared.tree.projection.Projection.{Projection}
use Rattle.cypher_syntax.specs.declared.tree.query.Time.{Time}
use Rattle.cypher_syntax.specs.declared.tree.query.Time.TheVariants as time
use Rattle.cypher_syntax.specs.declared.tree.query.Stage.{Stage}
use Rattle.cypher_syntax.specs.declared.tree.query.Query.{Query}
use Rattle.cypher_print.specs.Pieces.{Pieces, written, name, schema}
use Rattle.cypher_print.specs.Printed.{joined, labels, distinct_word, expr, option}

abbrev pub comma : List ℕ
comma = codes ", "

-- PATTERNS

abbrev pub property : List ℕ × Expr → Pieces
property p = schema p.0 ++ codes ": " ∷ expr p.1 0

abbrev pub map_text : Option (List (List ℕ × Expr)) → Pieces
map_text None = []
map_text (Some ps) = codes "{" ∷ (joined comma property ps ++ codes "}" ∷ [])

abbrev pub optional_name : Option (List ℕ) → Pieces
optional_name None = []
optional_name (Some n) = name n

abbrev pub node : NodePattern → Pieces
node n = (codes "(" ∷ optional_name n.name) ++ labels n.labels ++ map_text n.map ++ codes ")" ∷ []

abbrev pub kinds : List (List ℕ) → Pieces
kinds [] = []
kinds (k ∷ ks) = codes ":" ∷ joined (codes "|") schema (k ∷ ks)

abbrev pub before_edge : Arrow → List ℕ
before_edge Right = codes "-["
before_edge Left = codes "<-["
before_edge Neither = codes "-["

abbrev pub behind_edge : Arrow → List ℕ
behind_edge Right = codes "]->"
behind_edge Left = codes "]-"
behind_edge Neither = codes "]-"

abbrev pub edge : EdgePattern → Pieces
edge e = (before_edge e.arrow ∷ optional_name e.name) ++ kinds e.kinds ++ map_text e.map ++ behind_edge e.arrow ∷ []

abbrev pub pattern : Pattern → Pieces
pattern p = node p.first ++ flat_map (λ s. edge s.0 ++ node s.1) p.steps

-- CLAUSES

abbrev pub optional_word : Bool → Pieces
optional_word true = codes "OPTIONAL " ∷ []
optional_word false = []

abbrev pub match_text : MatchClause → Pieces
match_text m = optional_word m.optional ++ codes "MATCH " ∷ (joined comma pattern m.patterns ++ option (codes " WHERE ") m.filter)

abbrev pub unwind_text : Unwind → Pieces
unwind_text u = (codes "UNWIND " ∷ expr u.list 0) ++ codes " AS " ∷ name u.name

abbrev pub set_item : SetItem → Pieces
set_item (set.Prop n k e) = name n ++ codes "." ∷ schema k ++ codes " = " ∷ expr e 0
set_item (set.Labels n ls) = name n ++ labels ls

abbrev pub remove_item : RemoveItem → Pieces
remove_item (remove.Prop n k) = name n ++ codes "." ∷ schema k
remove_item (remove.Labels n ls) = name n ++ labels ls

abbrev pub detach_word : Bool → Pieces
detach_word true = codes "DETACH " ∷ []
detach_word false = []

abbrev pub update_text : Update → Pieces
update_text (update.Create ps) = codes "CREATE " ∷ joined comma pattern ps
update_text (update.Set items) = codes "SET " ∷ joined comma set_item items
update_text (update.Remove items) = codes "REMOVE " ∷ joined comma remove_item items
update_text (update.Delete detach names) = detach_word detach ++ codes "DELETE " ∷ joined comma name names

abbrev pub clause_text : Clause → Pieces
clause_text (clause.Match m) = match_text m
clause_text (clause.Unwind u) = unwind_text u
clause_text (clause.Update u) = update_text u

-- PROJECTIONS

abbrev pub as_name : Option (List ℕ) → Pieces
as_name None = []
as_name (Some n) = codes " AS " ∷ name n

abbrev pub item : Item → Pieces
item i = expr i.expr 0 ++ as_name i.name

abbrev pub star_text : Bool → Pieces
star_text true = codes "*" ∷ []
star_text false = []

abbrev pub down_word : Bool → Pieces
down_word true = codes " DESC" ∷ []
down_word false = []

abbrev pub sort_key : Sort → Pieces
sort_key s = expr s.expr 0 ++ down_word s.down

abbrev pub sorts_text : List Sort → Pieces
sorts_text [] = []
sorts_text (s ∷ ss) = codes " ORDER BY " ∷ joined comma sort_key (s ∷ ss)

abbrev pub count_text : List ℕ → Option ℕ → Pieces
count_text word None = []
count_text word (Some n) = word ∷ decimal n ∷ []

abbrev pub projection : Projection → Pieces
projection p =
    distinct_word p.distinct ++ star_text p.star ++ joined comma item p.items ++ sorts_text p.sort
    ++ count_text (codes " SKIP ") p.skip ++ count_text (codes " LIMIT ") p.limit ++ option (codes " WHERE ") p.filter

-- QUERIES. Each part has a space behind it, and a semicolon ends the query.

abbrev pub clauses_text : List Clause → Pieces
clauses_text cs = flat_map (λ c. clause_text c ++ codes " " ∷ []) cs

abbrev pub stage_text : Stage → Pieces
stage_text s = clauses_text s.clauses ++ codes "WITH " ∷ (projection s.next ++ codes " " ∷ [])

abbrev pub returns_text : Option Projection → Pieces
returns_text None = []
returns_text (Some p) = codes "RETURN " ∷ (projection p ++ codes " " ∷ [])

abbrev pub time_text : Time → Pieces
time_text time.None = []
time_text (time.Snapshot t) = codes "TT " ∷ codes "SNAPSHOT " ∷ decimal t ∷ codes " " ∷ []
time_text (time.Between t u) = codes "TT " ∷ codes "BETWEEN " ∷ decimal t ∷ codes " AND " ∷ decimal u ∷ codes " " ∷ []

abbrev pub query_pieces : Query → Pieces
query_pieces q = flat_map stage_text q.stages ++ clauses_text q.clauses ++ returns_text q.returns ++ time_text q.time ++ codes ";" ∷ []

abbrev pub query_text : Query → List ℕ
query_text q = written [] (query_pieces q)
