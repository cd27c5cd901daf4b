-- What a query asks of the names in it, name by name in reading order, and what stands in scope behind each.
use Rattle.std.specs.Prelude.{ℕ, Bool, not, ◌&&◌, ◌||◌, List, [], ◌∷◌, ◌++◌, fold, Option, Some, None, is_some, Result, Ok, Err, codes, if◌then◌else◌}
use Rattle.cypher_check.specs.declared.refused.CheckRefused.{CheckRefused}
use Rattle.cypher_check.specs.declared.refused.CheckRefused.TheVariants.{Unbound, Redeclared}
use Rattle.cypher_check.specs.declared.scope.Scope.{Scope}
use Rattle.cypher_check.specs.Marks.{Mark}
use Rattle.cypher_check.specs.Names.{has, add, add_all}
use Rattle.cypher_check.specs.Faults.{first_fault}

pub data Ask : Type 0 where
  -- the marks of expressions
  Reads : (marks : List Mark) → Ask
  -- a vertex and an edge of MATCH
  Vertex : (name : List ℕ) → Ask
  Edge : (name : List ℕ) → Ask
  -- a vertex and an edge of CREATE; is nothing asked of the vertex, and has its pattern an edge?
  NewVertex : (bare : Bool) (name : List ℕ) → Ask
  NewEdge : (name : List ℕ) → Ask
  -- the end of the patterns: their names come into scope
  Closes : Ask
  -- the name of UNWIND
  Unwinds : (name : List ℕ) → Ask
  -- `*` in a projection, and a name that an item gives
  Star : Ask
  Gives : (name : List ℕ) → Ask
  -- the names given come into scope
  Widens : Ask
  -- the names given are in scope, and no others
  Narrows : Ask

abbrev pub failed : Scope → CheckRefused → Scope
failed s fault = record s { fault = Some fault }

abbrev pub read : Scope → Option CheckRefused → Scope
read s None = s
read s (Some fault) = failed s fault

abbrev pub star : Scope → List (List ℕ) → Scope
star s [] = failed s (Unbound (codes "*"))
star s (name ∷ names) = record s { given = name ∷ names }

-- what an ask does to a scope without a fault
abbrev pub asked : Scope → Ask → Scope
asked s (Reads marks) = read s (first_fault s.names marks)
asked s (Vertex name) = if has s.edges name then failed s (Redeclared name) else record s { here = add s.here name }
asked s (Edge name) =
    if has s.here name then failed s (Redeclared name)
    else record s { here = s.here ++ name ∷ []; edges = s.edges ++ name ∷ [] }
asked s (NewVertex bare name) =
    if (has s.names name || has s.here name) && not bare || has s.edges name then failed s (Redeclared name)
    else record s { here = add s.here name }
asked s (NewEdge name) =
    if has s.names name || has s.here name then failed s (Redeclared name)
    else record s { here = s.here ++ name ∷ []; edges = s.edges ++ name ∷ [] }
asked s Closes = record s { names = add_all s.names s.here; here = []; edges = [] }
asked s (Unwinds name) = if has s.names name then failed s (Redeclared name) else record s { names = s.names ++ name ∷ [] }
asked s Star = star s s.names
asked s (Gives name) = if has s.given name then failed s (Redeclared name) else record s { given = s.given ++ name ∷ [] }
asked s Widens = record s { names = add_all s.names s.given }
asked s Narrows = record s { names = s.given; given = [] }

-- Behind a fault nothing counts.
unfoldable pub step : Scope → Ask → Scope
step s ask = if is_some s.fault then s else asked s ask

abbrev pub after : Scope → List Ask → Scope
after s asks = fold step s asks

abbrev pub start : Scope
start = record { names = []; here = []; edges = []; given = []; fault = None }

-- the fault as an answer
abbrev pub answer_of : Option CheckRefused → Result (Unit {0}) CheckRefused
answer_of None = Ok tt
answer_of (Some fault) = Err fault
