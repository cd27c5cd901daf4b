-- The grammar of queries.
use Rattle.std.specs.Prelude.{ℕ, Bool, List, [], ◌∷◌, ◌++◌, Option, Some, None}
use Rattle.cypher_syntax.specs.declared.tree.clause.Clause.{Clause}
use Rattle.cypher_syntax.specs.declared.tree.expr.Expr.{Expr}
use Rattle.cypher_syntax.specs.declared.tree.projection.Projection.{Projection}
use Rattle.cypher_syntax.specs.declared.tree.query.Query.{Query}
use Rattle.cypher_syntax.specs.declared.tree.query.Stage.{Stage}
use Rattle.cypher_syntax.specs.declared.tree.query.Time.{Time}
use Rattle.cypher_syntax.specs.declared.tree.query.Time.TheVariants as time
use Rattle.cypher_parse.specs.declared.kind.Kind.TheVariants as k
use Rattle.cypher_parse.specs.Clauses.{Reading, Updating}
use Rattle.cypher_parse.specs.Expressions.{Flag, Expression}
use Rattle.cypher_parse.specs.Languages.{Lang, Seq, Map, After, Alt, Opt, Many, Some1}
use Rattle.cypher_parse.specs.Projections.{Number, Returned, Passed}

-- ---- the nodes of the tree

abbrev pub stage_of : (List Clause × List Clause) × Projection → Stage
stage_of p = record { clauses = p.0.0 ++ p.0.1; next = p.1 }

-- the clauses behind the last WITH, and what RETURN gives
abbrev pub Last : Type 0
Last = List Clause × Option Projection

abbrev pub query_of : (List Stage × Last) × (Time × Bool) → Query
query_of p = record { stages = p.0.0; clauses = p.0.1.0; returns = p.0.1.1; time = p.1.0 }

-- ---- the rules

abbrev pub Instants : Lang Time
Instants =
    After (k.Tt ∷ [])
    (Alt (Map time.Snapshot (After (k.Snapshot ∷ []) Number))
    (Map (λ p. time.Between p.0 p.1) (After (k.Between ∷ []) (Seq Number (After (k.And ∷ []) Number)))))

module _ (E : Lang Expr) where
  -- reading* updating* WITH ..
  abbrev pub Part : Lang Stage
  Part = Map stage_of (Seq (Seq (Many (Reading E)) (Many (Updating E))) (After (k.With ∷ []) (Passed E)))

  abbrev pub Return : Lang Projection
  Return = After (k.Return ∷ []) (Returned E)

  -- reading* RETURN .., or reading* updating updating* [RETURN ..]
  abbrev pub Ending : Lang Last
  Ending =
      Alt (Map (λ p. (p.0, Some p.1)) (Seq (Many (Reading E)) Return))
      (Map (λ p. (p.0 ++ p.1.0, p.1.1)) (Seq (Many (Reading E)) (Seq (Some1 (Updating E)) (Opt None (Map Some Return)))))

  unfoldable pub Whole : Lang Query
  Whole = Map query_of (Seq (Seq (Many Part) Ending) (Seq (Opt time.None Instants) (Flag k.Semicolon)))

-- a query in whose expressions at most so many tokens are open at once
abbrev pub QueryAt : ℕ → Lang Query
QueryAt n = Whole (Expression n)
