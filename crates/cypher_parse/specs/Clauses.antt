-- The grammar of clauses, over a language of expressions.
use Rattle.std.specs.Prelude.{ℕ, Bool, List, [], ◌∷◌, Option, Some, None}
use Rattle.cypher_syntax.specs.declared.tree.clause.Clause.{Clause}
use Rattle.cypher_syntax.specs.declared.tree.clause.Clause.TheVariants as clause
use Rattle.cypher_syntax.specs.declared.tree.clause.RemoveItem.{RemoveItem}
use Rattle.cypher_syntax.specs.declared.tree.clause.RemoveItem.TheVariants as remove
use Rattle.cypher_syntax.specs.declared.tree.clause.SetItem.{SetItem}
use Rattle.cypher_syntax.specs.declared.tree.clause.SetItem.TheVariants as set
use Rattle.cypher_syntax.specs.declared.tree.clause.Update.TheVariants as update
use Rattle.cypher_syntax.specs.declared.tree.expr.Expr.{Expr}
use Rattle.cypher_syntax.specs.declared.tree.pattern.Pattern.{Pattern}
use Rattle.cypher_parse.specs.declared.kind.Kind.TheVariants as k
use Rattle.cypher_parse.specs.Expressions.{Name, Schema, Flag, Labels}
use Rattle.cypher_parse.specs.Languages.{Lang, Seq, Map, After, Alt, Opt, Listed}
use Rattle.cypher_parse.specs.Patterns.{Path, NewPath}

-- ---- the nodes of the tree

abbrev pub match_of : Bool × (List Pattern × Option Expr) → Clause
match_of p = clause.Match (record { optional = p.0; patterns = p.1.0; filter = p.1.1 })

abbrev pub unwind_of : Expr × List ℕ → Clause
unwind_of p = clause.Unwind (record { list = p.0; name = p.1 })

abbrev pub delete_of : Bool × List (List ℕ) → Clause
delete_of p = clause.Update (update.Delete p.0 p.1)

-- ---- the rules

module _ (E : Lang Expr) where
  unfoldable pub Where : Lang (Option Expr)
  Where = Opt None (Map Some (After (k.Where ∷ []) E))

  unfoldable pub Match : Lang Clause
  Match = Map match_of (Seq (Flag k.Optional) (After (k.Match ∷ []) (Seq (Listed (k.Comma ∷ []) (Path E)) Where)))

  unfoldable pub Unwind : Lang Clause
  Unwind = Map unwind_of (After (k.Unwind ∷ []) (Seq E (After (k.As ∷ []) Name)))

  abbrev pub Reading : Lang Clause
  Reading = Alt Unwind Match

  -- a property of what a name stands for, or labels of it
  abbrev pub SetProperty : Lang SetItem
  SetProperty = Map (λ p. set.Prop p.0 p.1.0 p.1.1) (Seq Name (After (k.Point ∷ []) (Seq Schema (After (k.Equal ∷ []) E))))

  abbrev pub SetLabels : Lang SetItem
  SetLabels = Map (λ p. set.Labels p.0 p.1) (Seq Name Labels)

  unfoldable pub Set : Lang SetItem
  Set = Alt SetProperty SetLabels

  unfoldable pub Create : Lang Clause
  Create = Map (λ ps. clause.Update (update.Create ps)) (After (k.Create ∷ []) (Listed (k.Comma ∷ []) (NewPath E)))

  unfoldable pub SetClause : Lang Clause
  SetClause = Map (λ items. clause.Update (update.Set items)) (After (k.Set ∷ []) (Listed (k.Comma ∷ []) Set))

abbrev pub RemoveProperty : Lang RemoveItem
RemoveProperty = Map (λ p. remove.Prop p.0 p.1) (Seq Name (After (k.Point ∷ []) Schema))

abbrev pub RemoveLabels : Lang RemoveItem
RemoveLabels = Map (λ p. remove.Labels p.0 p.1) (Seq Name Labels)

unfoldable pub Remove : Lang RemoveItem
Remove = Alt RemoveProperty RemoveLabels

unfoldable pub RemoveClause : Lang Clause
RemoveClause = Map (λ items. clause.Update (update.Remove items)) (After (k.Remove ∷ []) (Listed (k.Comma ∷ []) Remove))

unfoldable pub Delete : Lang Clause
Delete = Map delete_of (Seq (Flag k.Detach) (After (k.Delete ∷ []) (Listed (k.Comma ∷ []) Name)))

abbrev pub Updating : Lang Expr → Lang Clause
Updating E = Alt (Create E) (Alt (SetClause E) (Alt RemoveClause Delete))
