-- The grammar of what WITH and RETURN make of the rows, over a language of expressions.
use Rattle.std.specs.Prelude.{ℕ, unsigned_abs, Bool, true, false, List, [], ◌∷◌, Option, Some, None}
use Rattle.cypher_syntax.specs.declared.tree.expr.Expr.{Expr}
use Rattle.cypher_syntax.specs.declared.tree.expr.Expr.TheVariants as tree
use Rattle.cypher_syntax.specs.declared.tree.projection.Item.{Item}
use Rattle.cypher_syntax.specs.declared.tree.projection.Projection.{Projection}
use Rattle.cypher_syntax.specs.declared.tree.projection.Sort.{Sort}
use Rattle.cypher_parse.specs.declared.kind.Kind.{Kind}
use Rattle.cypher_parse.specs.declared.kind.Kind.TheVariants as k
use Rattle.cypher_parse.specs.Clauses.{Where}
use Rattle.cypher_parse.specs.Expressions.{Name, Integer, Flag}
use Rattle.cypher_parse.specs.Languages.{Lang, One, Seq, Map, After, Alt, Opt, Listed}

-- ---- the nodes of the tree

abbrev pub item_of : Expr × Option (List ℕ) → Item
item_of p = record { expr = p.0; name = p.1 }

abbrev pub sort_of : Expr × Bool → Sort
sort_of p = record { expr = p.0; down = p.1 }

-- DISTINCT, whether `*` stands for the items, the items, and the tail
abbrev pub Parts : Type 0
Parts = Bool × ((Bool × List Item) × (List Sort × (Option ℕ × Option ℕ)))

abbrev pub projection_of : Option Expr → Parts → Projection
projection_of filter p = record { distinct = p.0; star = p.1.0.0; items = p.1.0.1; sort = p.1.1.0; skip = p.1.1.1.0; limit = p.1.1.1.1; filter = filter }

-- ---- the rules

abbrev pub Number : Lang ℕ
Number = Map unsigned_abs Integer

abbrev pub Count : Kind → Lang (Option ℕ)
Count kind = Opt None (Map Some (After (kind ∷ []) Number))

-- does the greatest come first?
abbrev pub Direction : Lang Bool
Direction = Alt (Map (λ t. false) (One (k.Asc ∷ k.Ascending ∷ []))) (Opt false (Map (λ t. true) (One (k.Desc ∷ k.Descending ∷ []))))

module _ (E : Lang Expr) where
  unfoldable pub SortItem : Lang Sort
  SortItem = Map sort_of (Seq E Direction)

  abbrev pub SortsOrNone : Lang (List Sort)
  SortsOrNone = Opt [] (After (k.Order ∷ []) (After (k.By ∷ []) (Listed (k.Comma ∷ []) SortItem)))

  abbrev pub Tail : Lang (List Sort × (Option ℕ × Option ℕ))
  Tail = Seq SortsOrNone (Seq (Count k.Skip) (Count k.Limit))

  abbrev pub Parted : Lang Item → Lang Parts
  Parted Each = Seq (Flag k.Distinct) (Seq (Alt (Map (λ t. (true, [])) (One (k.Star ∷ []))) (Map (λ items. (false, items)) (Listed (k.Comma ∷ []) Each))) Tail)

  unfoldable pub ReturnItem : Lang Item
  ReturnItem = Map item_of (Seq E (Opt None (Map Some (After (k.As ∷ []) Name))))

  -- an expression with its name, or a name alone
  unfoldable pub WithItem : Lang Item
  WithItem = Alt (Map (λ p. item_of (p.0, Some p.1)) (Seq E (After (k.As ∷ []) Name))) (Map (λ n. item_of (tree.Var n, None)) Name)

  -- behind RETURN
  unfoldable pub Returned : Lang Projection
  Returned = Map (projection_of None) (Parted ReturnItem)

  -- behind WITH, with its WHERE
  unfoldable pub Passed : Lang Projection
  Passed = Map (λ p. projection_of p.1 p.0) (Seq (Parted WithItem) (Where E))
