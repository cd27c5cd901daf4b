-- The parsers of projections, each beside its rule of the grammar.
use Rattle.std.specs.Prelude.{ℕ, suc, unsigned_abs, Bool, true, false, ◌&&◌, ◌==◌, List, [], ◌∷◌, length, Option, Some, None}
use Rattle.cypher_syntax.specs.declared.tree.expr.Expr.{Expr}
use Rattle.cypher_syntax.specs.declared.tree.projection.Item.{Item}
use Rattle.cypher_syntax.specs.declared.tree.projection.Projection.{Projection}
use Rattle.cypher_syntax.specs.declared.tree.projection.Sort.{Sort}
use Rattle.cypher_parse.specs.declared.kind.Kind.{Kind}
use Rattle.cypher_parse.specs.declared.kind.Kind.TheVariants as k
use Rattle.cypher_parse.specs.declared.kinds.TheConstants.{NAMES}
use Rattle.cypher_parse.specs.ClauseParsers.{filter}
use Rattle.cypher_parse.specs.ExpressionParsers.{name, integer, flag}
use Rattle.cypher_parse.specs.Languages.{Tokens, is_of}
use Rattle.cypher_parse.specs.Parsers.{Parser, Done, and_then, one, seq, bind, map_out, after, empty, alt, opt, listed}
use Rattle.cypher_parse.specs.Projections.{Parts, item_of, sort_of, projection_of}
use Rattle.cypher_parse.specs.Words.{name_of}

unfoldable pub number : Parser ℕ
number = map_out unsigned_abs integer

unfoldable pub counted : Kind → Parser (Option ℕ)
counted kind = opt (kind ∷ []) None (map_out Some (after (kind ∷ []) number))

unfoldable pub direction : Parser Bool
direction =
    alt (k.Asc ∷ k.Ascending ∷ []) (map_out (λ t. false) (one (k.Asc ∷ k.Ascending ∷ [])))
    (opt (k.Desc ∷ k.Descending ∷ []) false (map_out (λ t. true) (one (k.Desc ∷ k.Descending ∷ []))))

unfoldable pub alias : Parser (List ℕ)
alias = after (k.As ∷ []) name

-- whether one token was read, and that one is a name
abbrev pub carries : Option (List ℕ) → Bool
carries None = false
carries (Some n) = true

abbrev pub leads : Tokens → Bool
leads [] = false
leads (t ∷ ts) = is_of NAMES t && carries (name_of t)

abbrev pub is_name_alone : Tokens → Tokens → Bool
is_name_alone ts rest = (length ts == suc (length rest)) && leads ts

-- an expression, and whether it is a name alone
abbrev pub marked : Parser Expr → Parser (Expr × Bool)
marked e ts = and_then (e ts) (λ x rest. Done (x, is_name_alone ts rest) rest)

abbrev pub named_item : Expr → Parser Item
named_item x = map_out (λ n. item_of (x, Some n)) alias

abbrev pub rest_of_item : Expr × Bool → Parser Item
rest_of_item (x, true) = alt (k.As ∷ []) (named_item x) (empty (item_of (x, None)))
rest_of_item (x, false) = named_item x

module _ (e : Parser Expr) where
  unfoldable pub sort : Parser Sort
  sort = map_out sort_of (seq e direction)

  unfoldable pub sorts : Parser (List Sort)
  sorts = listed (k.Comma ∷ []) sort

  unfoldable pub sorts_or_none : Parser (List Sort)
  unfolding sorts
  sorts_or_none = opt (k.Order ∷ []) [] (after (k.Order ∷ []) (after (k.By ∷ []) sorts))

  unfoldable pub tail : Parser (List Sort × (Option ℕ × Option ℕ))
  tail = seq sorts_or_none (seq (counted k.Skip) (counted k.Limit))

  unfoldable pub return_item : Parser Item
  return_item = map_out item_of (seq e (opt (k.As ∷ []) None (map_out Some alias)))

  unfoldable pub with_item : Parser Item
  with_item = bind (marked e) rest_of_item

  unfoldable pub body : Parser Item → Parser (Bool × List Item)
  body item = alt (k.Star ∷ []) (map_out (λ t. (true, [])) (one (k.Star ∷ []))) (map_out (λ items. (false, items)) (listed (k.Comma ∷ []) item))

  abbrev pub return_body : Parser (Bool × List Item)
  return_body = body return_item

  abbrev pub with_body : Parser (Bool × List Item)
  with_body = body with_item

  unfoldable pub parts : Parser Item → Parser Parts
  parts item = seq (flag k.Distinct) (seq (body item) tail)

  abbrev pub return_parts : Parser Parts
  return_parts = parts return_item

  abbrev pub with_parts : Parser Parts
  with_parts = parts with_item

  unfoldable pub returned : Parser Projection
  returned = map_out (projection_of None) (parts return_item)

  unfoldable pub passed : Parser Projection
  passed = map_out (λ p. projection_of p.1 p.0) (seq (parts with_item) (filter e))
