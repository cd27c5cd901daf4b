-- The parsers of patterns, each beside its rule of the grammar.
use Rattle.std.specs.Prelude.{ℕ, List, [], ◌∷◌, Option, Some, None}
use Rattle.cypher_syntax.specs.declared.tree.expr.Expr.{Expr}
use Rattle.cypher_syntax.specs.declared.tree.pattern.Arrow.TheVariants as arrow
use Rattle.cypher_syntax.specs.declared.tree.pattern.EdgePattern.{EdgePattern}
use Rattle.cypher_syntax.specs.declared.tree.pattern.NodePattern.{NodePattern}
use Rattle.cypher_syntax.specs.declared.tree.pattern.Pattern.{Pattern}
use Rattle.cypher_parse.specs.declared.kind.Kind.TheVariants as k
use Rattle.cypher_parse.specs.declared.kinds.TheConstants.{NAMES}
use Rattle.cypher_parse.specs.ExpressionParsers.{name, schema, flag, labels_more}
use Rattle.cypher_parse.specs.Parsers.{Parser, seq, map_out, after, before, alt, opt, unless, many, listed}
use Rattle.cypher_parse.specs.Patterns.{Properties, Details, node_of, edge_of, right_or_neither, pattern_of}

unfoldable pub name_or_none : Parser (Option (List ℕ))
name_or_none = opt NAMES None (map_out Some name)

abbrev pub another_kind : Parser (List ℕ)
another_kind = after (k.Bar ∷ []) (map_out (λ p. p.1) (seq (flag k.Colon) schema))

unfoldable pub kinds_more : Parser (List (List ℕ))
kinds_more = many (k.Bar ∷ []) another_kind

unfoldable pub kinds_or_none : Parser (List (List ℕ))
kinds_or_none = opt (k.Colon ∷ []) [] (map_out (λ p. p.0 ∷ p.1) (seq (after (k.Colon ∷ []) schema) kinds_more))

module _ (e : Parser Expr) where
  unfoldable pub entry : Parser (List ℕ × Expr)
  entry = seq schema (after (k.Colon ∷ []) e)

  unfoldable pub entries : Parser (List (List ℕ × Expr))
  entries = listed (k.Comma ∷ []) entry

  unfoldable pub property_map : Parser (List (List ℕ × Expr))
  unfolding entries
  property_map = after (k.LeftBrace ∷ []) (before (unless (k.RightBrace ∷ []) [] entries) (k.RightBrace ∷ []))

  unfoldable pub map_or_none : Parser Properties
  map_or_none = opt (k.LeftBrace ∷ []) None (map_out Some property_map)

  unfoldable pub node : Parser NodePattern
  node = map_out node_of (after (k.LeftParen ∷ []) (before (seq name_or_none (seq labels_more map_or_none)) (k.RightParen ∷ [])))

  unfoldable pub inner : Parser Details
  inner = opt (k.LeftBracket ∷ []) (None, ([], None)) (after (k.LeftBracket ∷ []) (before (seq name_or_none (seq kinds_or_none map_or_none)) (k.RightBracket ∷ [])))

  unfoldable pub edge : Parser EdgePattern
  edge =
      alt (k.Less ∷ []) (map_out (edge_of arrow.Left) (after (k.Less ∷ []) (after (k.Minus ∷ []) (before inner (k.Minus ∷ [])))))
      (map_out right_or_neither (after (k.Minus ∷ []) (seq (before inner (k.Minus ∷ [])) (flag k.Greater))))

  unfoldable pub path_step : Parser (EdgePattern × NodePattern)
  path_step = seq edge node

  unfoldable pub path_more : Parser (List (EdgePattern × NodePattern))
  path_more = many (k.Less ∷ k.Minus ∷ []) path_step

  unfoldable pub path : Parser Pattern
  path = map_out pattern_of (seq node path_more)

  unfoldable pub new_inner : Parser Details
  new_inner = after (k.LeftBracket ∷ []) (before (seq name_or_none (seq (map_out (λ kind. kind ∷ []) (after (k.Colon ∷ []) schema)) map_or_none)) (k.RightBracket ∷ []))

  unfoldable pub new_edge : Parser EdgePattern
  new_edge =
      alt (k.Less ∷ []) (map_out (edge_of arrow.Left) (after (k.Less ∷ []) (after (k.Minus ∷ []) (before new_inner (k.Minus ∷ [])))))
      (map_out (edge_of arrow.Right) (after (k.Minus ∷ []) (before (before new_inner (k.Minus ∷ [])) (k.Greater ∷ []))))

  unfoldable pub new_step : Parser (EdgePattern × NodePattern)
  new_step = seq new_edge node

  unfoldable pub new_more : Parser (List (EdgePattern × NodePattern))
  new_more = many (k.Less ∷ k.Minus ∷ []) new_step

  unfoldable pub new_path : Parser Pattern
  new_path = map_out pattern_of (seq node new_more)
