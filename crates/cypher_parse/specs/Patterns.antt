-- The grammar of patterns, over a language of expressions.
use Rattle.std.specs.Prelude.{ℕ, Bool, if◌then◌else◌, List, [], ◌∷◌, Option, Some, None}
use Rattle.cypher_syntax.specs.declared.tree.expr.Expr.{Expr}
use Rattle.cypher_syntax.specs.declared.tree.pattern.Arrow.{Arrow}
use Rattle.cypher_syntax.specs.declared.tree.pattern.Arrow.TheVariants as arrow
use Rattle.cypher_syntax.specs.declared.tree.pattern.EdgePattern.{EdgePattern}
use Rattle.cypher_syntax.specs.declared.tree.pattern.NodePattern.{NodePattern}
use Rattle.cypher_syntax.specs.declared.tree.pattern.Pattern.{Pattern}
use Rattle.cypher_parse.specs.declared.kind.Kind.TheVariants as k
use Rattle.cypher_parse.specs.Expressions.{Name, Schema, Flag}
use Rattle.cypher_parse.specs.Languages.{Lang, Seq, Map, After, Before, Alt, Opt, Many, Chain, Listed}

-- ---- the nodes of the tree

abbrev pub Properties : Type 0
Properties = Option (List (List ℕ × Expr))

abbrev pub Details : Type 0
Details = Option (List ℕ) × (List (List ℕ) × Properties)

abbrev pub node_of : Details → NodePattern
node_of p = record { name = p.0; labels = p.1.0; map = p.1.1 }

abbrev pub edge_of : Arrow → Details → EdgePattern
edge_of a p = record { name = p.0; kinds = p.1.0; arrow = a; map = p.1.1 }

abbrev pub right_or_neither : Details × Bool → EdgePattern
right_or_neither p = edge_of (if p.1 then arrow.Right else arrow.Neither) p.0

abbrev pub pattern_of : NodePattern × List (EdgePattern × NodePattern) → Pattern
pattern_of p = record { first = p.0; steps = p.1 }

-- ---- the rules

abbrev pub NameOrNone : Lang (Option (List ℕ))
NameOrNone = Opt None (Map Some Name)

abbrev pub LabelsOrNone : Lang (List (List ℕ))
LabelsOrNone = Many (After (k.Colon ∷ []) Schema)

-- the kinds of an edge, between bars
abbrev pub Kinds : Lang (List (List ℕ))
Kinds = Map (λ p. p.0 ∷ p.1) (Chain (After (k.Colon ∷ []) Schema) (After (k.Bar ∷ []) (Map (λ p. p.1) (Seq (Flag k.Colon) Schema))))

module _ (E : Lang Expr) where
  abbrev pub Entry : Lang (List ℕ × Expr)
  Entry = Seq Schema (After (k.Colon ∷ []) E)

  unfoldable pub PropertyMap : Lang (List (List ℕ × Expr))
  PropertyMap = After (k.LeftBrace ∷ []) (Before (Opt [] (Listed (k.Comma ∷ []) Entry)) (k.RightBrace ∷ []))

  abbrev pub MapOrNone : Lang Properties
  MapOrNone = Opt None (Map Some PropertyMap)

  unfoldable pub Node : Lang NodePattern
  Node = Map node_of (After (k.LeftParen ∷ []) (Before (Seq NameOrNone (Seq LabelsOrNone MapOrNone)) (k.RightParen ∷ [])))

  -- what stands between the dashes of an edge that is sought
  unfoldable pub Inner : Lang Details
  Inner = Opt (None, ([], None)) (After (k.LeftBracket ∷ []) (Before (Seq NameOrNone (Seq (Opt [] Kinds) MapOrNone)) (k.RightBracket ∷ [])))

  unfoldable pub Edge : Lang EdgePattern
  Edge =
      Alt (Map (edge_of arrow.Left) (After (k.Less ∷ []) (After (k.Minus ∷ []) (Before Inner (k.Minus ∷ [])))))
      (Map right_or_neither (After (k.Minus ∷ []) (Seq (Before Inner (k.Minus ∷ [])) (Flag k.Greater))))

  unfoldable pub Path : Lang Pattern
  Path = Map pattern_of (Chain Node (Seq Edge Node))

  -- what stands between the dashes of an edge that is made: it has one kind
  unfoldable pub NewInner : Lang Details
  NewInner = After (k.LeftBracket ∷ []) (Before (Seq NameOrNone (Seq (Map (λ kind. kind ∷ []) (After (k.Colon ∷ []) Schema)) MapOrNone)) (k.RightBracket ∷ []))

  unfoldable pub NewEdge : Lang EdgePattern
  NewEdge =
      Alt (Map (edge_of arrow.Left) (After (k.Less ∷ []) (After (k.Minus ∷ []) (Before NewInner (k.Minus ∷ [])))))
      (Map (edge_of arrow.Right) (After (k.Minus ∷ []) (Before (Before NewInner (k.Minus ∷ [])) (k.Greater ∷ []))))

  unfoldable pub NewPath : Lang Pattern
  NewPath = Map pattern_of (Chain Node (Seq NewEdge Node))
