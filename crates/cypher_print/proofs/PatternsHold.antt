-- The patterns that a text's tokens give are such as are read from their printed form.
use Rattle.std.proofs.Common.{[], ◌∷◌, Some, None}
use Rattle.cypher_syntax.specs.declared.tree.expr.Expr.{Expr}
use Rattle.cypher_syntax.specs.declared.tree.pattern.Arrow.TheVariants as arrow
use Rattle.cypher_parse.specs.declared.kind.Kind.TheVariants as k
use Rattle.cypher_parse.specs.declared.kinds.TheConstants.{NAMES, SCHEMA_NAMES}
use Rattle.cypher_parse.specs.Languages.{Lang}
use Rattle.cypher_parse.specs.Expressions.{Name, Schema}
use Rattle.cypher_parse.specs.Patterns.{Details, node_of, edge_of, right_or_neither, pattern_of, NameOrNone, LabelsOrNone, Kinds, Entry, PropertyMap, MapOrNone, Node, Inner, Edge, Path, NewInner, NewEdge, NewPath}
use Rattle.cypher_print.specs.Sentences.{All, IsName, IsNameOrNone, IsReadIn, IsEntry, IsMapOrNone, IsVertex, IsEdge, IsPattern}
use Rattle.cypher_print.specs.QuerySentences.{IsOneKind, IsNewEdge, IsNewPattern}
use Rattle.cypher_print.proofs.Holds.{Holds, weaker, anything, of_seq, of_map, of_after, of_before, of_alt, of_opt, of_many, of_chain, of_listed, of_name}

pub name : Holds Name IsName
name = of_name NAMES

pub schema : Holds Schema IsName
schema = of_name SCHEMA_NAMES

name_or_none : Holds NameOrNone IsNameOrNone
name_or_none = of_opt None tt (of_map Some IsNameOrNone (λ n is. is) name)

labels : Holds LabelsOrNone (All IsName)
labels = of_many (of_after (k.Colon ∷ []) schema)

kinds : Holds Kinds (All IsName)
kinds = of_map (λ p. p.0 ∷ p.1) (All IsName) (λ p h. (h.0, h.1))
    (of_chain (of_after (k.Colon ∷ []) schema) (of_after (k.Bar ∷ []) (of_map (λ p. p.1) IsName (λ p h. h.1) (of_seq anything schema))))

module _ (E : Lang Expr) (x : Holds E (IsReadIn E)) where
  entry : Holds (Entry E) (IsEntry E)
  entry = weaker (λ p h. (h.0, h.1)) (of_seq schema (of_after (k.Colon ∷ []) x))

  map_or_none : Holds (MapOrNone E) (IsMapOrNone E)
  unfolding PropertyMap
  map_or_none =
      of_opt None tt (of_map Some (IsMapOrNone E) (λ ps h. h)
      (of_after (k.LeftBrace ∷ []) (of_before (k.RightBrace ∷ []) (of_opt [] tt (weaker (λ ps h. h.1) (of_listed (k.Comma ∷ []) entry))))))

  pub vertex : Holds (Node E) (IsVertex E)
  unfolding Node
  vertex = of_map node_of (IsVertex E) (λ p h. (h.0, h.1.0, h.1.1))
      (of_after (k.LeftParen ∷ []) (of_before (k.RightParen ∷ []) (of_seq name_or_none (of_seq labels map_or_none))))

  abbrev AreDetails : Details → Type 0
  AreDetails p = IsNameOrNone p.0 × (All IsName p.1.0 × IsMapOrNone E p.1.1)

  inner : Holds (Inner E) AreDetails
  unfolding Inner
  inner = of_opt (None, ([], None)) (tt, (tt, tt))
      (of_after (k.LeftBracket ∷ []) (of_before (k.RightBracket ∷ []) (of_seq name_or_none (of_seq (of_opt [] tt kinds) map_or_none))))

  edge : Holds (Edge E) (IsEdge E)
  unfolding Edge
  edge =
      of_alt (of_map (edge_of arrow.Left) (IsEdge E) (λ p h. (h.0, h.1.0, h.1.1)) (of_after (k.Less ∷ []) (of_after (k.Minus ∷ []) (of_before (k.Minus ∷ []) inner))))
      (of_map right_or_neither (IsEdge E) (λ p h. (h.0.0, h.0.1.0, h.0.1.1)) (of_after (k.Minus ∷ []) (of_seq (of_before (k.Minus ∷ []) inner) anything)))

  pub pattern : Holds (Path E) (IsPattern E)
  unfolding Path
  pattern = of_map pattern_of (IsPattern E) (λ p h. (h.0, h.1)) (of_chain vertex (weaker (λ s h. (h.0, h.1)) (of_seq edge vertex)))

  -- ---- of CREATE

  abbrev AreNewDetails : Details → Type 0
  AreNewDetails p = IsNameOrNone p.0 × (IsOneKind p.1.0 × IsMapOrNone E p.1.1)

  new_inner : Holds (NewInner E) AreNewDetails
  unfolding NewInner
  new_inner = of_after (k.LeftBracket ∷ []) (of_before (k.RightBracket ∷ []) (of_seq name_or_none (of_seq (of_map (λ kind. kind ∷ []) IsOneKind (λ n is. is) (of_after (k.Colon ∷ []) schema)) map_or_none)))

  new_edge : Holds (NewEdge E) (IsNewEdge E)
  unfolding NewEdge
  new_edge =
      of_alt (of_map (edge_of arrow.Left) (IsNewEdge E) (λ p h. (h.0, h.1.0, tt, h.1.1)) (of_after (k.Less ∷ []) (of_after (k.Minus ∷ []) (of_before (k.Minus ∷ []) new_inner))))
      (of_map (edge_of arrow.Right) (IsNewEdge E) (λ p h. (h.0, h.1.0, tt, h.1.1)) (of_after (k.Minus ∷ []) (of_before (k.Greater ∷ []) (of_before (k.Minus ∷ []) new_inner))))

  pub new_pattern : Holds (NewPath E) (IsNewPattern E)
  unfolding NewPath
  new_pattern = of_map pattern_of (IsNewPattern E) (λ p h. (h.0, h.1)) (of_chain vertex (weaker (λ s h. (h.0, h.1)) (of_seq new_edge vertex)))
