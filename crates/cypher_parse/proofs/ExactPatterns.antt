-- The parsers of patterns are exact where that of expressions is.
use Rattle.std.proofs.Common.{true, false, [], ◌∷◌, Some, None, refl}
use Rattle.cypher_syntax.specs.declared.tree.expr.Expr.{Expr}
use Rattle.cypher_syntax.specs.declared.tree.pattern.Arrow.TheVariants as arrow
use Rattle.cypher_parse.specs.declared.kind.Kind.TheVariants as k
use Rattle.cypher_parse.specs.declared.kinds.TheConstants.{NAMES, SCHEMA_NAMES}
use Rattle.cypher_parse.specs.Languages.{Lang, Seq, Opt, Map, After}
use Rattle.cypher_parse.specs.Parsers.{Parser}
use Rattle.cypher_parse.specs.ExpressionParsers.{labels_more}
use Rattle.cypher_parse.specs.Expressions.{Flag, Schema}
use Rattle.cypher_parse.specs.Patterns.{node_of, edge_of, right_or_neither, pattern_of, NameOrNone, LabelsOrNone, Kinds, Entry, PropertyMap, MapOrNone, Node, Inner, Edge, Path, NewInner, NewEdge, NewPath}
use Rattle.cypher_parse.specs.PatternParsers.{name_or_none, another_kind, kinds_more, kinds_or_none, entry, entries, property_map, map_or_none, node, inner, edge, path_step, path_more, path, new_inner, new_edge, new_step, new_more, new_path}
use Rattle.cypher_parse.proofs.Exact.{Shape, one_shape, seq_shape}
use Rattle.cypher_parse.proofs.Tied.{Tied, tied_one, tied_seq, tied_map, tied_alt, tied_many, tied_within, tied_after, tied_before, tied_opt, tied_chain, tied_listed, tied_unless, after_shape}
use Rattle.cypher_parse.proofs.Expressions.{or_shape, tied_name, tied_schema, tied_flag}

abbrev pub name_shape : Shape
name_shape = record { first = NAMES; empty = true; more = NAMES }

tied_name_or_none : Tied true NameOrNone NameOrNone name_or_none name_or_none name_shape
unfolding name_or_none
tied_name_or_none = tied_within name_shape (tied_opt NAMES None (tied_map Some tied_name) refl refl) refl refl refl

abbrev pub labels_shape : Shape
labels_shape = record { first = k.Colon ∷ []; empty = true; more = k.Colon ∷ [] }

tied_labels_or_none : Tied true LabelsOrNone LabelsOrNone labels_more labels_more labels_shape
unfolding labels_more
tied_labels_or_none = tied_within labels_shape (tied_many (k.Colon ∷ []) (tied_after k.Colon [] tied_schema) refl refl refl) refl refl refl

abbrev kinds_shape : Shape
kinds_shape = record { first = k.Colon ∷ []; empty = true; more = k.Colon ∷ k.Bar ∷ [] }

tied_kinds : Tied true (Opt [] Kinds) (Opt [] Kinds) kinds_or_none kinds_or_none kinds_shape
unfolding kinds_or_none kinds_more
tied_kinds = tied_within kinds_shape
    (tied_opt (k.Colon ∷ []) [] (tied_map (λ p. p.0 ∷ p.1) (tied_chain (k.Bar ∷ []) (tied_after k.Colon [] tied_schema) (tied_after k.Bar [] (tied_map (λ p. p.1) (tied_seq (tied_flag k.Colon refl) tied_schema refl))) refl refl refl refl)) refl refl)
    refl refl refl

pub tied_another_kind : Tied true (After (k.Bar ∷ []) (Map (λ p. p.1) (Seq (Flag k.Colon) Schema))) (After (k.Bar ∷ []) (Map (λ p. p.1) (Seq (Flag k.Colon) Schema))) another_kind another_kind (record { first = k.Bar ∷ []; empty = false; more = [] })
tied_another_kind = tied_within (record { first = k.Bar ∷ []; empty = false; more = [] }) (tied_after k.Bar [] (tied_map (λ p. p.1) (tied_seq (tied_flag k.Colon refl) tied_schema refl))) refl refl refl

abbrev brace_shape : Shape
brace_shape = record { first = k.LeftBrace ∷ []; empty = false; more = [] }

abbrev brace_or_none : Shape
brace_or_none = record { first = k.LeftBrace ∷ []; empty = true; more = k.LeftBrace ∷ [] }

abbrev pub node_shape : Shape
node_shape = record { first = k.LeftParen ∷ []; empty = false; more = [] }

abbrev inner_shape : Shape
inner_shape = record { first = k.LeftBracket ∷ []; empty = true; more = k.LeftBracket ∷ [] }

abbrev edge_shape : Shape
edge_shape = record { first = k.Less ∷ k.Minus ∷ []; empty = false; more = k.Greater ∷ [] }

abbrev pub path_shape : Shape
path_shape = record { first = k.LeftParen ∷ []; empty = false; more = k.Less ∷ k.Minus ∷ [] }

module _ (E E' : Lang Expr) (e e' : Parser Expr) (TE : Tied true E E' e e' or_shape) where
  pub tied_entry : Tied true (Entry E) (Entry E') (entry e) (entry e') (seq_shape (one_shape SCHEMA_NAMES) (after_shape (k.Colon ∷ []) or_shape))
  unfolding entry
  tied_entry = tied_seq tied_schema (tied_after k.Colon [] TE) refl

  tied_property_map : Tied true (PropertyMap E) (PropertyMap E') (property_map e) (property_map e') brace_shape
  unfolding PropertyMap property_map entries
  tied_property_map = tied_within brace_shape
      (tied_after k.LeftBrace [] (tied_map (λ p. p.0) (tied_unless (k.RightBrace ∷ []) [] (tied_listed k.Comma tied_entry refl refl refl) (tied_one k.RightBrace []) refl refl refl refl)))
      refl refl refl

  tied_map_or_none : Tied true (MapOrNone E) (MapOrNone E') (map_or_none e) (map_or_none e') brace_or_none
  unfolding map_or_none
  tied_map_or_none = tied_within brace_or_none (tied_opt (k.LeftBrace ∷ []) None (tied_map Some tied_property_map) refl refl) refl refl refl

  pub tied_node : Tied true (Node E) (Node E') (node e) (node e') node_shape
  unfolding Node node
  tied_node = tied_within node_shape
      (tied_map node_of (tied_after k.LeftParen [] (tied_before k.RightParen [] (tied_seq tied_name_or_none (tied_seq tied_labels_or_none tied_map_or_none refl) refl) refl)))
      refl refl refl

  tied_inner : Tied true (Inner E) (Inner E') (inner e) (inner e') inner_shape
  unfolding Inner inner
  tied_inner = tied_within inner_shape
      (tied_opt (k.LeftBracket ∷ []) (None, ([], None)) (tied_after k.LeftBracket [] (tied_before k.RightBracket [] (tied_seq tied_name_or_none (tied_seq tied_kinds tied_map_or_none refl) refl) refl)) refl refl)
      refl refl refl

  tied_edge : Tied true (Edge E) (Edge E') (edge e) (edge e') edge_shape
  unfolding Edge edge
  tied_edge = tied_within edge_shape
      (tied_alt (k.Less ∷ []) (tied_map (edge_of arrow.Left) (tied_after k.Less [] (tied_after k.Minus [] (tied_before k.Minus [] tied_inner refl))))
      (tied_map right_or_neither (tied_after k.Minus [] (tied_seq (tied_before k.Minus [] tied_inner refl) (tied_flag k.Greater refl) refl)))
      refl refl refl)
      refl refl refl

  pub tied_path_step : Tied true (Seq (Edge E) (Node E)) (Seq (Edge E') (Node E')) (path_step e) (path_step e') (seq_shape edge_shape node_shape)
  unfolding path_step
  tied_path_step = tied_seq tied_edge tied_node refl

  pub tied_path : Tied true (Path E) (Path E') (path e) (path e') path_shape
  unfolding Path path path_more
  tied_path = tied_within path_shape (tied_map pattern_of (tied_chain (k.Less ∷ k.Minus ∷ []) tied_node tied_path_step refl refl refl refl)) refl refl refl

  tied_new_inner : Tied true (NewInner E) (NewInner E') (new_inner e) (new_inner e') (record { first = k.LeftBracket ∷ []; empty = false; more = [] })
  unfolding NewInner new_inner
  tied_new_inner = tied_within (record { first = k.LeftBracket ∷ []; empty = false; more = [] })
      (tied_after k.LeftBracket [] (tied_before k.RightBracket [] (tied_seq tied_name_or_none (tied_seq (tied_map (λ kind. kind ∷ []) (tied_after k.Colon [] tied_schema)) tied_map_or_none refl) refl) refl))
      refl refl refl

  tied_new_edge : Tied true (NewEdge E) (NewEdge E') (new_edge e) (new_edge e') edge_shape
  unfolding NewEdge new_edge
  tied_new_edge = tied_within edge_shape
      (tied_alt (k.Less ∷ []) (tied_map (edge_of arrow.Left) (tied_after k.Less [] (tied_after k.Minus [] (tied_before k.Minus [] tied_new_inner refl))))
      (tied_map (edge_of arrow.Right) (tied_after k.Minus [] (tied_before k.Greater [] (tied_before k.Minus [] tied_new_inner refl) refl)))
      refl refl refl)
      refl refl refl

  pub tied_new_step : Tied true (Seq (NewEdge E) (Node E)) (Seq (NewEdge E') (Node E')) (new_step e) (new_step e') (seq_shape edge_shape node_shape)
  unfolding new_step
  tied_new_step = tied_seq tied_new_edge tied_node refl

  pub tied_new_path : Tied true (NewPath E) (NewPath E') (new_path e) (new_path e') path_shape
  unfolding NewPath new_path new_more
  tied_new_path = tied_within path_shape (tied_map pattern_of (tied_chain (k.Less ∷ k.Minus ∷ []) tied_node tied_new_step refl refl refl refl)) refl refl refl
