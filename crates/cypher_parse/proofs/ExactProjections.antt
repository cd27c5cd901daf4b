-- The parsers of projections are exact where that of expressions is.
use Rattle.std.proofs.Common.{unsigned_abs, Bool, true, false, List, [], ◌∷◌, ◌++◌, Some, None, refl}
use Rattle.cypher_syntax.specs.declared.tree.expr.Expr.{Expr}
use Rattle.cypher_syntax.specs.declared.tree.projection.Item.{Item}
use Rattle.cypher_parse.specs.declared.kind.Kind.{Kind}
use Rattle.cypher_parse.specs.declared.kind.Kind.TheVariants as k
use Rattle.cypher_parse.specs.Languages.{Lang}
use Rattle.cypher_parse.specs.Parsers.{Parser}
use Rattle.cypher_parse.specs.Projections.{item_of, sort_of, projection_of, Number, Count, Direction, SortItem, Tail, Parted, ReturnItem, WithItem, Returned, Passed}
use Rattle.cypher_parse.specs.ProjectionParsers.{number, counted, direction, alias, sort, sorts, sorts_or_none, tail, return_item, with_item, body, parts, returned, passed}
use Rattle.cypher_parse.proofs.Exact.{Shape, one_shape, seq_shape}
use Rattle.cypher_parse.proofs.Tied.{Tied, tied_one, tied_seq, tied_map, tied_alt, tied_within, tied_after, tied_opt, tied_listed}
use Rattle.cypher_parse.proofs.Expressions.{or_shape, tied_name, tied_integer, tied_flag}
use Rattle.cypher_parse.proofs.ExactClauses.{tied_where, where_shape}

pub tied_number : {b : Bool} → Tied b Number Number number number (one_shape (k.Integer ∷ []))
unfolding number
tied_number = tied_map unsigned_abs tied_integer

tied_skip : Tied true (Count k.Skip) (Count k.Skip) (counted k.Skip) (counted k.Skip) (record { first = k.Skip ∷ []; empty = true; more = k.Skip ∷ [] })
unfolding counted
tied_skip = tied_within (record { first = k.Skip ∷ []; empty = true; more = k.Skip ∷ [] }) (tied_opt (k.Skip ∷ []) None (tied_map Some (tied_after k.Skip [] tied_number)) refl refl) refl refl refl

tied_limit : Tied true (Count k.Limit) (Count k.Limit) (counted k.Limit) (counted k.Limit) (record { first = k.Limit ∷ []; empty = true; more = k.Limit ∷ [] })
unfolding counted
tied_limit = tied_within (record { first = k.Limit ∷ []; empty = true; more = k.Limit ∷ [] }) (tied_opt (k.Limit ∷ []) None (tied_map Some (tied_after k.Limit [] tied_number)) refl refl) refl refl refl

abbrev directions : List Kind
directions = k.Asc ∷ k.Ascending ∷ k.Desc ∷ k.Descending ∷ []

tied_direction : Tied true Direction Direction direction direction (record { first = directions; empty = true; more = directions })
unfolding direction
tied_direction = tied_within (record { first = directions; empty = true; more = directions })
    (tied_alt (k.Asc ∷ k.Ascending ∷ []) (tied_map (λ t. false) (tied_one k.Asc (k.Ascending ∷ []))) (tied_opt (k.Desc ∷ k.Descending ∷ []) false (tied_map (λ t. true) (tied_one k.Desc (k.Descending ∷ []))) refl refl) refl refl refl)
    refl refl refl

abbrev behind_tail : List Kind
behind_tail = k.Order ∷ k.Skip ∷ k.Limit ∷ k.Comma ∷ directions ++ or_shape.more

abbrev tail_shape : Shape
tail_shape = record { first = k.Order ∷ k.Skip ∷ k.Limit ∷ []; empty = true; more = behind_tail }

abbrev pub item_shape : Shape
item_shape = record { first = or_shape.first; empty = false; more = k.As ∷ or_shape.more }

abbrev pub parts_shape : Shape
parts_shape = record { first = k.Distinct ∷ k.Star ∷ or_shape.first; empty = false; more = k.As ∷ behind_tail }

module _ (E E' : Lang Expr) (e e' : Parser Expr) (TE : Tied true E E' e e' or_shape) where
  pub tied_sort : Tied true (SortItem E) (SortItem E') (sort e) (sort e') (record { first = or_shape.first; empty = false; more = directions ++ or_shape.more })
  unfolding SortItem sort
  tied_sort = tied_within (record { first = or_shape.first; empty = false; more = directions ++ or_shape.more }) (tied_map sort_of (tied_seq TE tied_direction refl)) refl refl refl

  tied_tail : Tied true (Tail E) (Tail E') (tail e) (tail e') tail_shape
  unfolding tail sorts_or_none sorts
  tied_tail = tied_within tail_shape
      (tied_seq (tied_opt (k.Order ∷ []) [] (tied_after k.Order [] (tied_after k.By [] (tied_listed k.Comma tied_sort refl refl refl))) refl refl) (tied_seq tied_skip tied_limit refl) refl)
      refl refl refl

  pub tied_return_item : Tied true (ReturnItem E) (ReturnItem E') (return_item e) (return_item e') item_shape
  unfolding ReturnItem return_item alias
  tied_return_item = tied_within item_shape (tied_map item_of (tied_seq TE (tied_opt (k.As ∷ []) None (tied_map Some (tied_after k.As [] tied_name)) refl refl) refl)) refl refl refl

  tied_parts : {W W' : Lang Item} {w w' : Parser Item} → Tied true W W' w w' item_shape → Tied true (Parted E W) (Parted E' W') (parts e w) (parts e' w') parts_shape
  unfolding parts body
  tied_parts T = tied_within parts_shape
      (tied_seq (tied_flag k.Distinct refl) (tied_seq (tied_alt (k.Star ∷ []) (tied_map (λ t. (true, [])) (tied_one k.Star [])) (tied_map (λ items. (false, items)) (tied_listed k.Comma T refl refl refl)) refl refl refl) tied_tail refl) refl)
      refl refl refl

  pub tied_returned : Tied true (Returned E) (Returned E') (returned e) (returned e') parts_shape
  unfolding Returned returned
  tied_returned = tied_map (projection_of None) (tied_parts tied_return_item)

  pub tied_passed : Tied true (WithItem E) (WithItem E') (with_item e) (with_item e') item_shape → Tied true (Passed E) (Passed E') (passed e) (passed e') (seq_shape parts_shape where_shape)
  unfolding Passed passed
  tied_passed W = tied_map (λ p. projection_of p.1 p.0) (tied_seq (tied_parts W) (tied_where E E' e e' TE) refl)
