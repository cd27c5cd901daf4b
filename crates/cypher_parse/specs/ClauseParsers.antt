-- The parsers of clauses, each beside its rule of the grammar.
use Rattle.std.specs.Prelude.{ℕ, List, [], ◌∷◌, Option, Some, None}
use Rattle.cypher_syntax.specs.declared.tree.clause.Clause.{Clause}
use Rattle.cypher_syntax.specs.declared.tree.clause.Clause.TheVariants as clause
use Rattle.cypher_syntax.specs.declared.tree.clause.RemoveItem.{RemoveItem}
use Rattle.cypher_syntax.specs.declared.tree.clause.RemoveItem.TheVariants as remove
use Rattle.cypher_syntax.specs.declared.tree.clause.SetItem.{SetItem}
use Rattle.cypher_syntax.specs.declared.tree.clause.SetItem.TheVariants as set
use Rattle.cypher_syntax.specs.declared.tree.clause.Update.TheVariants as update
use Rattle.cypher_syntax.specs.declared.tree.expr.Expr.{Expr}
use Rattle.cypher_syntax.specs.declared.tree.pattern.Pattern.{Pattern}
use Rattle.cypher_parse.specs.declared.kind.Kind.TheVariants as k
use Rattle.cypher_parse.specs.Clauses.{match_of, unwind_of, delete_of}
use Rattle.cypher_parse.specs.ExpressionParsers.{name, schema, flag, labels}
use Rattle.cypher_parse.specs.Parsers.{Parser, seq, map_out, after, alt, opt, listed}
use Rattle.cypher_parse.specs.PatternParsers.{path, new_path}

-- the first part, given to what the second makes of it
abbrev pub given : {A D : Type 0} → A × (A → D) → D
given p = p.1 p.0

unfoldable pub remove_item : Parser RemoveItem
remove_item = map_out given (seq name (alt (k.Point ∷ []) (map_out (λ key n. remove.Prop n key) (after (k.Point ∷ []) schema)) (map_out (λ ls n. remove.Labels n ls) labels)))

unfoldable pub remove_items : Parser (List RemoveItem)
remove_items = listed (k.Comma ∷ []) remove_item

unfoldable pub remove_clause : Parser Clause
remove_clause = map_out (λ items. clause.Update (update.Remove items)) (after (k.Remove ∷ []) remove_items)

unfoldable pub names : Parser (List (List ℕ))
names = listed (k.Comma ∷ []) name

unfoldable pub delete : Parser Clause
delete = map_out delete_of (seq (flag k.Detach) (after (k.Delete ∷ []) names))

module _ (e : Parser Expr) where
  unfoldable pub filter : Parser (Option Expr)
  filter = opt (k.Where ∷ []) None (map_out Some (after (k.Where ∷ []) e))

  unfoldable pub paths : Parser (List Pattern)
  paths = listed (k.Comma ∷ []) (path e)

  unfoldable pub match_clause : Parser Clause
  match_clause = map_out match_of (seq (flag k.Optional) (after (k.Match ∷ []) (seq paths filter)))

  unfoldable pub unwind : Parser Clause
  unwind = map_out unwind_of (after (k.Unwind ∷ []) (seq e (after (k.As ∷ []) name)))

  unfoldable pub reading : Parser Clause
  unfolding unwind match_clause paths
  reading = alt (k.Unwind ∷ []) unwind match_clause

  unfoldable pub set_item : Parser SetItem
  set_item = map_out given (seq name (alt (k.Point ∷ []) (map_out (λ p n. set.Prop n p.0 p.1) (after (k.Point ∷ []) (seq schema (after (k.Equal ∷ []) e)))) (map_out (λ ls n. set.Labels n ls) labels)))

  unfoldable pub set_items : Parser (List SetItem)
  set_items = listed (k.Comma ∷ []) set_item

  unfoldable pub set_clause : Parser Clause
  set_clause = map_out (λ items. clause.Update (update.Set items)) (after (k.Set ∷ []) set_items)

  unfoldable pub new_paths : Parser (List Pattern)
  new_paths = listed (k.Comma ∷ []) (new_path e)

  unfoldable pub create : Parser Clause
  create = map_out (λ ps. clause.Update (update.Create ps)) (after (k.Create ∷ []) new_paths)

  unfoldable pub updating : Parser Clause
  unfolding create new_paths set_clause set_items remove_clause remove_items delete names
  updating = alt (k.Create ∷ []) create (alt (k.Set ∷ []) set_clause (alt (k.Remove ∷ []) remove_clause delete))
