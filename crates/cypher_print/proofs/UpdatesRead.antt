-- Printed clauses that write are read as these clauses.
use Rattle.std.proofs.Common.{inl, inr, Bool, true, false, [], ◌∷◌, ◌++◌, codes, refl}
use Rattle.cypher_syntax.specs.declared.tree.expr.Expr.{Expr}
use Rattle.cypher_syntax.specs.declared.tree.clause.Clause.TheVariants as clause
use Rattle.cypher_syntax.specs.declared.tree.clause.Update.{Update}
use Rattle.cypher_syntax.specs.declared.tree.clause.Update.TheVariants as update
use Rattle.cypher_syntax.specs.declared.tree.clause.SetItem.{SetItem}
use Rattle.cypher_syntax.specs.declared.tree.clause.SetItem.TheVariants as set
use Rattle.cypher_syntax.specs.declared.tree.clause.RemoveItem.{RemoveItem}
use Rattle.cypher_syntax.specs.declared.tree.clause.RemoveItem.TheVariants as remove
use Rattle.cypher_parse.specs.declared.kind.Kind.TheVariants as k
use Rattle.cypher_parse.specs.Languages.{Lang}
use Rattle.cypher_parse.specs.Expressions.{Flag}
use Rattle.cypher_parse.specs.Clauses.{Set, Create, SetClause, Remove, RemoveClause, Delete, Updating}
use Rattle.cypher_print.specs.Pieces.{schema, name}
use Rattle.cypher_print.specs.Printed.{expr}
use Rattle.cypher_print.specs.QueryText.{pattern, set_item, remove_item, detach_word, update_text}
use Rattle.cypher_print.specs.Sentences.{IsName}
use Rattle.cypher_print.specs.QuerySentences.{IsNewPattern, IsSetItem, IsRemoveItem, IsUpdate}
use Rattle.cypher_print.proofs.Sentences.{no_token}
use Rattle.cypher_print.proofs.PiecesRead.{Read, Sure, begins, seq, seq_sure, after_sure, via, via_sure, regrouped, left, right}
use Rattle.cypher_print.proofs.WordsRead.{create, set as set_word, remove as remove_word, detach, delete, equal}
use Rattle.cypher_print.proofs.PartsRead.{a_name, a_schema, some_labels, labels_apart, dotless_schema, dotless_both, after_point, commas, an_expr}
use Rattle.cypher_print.proofs.NewEdgesRead.{new_pattern}

-- ---- items and clauses

remove_item_read : (i : RemoveItem) → IsRemoveItem i → Read Remove i (remove_item i)
unfolding Remove
remove_item_read (remove.Prop n key) is = left (via (λ ts u. ((n, key), u, refl)) (seq (a_name n is.0) (after_point (dotless_schema key) (a_schema key is.1)) (begins 46 [] (schema key) refl)))
remove_item_read (remove.Labels n ls) is = right (via (λ ts u. ((n, ls), u, refl)) (seq (a_name n is.0) (some_labels ls is.1) (labels_apart ls is.1.1)))

detach_read : (b : Bool) → Sure (Flag k.Detach) b (detach_word b)
detach_read true = via_sure (λ ts u. inl (u.0, (u.1, u.2), refl)) detach.token
detach_read false = record { reads = λ behind. no_token (Flag k.Detach) false behind (inr (refl, refl)) }

module _ (E : Lang Expr) where
  set_item_read : (i : SetItem) → IsSetItem E i → Read (Set E) i (set_item i)
  unfolding Set
  set_item_read (set.Prop n key x) is =
      left (via (λ ts u. ((n, (key, x)), u, refl)) (regrouped (name n) (codes "." ∷ schema key) (codes " = " ∷ expr x 0)
      (seq (a_name n is.0)
      (after_point (dotless_both (codes " = " ∷ expr x 0) (dotless_schema key)) (seq (a_schema key is.1) (after_sure equal (an_expr E x is.2)) (begins 32 (61 ∷ 32 ∷ []) (expr x 0) refl)))
      (begins 46 [] (schema key ++ codes " = " ∷ expr x 0) refl))))
  set_item_read (set.Labels n ls) is = right (via (λ ts u. ((n, ls), u, refl)) (seq (a_name n is.0) (some_labels ls is.1) (labels_apart ls is.1.1)))

  pub updating : (u : Update) → IsUpdate E u → Read (Updating E) (clause.Update u) (update_text u)
  unfolding Create SetClause RemoveClause Delete
  updating (update.Create ps) is = left (via (λ ts u. (ps, u, refl)) (after_sure create (commas pattern (IsNewPattern E) (λ p h. record { reads = λ behind _. new_pattern E p behind h }) ps is)))
  updating (update.Set items) is = right (left (via (λ ts u. (items, u, refl)) (after_sure set_word (commas set_item (IsSetItem E) set_item_read items is))))
  updating (update.Remove items) is = right (right (left (via (λ ts u. (items, u, refl)) (after_sure remove_word (commas remove_item IsRemoveItem remove_item_read items is)))))
  updating (update.Delete d names) is = right (right (right (via (λ ts u. ((d, names), u, refl)) (seq_sure (detach_read d) (after_sure delete (commas name IsName a_name names is))))))
