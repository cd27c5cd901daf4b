-- The parsers of clauses are exact where that of expressions is.
use Rattle.std.proofs.Common.{◌≡◌, inl, inr, true, false, [], ◌∷◌, ◌++◌, Some, None, refl, ap, ◌∙◌}
use Rattle.cypher_syntax.specs.declared.tree.clause.Clause.TheVariants as clause
use Rattle.cypher_syntax.specs.declared.tree.clause.RemoveItem.TheVariants as remove
use Rattle.cypher_syntax.specs.declared.tree.clause.SetItem.TheVariants as set
use Rattle.cypher_syntax.specs.declared.tree.clause.Update.TheVariants as update
use Rattle.cypher_syntax.specs.declared.tree.expr.Expr.{Expr}
use Rattle.cypher_parse.specs.declared.kind.Kind.TheVariants as k
use Rattle.cypher_parse.specs.declared.kinds.TheConstants.{NAMES}
use Rattle.cypher_parse.specs.Languages.{Tokens, Lang, Seq, Map, Alt}
use Rattle.cypher_parse.specs.Parsers.{Parser}
use Rattle.cypher_parse.specs.Clauses.{match_of, unwind_of, delete_of, Where, Match, Unwind, Reading, Set, Create, SetClause, Remove, RemoveClause, Delete, Updating}
use Rattle.cypher_parse.specs.ClauseParsers.{given, remove_item, remove_items, remove_clause, names, delete, filter, paths, match_clause, unwind, reading, set_item, set_items, set_clause, new_paths, create, updating}
use Rattle.cypher_parse.proofs.Exact.{Shape, one_shape}
use Rattle.cypher_parse.proofs.Tied.{Tied, Same, tied_same, tied_seq, tied_map, tied_alt, tied_within, tied_after, tied_opt, tied_listed}
use Rattle.cypher_parse.proofs.Expressions.{or_shape, tied_name, tied_schema, tied_flag, tied_labels}
use Rattle.cypher_parse.proofs.ExactPatterns.{tied_path, tied_new_path}

-- ---- a common beginning

module _ {A B C D : Type 0} (L : Lang A) (M : Lang B) (N : Lang C) (f : A → B → D) (g : A → C → D) where
  abbrev Together : Lang D
  Together = Map (given {A = A} {D = D}) (Seq L (Alt (Map (λ b a. f a b) M) (Map (λ c a. g a c) N)))

  abbrev Apart : Lang D
  Apart = Alt (Map (λ p. f p.0 p.1) (Seq L M)) (Map (λ p. g p.0 p.1) (Seq L N))

  pub common : Same Together Apart
  common = record { to = λ ts d l. to ts d l.0 l.1.0 l.1.1 l.1.2 l.1.3 l.1.4 l.2; of = of }
    where
      to : (ts : Tokens) (d : D) (p : A × (A → D)) (front back : Tokens) → ts ≡ front ++ back → L front p.0 → Alt (Map (λ b a. f a b) M) (Map (λ c a. g a c) N) back p.1 → p.1 p.0 ≡ d → Apart ts d
      to ts d p front back e l (inl m) h = inl ((p.0, m.0), (front, back, e, l, m.1), ap (λ k. k p.0) m.2 ∙ h)
      to ts d p front back e l (inr n) h = inr ((p.0, n.0), (front, back, e, l, n.1), ap (λ k. k p.0) n.2 ∙ h)

      of : (ts : Tokens) (d : D) → Apart ts d → Together ts d
      of ts d (inl x) = ((x.0.0, λ a. f a x.0.1), (x.1.0, x.1.1, x.1.2, x.1.3, inl (x.0.1, x.1.4, refl)), x.2)
      of ts d (inr x) = ((x.0.0, λ a. g a x.0.1), (x.1.0, x.1.1, x.1.2, x.1.3, inr (x.0.1, x.1.4, refl)), x.2)

-- ---- the rules

abbrev pub set_shape : Shape
set_shape = record { first = NAMES; empty = false; more = k.Colon ∷ or_shape.more }

abbrev remove_shape : Shape
remove_shape = record { first = NAMES; empty = false; more = k.Colon ∷ [] }

pub tied_remove : Tied true Remove Remove remove_item remove_item remove_shape
unfolding Remove remove_item
tied_remove = tied_within remove_shape
    (tied_same (common _ _ _ _ _) (common _ _ _ _ _)
    (tied_map given (tied_seq tied_name (tied_alt (k.Point ∷ []) (tied_map (λ key n. remove.Prop n key) (tied_after k.Point [] tied_schema)) (tied_map (λ ls n. remove.Labels n ls) tied_labels) refl refl refl) refl)))
    refl refl refl

abbrev updates : Shape
updates = record { first = k.Create ∷ k.Set ∷ k.Remove ∷ k.Detach ∷ k.Delete ∷ []; empty = false; more = k.Comma ∷ k.Less ∷ k.Minus ∷ k.Colon ∷ or_shape.more }

tied_remove_clause : Tied true RemoveClause RemoveClause remove_clause remove_clause (record { first = k.Remove ∷ []; empty = false; more = k.Comma ∷ k.Colon ∷ [] })
unfolding RemoveClause remove_clause remove_items
tied_remove_clause = tied_within (record { first = k.Remove ∷ []; empty = false; more = k.Comma ∷ k.Colon ∷ [] })
    (tied_map (λ items. clause.Update (update.Remove items)) (tied_after k.Remove [] (tied_listed k.Comma tied_remove refl refl refl))) refl refl refl

tied_delete : Tied true Delete Delete delete delete (record { first = k.Detach ∷ k.Delete ∷ []; empty = false; more = k.Comma ∷ [] })
unfolding Delete delete names
tied_delete = tied_within (record { first = k.Detach ∷ k.Delete ∷ []; empty = false; more = k.Comma ∷ [] })
    (tied_map delete_of (tied_seq (tied_flag k.Detach refl) (tied_after k.Delete [] (tied_listed k.Comma tied_name refl refl refl)) refl)) refl refl refl

abbrev pub where_shape : Shape
where_shape = record { first = k.Where ∷ []; empty = true; more = k.Where ∷ or_shape.more }

module _ (E E' : Lang Expr) (e e' : Parser Expr) (TE : Tied true E E' e e' or_shape) where
  pub tied_where : Tied true (Where E) (Where E') (filter e) (filter e') where_shape
  unfolding Where filter
  tied_where = tied_within where_shape (tied_opt (k.Where ∷ []) None (tied_map Some (tied_after k.Where [] TE)) refl refl) refl refl refl

  abbrev readings : Shape
  readings = record { first = k.Unwind ∷ k.Optional ∷ k.Match ∷ []; empty = false; more = k.Where ∷ k.Comma ∷ k.Less ∷ k.Minus ∷ or_shape.more }

  tied_match : Tied true (Match E) (Match E') (match_clause e) (match_clause e') (record { first = k.Optional ∷ k.Match ∷ []; empty = false; more = k.Where ∷ k.Comma ∷ k.Less ∷ k.Minus ∷ or_shape.more })
  unfolding Match match_clause paths
  tied_match = tied_within (record { first = k.Optional ∷ k.Match ∷ []; empty = false; more = k.Where ∷ k.Comma ∷ k.Less ∷ k.Minus ∷ or_shape.more })
      (tied_map match_of (tied_seq (tied_flag k.Optional refl) (tied_after k.Match [] (tied_seq (tied_listed k.Comma (tied_path E E' e e' TE) refl refl refl) tied_where refl)) refl)) refl refl refl

  tied_unwind : Tied true (Unwind E) (Unwind E') (unwind e) (unwind e') (one_shape (k.Unwind ∷ []))
  unfolding Unwind unwind
  tied_unwind = tied_within (one_shape (k.Unwind ∷ [])) (tied_map unwind_of (tied_after k.Unwind [] (tied_seq TE (tied_after k.As [] tied_name) refl))) refl refl refl

  pub tied_reading : Tied true (Reading E) (Reading E') (reading e) (reading e') readings
  unfolding reading
  tied_reading = tied_within readings (tied_alt (k.Unwind ∷ []) tied_unwind tied_match refl refl refl) refl refl refl

  pub tied_set : Tied true (Set E) (Set E') (set_item e) (set_item e') set_shape
  unfolding Set set_item
  tied_set = tied_within set_shape
      (tied_same (common _ _ _ _ _) (common _ _ _ _ _)
      (tied_map given (tied_seq tied_name (tied_alt (k.Point ∷ []) (tied_map (λ p n. set.Prop n p.0 p.1) (tied_after k.Point [] (tied_seq tied_schema (tied_after k.Equal [] TE) refl))) (tied_map (λ ls n. set.Labels n ls) tied_labels) refl refl refl) refl)))
      refl refl refl

  tied_set_clause : Tied true (SetClause E) (SetClause E') (set_clause e) (set_clause e') (record { first = k.Set ∷ []; empty = false; more = k.Comma ∷ set_shape.more })
  unfolding SetClause set_clause set_items
  tied_set_clause = tied_within (record { first = k.Set ∷ []; empty = false; more = k.Comma ∷ set_shape.more })
      (tied_map (λ items. clause.Update (update.Set items)) (tied_after k.Set [] (tied_listed k.Comma tied_set refl refl refl))) refl refl refl

  tied_create : Tied true (Create E) (Create E') (create e) (create e') (record { first = k.Create ∷ []; empty = false; more = k.Comma ∷ k.Less ∷ k.Minus ∷ [] })
  unfolding Create create new_paths
  tied_create = tied_within (record { first = k.Create ∷ []; empty = false; more = k.Comma ∷ k.Less ∷ k.Minus ∷ [] })
      (tied_map (λ ps. clause.Update (update.Create ps)) (tied_after k.Create [] (tied_listed k.Comma (tied_new_path E E' e e' TE) refl refl refl))) refl refl refl

  pub tied_updating : Tied true (Updating E) (Updating E') (updating e) (updating e') updates
  unfolding updating
  tied_updating = tied_within updates
      (tied_alt (k.Create ∷ []) tied_create (tied_alt (k.Set ∷ []) tied_set_clause (tied_alt (k.Remove ∷ []) tied_remove_clause tied_delete refl refl refl) refl refl refl) refl refl refl)
      refl refl refl
