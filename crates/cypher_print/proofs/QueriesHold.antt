-- The query that a text's tokens give is such as is read from its printed form.
use Rattle.std.proofs.Common.{◌<◌, Bool, true, false, refl, sym, append-nil, [], ◌∷◌, ◌++◌, List, length, Option, Some, None}
use Rattle.cypher_syntax.specs.declared.tree.expr.Expr.{Expr}
use Rattle.cypher_syntax.specs.declared.tree.expr.Expr.TheVariants as tree
use Rattle.cypher_syntax.specs.declared.tree.clause.Clause.{Clause}
use Rattle.cypher_syntax.specs.declared.tree.clause.Clause.TheVariants as clause
use Rattle.cypher_syntax.specs.declared.tree.clause.Update.TheVariants as update
use Rattle.cypher_syntax.specs.declared.tree.clause.SetItem.TheVariants as set
use Rattle.cypher_syntax.specs.declared.tree.clause.RemoveItem.TheVariants as remove
use Rattle.cypher_syntax.specs.declared.tree.projection.Item.{Item}
use Rattle.cypher_syntax.specs.declared.tree.projection.Projection.{Projection}
use Rattle.cypher_syntax.specs.declared.tree.query.Time.TheVariants as time
use Rattle.cypher_parse.specs.declared.kind.Kind.{Kind}
use Rattle.cypher_parse.specs.declared.kind.Kind.TheVariants as k
use Rattle.cypher_parse.specs.Languages.{Lang}
use Rattle.cypher_parse.specs.Expressions.{Labels}
use Rattle.cypher_parse.specs.Clauses.{match_of, unwind_of, delete_of, Where, Match, Unwind, Reading, Set, Create, SetClause, Remove, RemoveClause, Delete, Updating}
use Rattle.cypher_parse.specs.Projections.{item_of, sort_of, Parts, projection_of, Count, SortItem, Parted, ReturnItem, WithItem, Returned, Passed}
use Rattle.cypher_parse.specs.Queries.{stage_of, Last, query_of, Instants, Part, Return, Ending, Whole}
use Rattle.cypher_print.specs.Sentences.{All, IsName, IsNameOrNone, IsReadIn, IsFilter, IsReading}
use Rattle.cypher_print.specs.QuerySentences.{AllSome, IsSetItem, IsRemoveItem, IsUpdating, IsReturnItem, IsWithItem, IsStarOr, IsCount, IsReturned, IsPassed, IsStage, IsEnd, IsEnding, IsTime, IsWholeQuery}
use Rattle.cypher_print.proofs.Holds.{Holds, weaker, anything, of_seq, of_map, of_after, of_alt, of_opt, of_many, of_some, of_listed, of_number}
use Rattle.cypher_print.proofs.PatternsHold.{name, schema, pattern, new_pattern}

labels : Holds Labels (AllSome IsName)
labels = of_some (of_after (k.Colon ∷ []) schema)

count : (kind : Kind) → Holds (Count kind) IsCount
count kind = of_opt None tt (of_map Some IsCount (λ n h. h) (of_after (kind ∷ []) of_number))

removed : Holds Remove IsRemoveItem
unfolding Remove
removed =
    of_alt (of_map (λ p. remove.Prop p.0 p.1) IsRemoveItem (λ p h. (h.0, h.1)) (of_seq name (of_after (k.Point ∷ []) schema)))
    (of_map (λ p. remove.Labels p.0 p.1) IsRemoveItem (λ p h. (h.0, h.1)) (of_seq name labels))

instants : Holds Instants IsTime
instants = of_after (k.Tt ∷ [])
    (of_alt (of_map time.Snapshot IsTime (λ t h. h) (of_after (k.Snapshot ∷ []) of_number))
    (of_map (λ p. time.Between p.0 p.1) IsTime (λ p h. (h.0, h.1)) (of_after (k.Between ∷ []) (of_seq of_number (of_after (k.And ∷ []) of_number)))))

module _ (E : Lang Expr) (x : Holds E (IsReadIn E)) where
  -- ---- clauses

  filter : Holds (Where E) (IsFilter E)
  unfolding Where
  filter = of_opt None tt (of_map Some (IsFilter E) (λ y h. h) (of_after (k.Where ∷ []) x))

  reading : Holds (Reading E) (IsReading E)
  unfolding Match Unwind
  reading =
      of_alt (of_map unwind_of (IsReading E) (λ p h. (h.0, h.1)) (of_after (k.Unwind ∷ []) (of_seq x (of_after (k.As ∷ []) name))))
      (of_map match_of (IsReading E) (λ p h. (h.1.0, h.1.1)) (of_seq anything (of_after (k.Match ∷ []) (of_seq (of_listed (k.Comma ∷ []) (pattern E x)) filter))))

  set_item : Holds (Set E) (IsSetItem E)
  unfolding Set
  set_item =
      of_alt (of_map (λ p. set.Prop p.0 p.1.0 p.1.1) (IsSetItem E) (λ p h. (h.0, h.1.0, h.1.1)) (of_seq name (of_after (k.Point ∷ []) (of_seq schema (of_after (k.Equal ∷ []) x)))))
      (of_map (λ p. set.Labels p.0 p.1) (IsSetItem E) (λ p h. (h.0, h.1)) (of_seq name labels))

  updating : Holds (Updating E) (IsUpdating E)
  unfolding Create SetClause RemoveClause Delete
  updating =
      of_alt (of_map (λ ps. clause.Update (update.Create ps)) (IsUpdating E) (λ ps h. h) (of_after (k.Create ∷ []) (of_listed (k.Comma ∷ []) (new_pattern E x))))
      (of_alt (of_map (λ items. clause.Update (update.Set items)) (IsUpdating E) (λ items h. h) (of_after (k.Set ∷ []) (of_listed (k.Comma ∷ []) set_item)))
      (of_alt (of_map (λ items. clause.Update (update.Remove items)) (IsUpdating E) (λ items h. h) (of_after (k.Remove ∷ []) (of_listed (k.Comma ∷ []) removed)))
      (of_map delete_of (IsUpdating E) (λ p h. h.1) (of_seq anything (of_after (k.Delete ∷ []) (of_listed (k.Comma ∷ []) name))))))

  -- ---- projections

  return_item : Holds (ReturnItem E) (IsReturnItem E)
  unfolding ReturnItem
  return_item = of_map item_of (IsReturnItem E) (λ p h. (h.0, h.1)) (of_seq x (of_opt None tt (of_map Some IsNameOrNone (λ n h. h) (of_after (k.As ∷ []) name))))

  with_item : Holds (WithItem E) (IsWithItem E)
  unfolding WithItem
  with_item =
      of_alt (of_map (λ p. item_of (p.0, Some p.1)) (IsWithItem E) (λ p h. (h.0, h.1)) (of_seq x (of_after (k.As ∷ []) name)))
      (of_map (λ n. item_of (tree.Var n, None)) (IsWithItem E) (λ n h. (n, refl, h)) name)

  sort_item : Holds (SortItem E) (λ s. IsReadIn E s.expr)
  unfolding SortItem
  sort_item = of_map sort_of (λ s. IsReadIn E s.expr) (λ p h. h.0) (of_seq x anything)

  module _ (Each : Lang Item) (Good : Item → Type 0) (each : Holds Each Good) where
    abbrev IsItems : Bool × List Item → Type 0
    IsItems p = IsStarOr Good p.0 p.1

    abbrev IsParts : Parts → Type 0
    IsParts p = Unit {0} × (IsItems p.1.0 × (All (λ s. IsReadIn E s.expr) p.1.1.0 × (IsCount p.1.1.1.0 × IsCount p.1.1.1.1)))

    parts : Holds (Parted E Each) IsParts
    parts =
        of_seq anything
        (of_seq (of_alt (of_map (λ t. (true, [])) IsItems (λ t u. refl) anything) (of_map (λ items. (false, items)) IsItems (λ items h. h) (of_listed (k.Comma ∷ []) each)))
        (of_seq (of_opt [] tt (weaker (λ ss h. h.1) (of_after (k.Order ∷ []) (of_after (k.By ∷ []) (of_listed (k.Comma ∷ []) sort_item)))))
        (of_seq (count k.Skip) (count k.Limit))))

  returned : Holds (Returned E) (IsReturned E)
  unfolding Returned
  returned = of_map (projection_of None) (IsReturned E) (λ p h. ((h.1.0, h.1.1.0, h.1.1.1.0, h.1.1.1.1), refl)) (parts (ReturnItem E) (IsReturnItem E) return_item)

  passed : Holds (Passed E) (IsPassed E)
  unfolding Passed
  passed = of_map (λ p. projection_of p.1 p.0) (IsPassed E) (λ p h. (let g = h.0 in ((g.1.0, g.1.1.0, g.1.1.1.0, g.1.1.1.1), h.1))) (of_seq (parts (WithItem E) (IsWithItem E) with_item) filter)

  -- ---- queries

  part : Holds (Part E) (IsStage E)
  part = of_map stage_of (IsStage E) (λ p h. (p.0.0, p.0.1, (refl, h.0.0, h.0.1), h.1)) (of_seq (of_seq (of_many reading) (of_many updating)) (of_after (k.With ∷ []) passed))

  return : Holds (Return E) (IsReturned E)
  return = of_after (k.Return ∷ []) returned

  abbrev IsLast : Last → Type 0
  IsLast p = IsEnding E p.0 p.1

  abbrev IsReturnedOrNone : Option Projection → Type 0
  IsReturnedOrNone None = Unit {0}
  IsReturnedOrNone (Some p) = IsReturned E p

  an_end : (us : List Clause) (o : Option Projection) → 0 < length us → IsReturnedOrNone o → IsEnd E us o
  an_end us None some h = some
  an_end us (Some p) some h = h

  ending : Holds (Ending E) IsLast
  ending =
      of_alt (of_map (λ p. (p.0, Some p.1)) IsLast (λ p h. (p.0, [], (sym (append-nil p.0), h.0, tt), h.1)) (of_seq (of_many reading) return))
      (of_map (λ p. (p.0 ++ p.1.0, p.1.1)) IsLast (λ p h. (p.0, p.1.0, (refl, h.0, h.1.0.1), an_end p.1.0 p.1.1 h.1.0.0 h.1.1))
      (of_seq (of_many reading) (of_seq (of_some updating) (of_opt None tt (of_map Some IsReturnedOrNone (λ p h. h) return)))))

  pub whole : Holds (Whole E) (IsWholeQuery E)
  unfolding Whole
  whole = of_map query_of (IsWholeQuery E) (λ p h. (h.0.0, h.0.1, h.1.0)) (of_seq (of_seq (of_many part) ending) (of_seq (of_opt time.None tt instants) anything))
