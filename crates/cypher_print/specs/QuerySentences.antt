-- What the parts of a query have to be for their printed form to be a sentence, over a language of expressions.
use Rattle.std.specs.Prelude.{◌≡◌, ℕ, ◌<◌, ◌^◌, Bool, true, false, List, [], ◌∷◌, ◌++◌, length, Option, Some, None}
use Rattle.cypher_syntax.specs.declared.tree.expr.Expr.{Expr}
use Rattle.cypher_syntax.specs.declared.tree.pattern.Arrow.{Arrow}
use Rattle.cypher_syntax.specs.declared.tree.pattern.Arrow.TheVariants as arrow
use Rattle.cypher_syntax.specs.declared.tree.pattern.EdgePattern.{EdgePattern}
use Rattle.cypher_syntax.specs.declared.tree.pattern.Pattern.{Pattern}
use Rattle.cypher_syntax.specs.declared.tree.expr.Expr.TheVariants as tree
use Rattle.cypher_syntax.specs.declared.tree.clause.Clause.{Clause}
use Rattle.cypher_syntax.specs.declared.tree.clause.Clause.TheVariants as clause
use Rattle.cypher_syntax.specs.declared.tree.projection.Item.{Item}
use Rattle.cypher_syntax.specs.declared.tree.projection.Projection.{Projection}
use Rattle.cypher_syntax.specs.declared.tree.query.Time.{Time}
use Rattle.cypher_syntax.specs.declared.tree.query.Time.TheVariants as time
use Rattle.cypher_syntax.specs.declared.tree.query.Stage.{Stage}
use Rattle.cypher_syntax.specs.declared.tree.query.Query.{Query}
use Rattle.cypher_syntax.specs.declared.tree.clause.Update.{Update}
use Rattle.cypher_syntax.specs.declared.tree.clause.Update.TheVariants as update
use Rattle.cypher_syntax.specs.declared.tree.clause.SetItem.{SetItem}
use Rattle.cypher_syntax.specs.declared.tree.clause.SetItem.TheVariants as set
use Rattle.cypher_syntax.specs.declared.tree.clause.RemoveItem.{RemoveItem}
use Rattle.cypher_syntax.specs.declared.tree.clause.RemoveItem.TheVariants as remove
use Rattle.cypher_parse.specs.Languages.{Lang}
use Rattle.cypher_print.specs.Sentences.{All, IsName, IsNameOrNone, IsReadIn, IsMapOrNone, IsVertex, IsFilter, IsReading}

-- at least one, and each is such
abbrev pub AllSome : {X : Type 0} → (X → Type 0) → List X → Type 0
AllSome P xs = (0 < length xs) × All P xs

-- ---- clauses that write

-- an edge that is made has one kind
abbrev pub IsOneKind : List (List ℕ) → Type 0
IsOneKind [] = ⊥
IsOneKind (kind ∷ []) = IsName kind
IsOneKind (kind ∷ other ∷ kinds) = ⊥

-- and a direction
abbrev pub IsDirected : Arrow → Type 0
IsDirected arrow.Right = Unit {0}
IsDirected arrow.Left = Unit {0}
IsDirected arrow.Neither = ⊥

abbrev pub IsNewEdge : Lang Expr → EdgePattern → Type 0
IsNewEdge E e = IsNameOrNone e.name × IsOneKind e.kinds × IsDirected e.arrow × IsMapOrNone E e.map

abbrev pub IsNewPattern : Lang Expr → Pattern → Type 0
IsNewPattern E p = IsVertex E p.first × All (λ s. IsNewEdge E s.0 × IsVertex E s.1) p.steps

abbrev pub IsSetItem : Lang Expr → SetItem → Type 0
IsSetItem E (set.Prop n key x) = IsName n × IsName key × IsReadIn E x
IsSetItem E (set.Labels n labels) = IsName n × AllSome IsName labels

abbrev pub IsRemoveItem : RemoveItem → Type 0
IsRemoveItem (remove.Prop n key) = IsName n × IsName key
IsRemoveItem (remove.Labels n labels) = IsName n × AllSome IsName labels

abbrev pub IsUpdate : Lang Expr → Update → Type 0
IsUpdate E (update.Create patterns) = AllSome (IsNewPattern E) patterns
IsUpdate E (update.Set items) = AllSome (IsSetItem E) items
IsUpdate E (update.Remove items) = AllSome IsRemoveItem items
IsUpdate E (update.Delete detach names) = AllSome IsName names

-- a clause that writes
abbrev pub IsUpdating : Lang Expr → Clause → Type 0
IsUpdating E (clause.Match m) = ⊥
IsUpdating E (clause.Unwind u) = ⊥
IsUpdating E (clause.Update u) = IsUpdate E u

-- ---- projections

abbrev pub IsReturnItem : Lang Expr → Item → Type 0
IsReturnItem E i = IsReadIn E i.expr × IsNameOrNone i.name

-- an item of WITH is named, or is a name
abbrev pub IsNamedAs : Lang Expr → Expr → Option (List ℕ) → Type 0
IsNamedAs E x (Some n) = IsReadIn E x × IsName n
IsNamedAs E x None = (n : List ℕ) × (x ≡ tree.Var n) × IsName n

abbrev pub IsWithItem : Lang Expr → Item → Type 0
IsWithItem E i = IsNamedAs E i.expr i.name

-- `*`, or items
abbrev pub IsStarOr : (Item → Type 0) → Bool → List Item → Type 0
IsStarOr Each true items = items ≡ []
IsStarOr Each false items = AllSome Each items

-- a number that a text holds
abbrev pub IsSmall : ℕ → Type 0
IsSmall n = n < 2 ^ 63

abbrev pub IsCount : Option ℕ → Type 0
IsCount None = Unit {0}
IsCount (Some n) = IsSmall n

abbrev pub IsProjection : Lang Expr → (Item → Type 0) → Projection → Type 0
IsProjection E Each p = IsStarOr Each p.star p.items × All (λ s. IsReadIn E s.expr) p.sort × IsCount p.skip × IsCount p.limit

abbrev pub IsReturned : Lang Expr → Projection → Type 0
IsReturned E p = IsProjection E (IsReturnItem E) p × (p.filter ≡ None)

abbrev pub IsPassed : Lang Expr → Projection → Type 0
IsPassed E p = IsProjection E (IsWithItem E) p × IsFilter E p.filter

-- ---- queries

-- clauses that read, and behind them clauses that write
abbrev pub AreClauses : Lang Expr → List Clause → List Clause → List Clause → Type 0
AreClauses E clauses reading updating = (clauses ≡ reading ++ updating) × All (IsReading E) reading × All (IsUpdating E) updating

abbrev pub IsStage : Lang Expr → Stage → Type 0
IsStage E s = (reading : List Clause) × (updating : List Clause) × AreClauses E s.clauses reading updating × IsPassed E s.next

-- without RETURN the last part writes
abbrev pub IsEnd : Lang Expr → List Clause → Option Projection → Type 0
IsEnd E updating None = 0 < length updating
IsEnd E updating (Some p) = IsReturned E p

abbrev pub IsEnding : Lang Expr → List Clause → Option Projection → Type 0
IsEnding E clauses returns = (reading : List Clause) × (updating : List Clause) × AreClauses E clauses reading updating × IsEnd E updating returns

abbrev pub IsTime : Time → Type 0
IsTime time.None = Unit {0}
IsTime (time.Snapshot t) = IsSmall t
IsTime (time.Between t u) = IsSmall t × IsSmall u

abbrev pub IsWholeQuery : Lang Expr → Query → Type 0
IsWholeQuery E q = All (IsStage E) q.stages × IsEnding E q.clauses q.returns × IsTime q.time
