-- The shape of a query with TT BETWEEN that passed the checks.
use Rattle.std.proofs.Common.{◌≡◌, ◌≤◌, ℕ, List, [], ◌∷◌, Bool, true, false, not, ◌&&◌, cond, Option, Some, None, get_or, refl, ap, ◌∙◌}
use Rattle.std.proofs.lemmas.Bool.{false≢true}
use Rattle.world_model.proofs.Folds.{and_left_true, and_right_true}
use Rattle.cypher_syntax.specs.declared.tree.clause.Clause.{Clause}
use Rattle.cypher_syntax.specs.declared.tree.clause.Clause.TheVariants as clause
use Rattle.cypher_syntax.specs.declared.tree.clause.MatchClause.{MatchClause}
use Rattle.cypher_syntax.specs.declared.tree.projection.Projection.{Projection}
use Rattle.cypher_syntax.specs.declared.tree.query.Query.{Query}
use Rattle.cypher_syntax.specs.declared.tree.query.Time.{Time}
use Rattle.cypher_syntax.specs.declared.tree.query.Time.TheVariants as time
use Rattle.cypher_check.specs.declared.refused.CheckRefused.{CheckRefused}
use Rattle.cypher_check.specs.declared.refused.CheckRefused.TheVariants.{TtWrites, BetweenShape}
use Rattle.cypher_check.specs.Clauses.{is_empty}
use Rattle.cypher_check.specs.Verdict.{verdict, has_between_shape, is_between, is_plain_return, is_single_match, is_timed, writes}
use Rattle.tt_clauses.specs.Between.{HasSpan, asked_in, asked_with}

second_holds : (a b c : Bool) (rest : Option CheckRefused) → cond a (Some TtWrites) (cond (b && not c) (Some BetweenShape) rest) ≡ None → b ≡ true → c ≡ true
second_holds true b c rest h e = absurd cc
second_holds false true true rest h e = refl
second_holds false true false rest h e = absurd cc
second_holds false false c rest h e = absurd (false≢true e)

between_shape : (q : Query) → verdict q ≡ None → is_between q.time ≡ true → has_between_shape q ≡ true
unfolding verdict
between_shape q h e = second_holds (is_timed q.time && writes q) (is_between q.time) (has_between_shape q) _ h e

single : (cs : List Clause) → is_single_match cs ≡ true → (m : MatchClause) × (cs ≡ clause.Match m ∷ [])
single [] h = absurd (false≢true h)
single (clause.Match m ∷ []) h = (m, refl)
single (clause.Match m ∷ c ∷ cs) h = absurd (false≢true h)
single (clause.Unwind u ∷ cs) h = absurd (false≢true h)
single (clause.Update u ∷ cs) h = absurd (false≢true h)

returned : (o : Option Projection) → is_plain_return o ≡ true → (p : Projection) × (o ≡ Some p)
returned None h = absurd (false≢true h)
returned (Some p) h = (p, refl)

pub record HasParts (q : Query) : Type 0 where
  pub only : MatchClause
  pub returns : Projection
  pub first : ℕ
  pub last : ℕ
  pub clauses_are : q.clauses ≡ clause.Match only ∷ []
  pub returns_are : q.returns ≡ Some returns
  pub time_is : q.time ≡ time.Between first last
  pub ordered : first ≤ last

pub parts_there : (q : Query) → verdict q ≡ None → HasSpan q.time → HasParts q
parts_there q h s = by (q.time) refl s
  where
    by : (t : Time) → q.time ≡ t → HasSpan t → HasParts q
    by time.None e s = absurd s
    by (time.Snapshot t) e s = absurd s
    by (time.Between first last) e s =
        let shape = between_shape q h (ap is_between e) in
        let m = single q.clauses (and_right_true (is_empty q.stages) _ (and_left_true (is_empty q.stages && is_single_match q.clauses) _ shape)) in
        let p = returned q.returns (and_right_true (is_empty q.stages && is_single_match q.clauses) _ shape) in
        record { only = m.0; returns = p.0; first = first; last = last; clauses_are = m.1; returns_are = p.1; time_is = e; ordered = s }

-- the clause that stands first is the only one
pub first_is : (cs : List Clause) (m : MatchClause) (x : Clause) → cs ≡ clause.Match m ∷ [] → x ≡ get_or cs 0 x → x ≡ clause.Match m
first_is cs m x e h = h ∙ ap (λ ys. get_or ys 0 x) e

pub asked_is : (q : Query) (m : MatchClause) (p : Projection) (first last : ℕ) → q.clauses ≡ clause.Match m ∷ [] → q.returns ≡ Some p → q.time ≡ time.Between first last →
    asked_in q ≡ Some (record { clause = m; returns = p; first = first; last = last })
asked_is q m p first last c r t =
    ap (λ cs. asked_with cs q.returns q.time) c
    ∙ ap (λ o. asked_with (clause.Match m ∷ []) o q.time) r
    ∙ ap (asked_with (clause.Match m ∷ []) (Some p)) t
