-- Names stay distinct, and a fault stays.
use Rattle.std.proofs.Common.{◌≡◌, ℕ, Bool, true, false, cond, not, ◌||◌, ◌&&◌, List, [], ◌∷◌, ◌++◌, Option, Some, None, is_some, is_none, fold, refl, sym, ap, subst, ◌∙◌, Decides}
use Rattle.std.specs.Str.{bytes_eq}
use Rattle.std.proofs.lemmas.Bool.{false≢true}
use Rattle.std.proofs.lemmas.Slice.Eq.{bytes_eq-Decides}
use Rattle.cypher_syntax.specs.declared.tree.query.Query.{Query}
use Rattle.cypher_check.specs.declared.refused.CheckRefused.{CheckRefused}
use Rattle.cypher_check.specs.declared.refused.CheckRefused.TheVariants.{Redeclared, TtWrites, BetweenShape, Unbound}
use Rattle.cypher_check.specs.declared.scope.Scope.{Scope}
use Rattle.cypher_check.specs.Names.{has, add, add_all}
use Rattle.cypher_check.specs.Marks.{Mark, Uses, Misplaced}
use Rattle.cypher_check.specs.Faults.{first_fault}
use Rattle.cypher_check.specs.Asks.{Ask, Reads, Vertex, Edge, NewVertex, NewEdge, Closes, Unwinds, Star, Gives, Widens, Narrows, failed, read, star, asked, step, after, start}
use Rattle.cypher_check.specs.Clauses.{query_asks, has_aggregate}
use Rattle.cypher_check.specs.Verdict.{verdict, is_timed, is_between, writes, has_between_shape}
use Rattle.cypher_check.specs.Standing.{AreDistinct, AllStand}

-- LISTS OF NAMES

apart : (a b : List ℕ) → bytes_eq a b ≡ false → bytes_eq b a ≡ false
apart a b h = elim (bytes_eq b a) as (λ t. bytes_eq b a ≡ t → t ≡ false) [
  | true ↦ λ e. absurd (false≢true (sym h ∙ (bytes_eq-Decides a b).1 (sym ((bytes_eq-Decides b a).0 e))))
  | false ↦ λ _. refl
] refl

either : (a b : Bool) → a || b ≡ false → (a ≡ false) × (b ≡ false)
either true b h = absurd (false≢true (sym h))
either false b h = (refl, h)

neither : (a b : Bool) → a ≡ false → b ≡ false → a || b ≡ false
neither true b x y = x
neither false b x y = y

has-end : (names : List (List ℕ)) (x y : List ℕ) → has names x ≡ false → bytes_eq y x ≡ false → has (names ++ y ∷ []) x ≡ false
has-end [] x y h e = neither (bytes_eq y x) false e refl
has-end (n ∷ names) x y h e =
    let p = either (bytes_eq n x) (has names x) h in
    neither (bytes_eq n x) (has (names ++ y ∷ []) x) p.0 (has-end names x y p.1 e)

distinct-end : (names : List (List ℕ)) (y : List ℕ) → AreDistinct names → has names y ≡ false → AreDistinct (names ++ y ∷ [])
distinct-end [] y d h = (refl, tt)
distinct-end (n ∷ names) y d h =
    let p = either (bytes_eq n y) (has names y) h in
    (has-end names n y d.0 (apart n y p.0), distinct-end names y d.1 p.1)

if_distinct : (names : List (List ℕ)) (y : List ℕ) (b : Bool) → has names y ≡ b → AreDistinct names → AreDistinct (cond b names (names ++ y ∷ []))
if_distinct names y true h d = d
if_distinct names y false h d = distinct-end names y d h

distinct-add : (names : List (List ℕ)) (y : List ℕ) → AreDistinct names → AreDistinct (add names y)
distinct-add names y d = if_distinct names y (has names y) refl d

distinct-add_all : (names more : List (List ℕ)) → AreDistinct names → AreDistinct (add_all names more)
distinct-add_all names [] d = d
distinct-add_all names (y ∷ more) d = distinct-add_all (add names y) more (distinct-add names y d)

-- SCOPES

abbrev IsProper : Scope → Type 0
IsProper s = AreDistinct s.names × AreDistinct s.given

chosen : (P : Scope → Type 0) (b : Bool) (x y : Scope) → P x → (b ≡ false → P y) → P (cond b x y)
chosen P true x y p q = p
chosen P false x y p q = q refl

read_proper : (s : Scope) (f : Option CheckRefused) → IsProper s → IsProper (read s f)
read_proper s None p = p
read_proper s (Some f) p = p

star_proper : (s : Scope) (names : List (List ℕ)) → IsProper s → AreDistinct names → IsProper (star s names)
star_proper s [] p d = p
star_proper s (n ∷ names) p d = (p.0, d)

asked_proper : (s : Scope) (a : Ask) → IsProper s → IsProper (asked s a)
asked_proper s (Reads marks) p = read_proper s (first_fault s.names marks) p
asked_proper s (Vertex n) p = chosen IsProper (has s.edges n) _ _ p (λ _. p)
asked_proper s (Edge n) p = chosen IsProper (has s.here n) _ _ p (λ _. p)
asked_proper s (NewVertex bare n) p = chosen IsProper ((has s.names n || has s.here n) && not bare || has s.edges n) _ _ p (λ _. p)
asked_proper s (NewEdge n) p = chosen IsProper (has s.names n || has s.here n) _ _ p (λ _. p)
asked_proper s Closes p = (distinct-add_all s.names s.here p.0, p.1)
asked_proper s (Unwinds n) p = chosen IsProper (has s.names n) _ _ p (λ h. (distinct-end s.names n p.0 h, p.1))
asked_proper s Star p = star_proper s s.names p p.0
asked_proper s (Gives n) p = chosen IsProper (has s.given n) _ _ p (λ h. (p.0, distinct-end s.given n p.1 h))
asked_proper s Widens p = (distinct-add_all s.names s.given p.0, p.1)
asked_proper s Narrows p = (p.1, tt)

step_proper : (s : Scope) (a : Ask) → IsProper s → IsProper (step s a)
unfolding step
step_proper s a p = chosen IsProper (is_some s.fault) s (asked s a) p (λ _. asked_proper s a p)

after_proper : (s : Scope) (asks : List Ask) → IsProper s → IsProper (after s asks)
after_proper s [] p = p
after_proper s (a ∷ asks) p = after_proper (step s a) asks (step_proper s a p)

pub distinct_after : (asks : List Ask) → AreDistinct (after start asks).names
distinct_after asks = (after_proper start asks (tt, tt)).0

-- A FAULT STAYS

stays : (s : Scope) (a : Ask) (f : CheckRefused) → s.fault ≡ Some f → step s a ≡ s
unfolding step
stays s a f h = ap (λ o. cond (is_some o) s (asked s a)) h

stays_after : (s : Scope) (asks : List Ask) (f : CheckRefused) → s.fault ≡ Some f → after s asks ≡ s
stays_after s [] f h = refl
stays_after s (a ∷ asks) f h = ap (λ r. after r asks) (stays s a f h) ∙ stays_after s asks f h

none_before : (s : Scope) (asks : List Ask) (o : Option CheckRefused) → s.fault ≡ o → (after s asks).fault ≡ None → s.fault ≡ None
none_before s asks None h none = h
none_before s asks (Some f) h none = absurd (cc (sym h ∙ ap (λ r. r.fault) (sym (stays_after s asks f h)) ∙ none))

after-append : (s : Scope) (xs ys : List Ask) → after s (xs ++ ys) ≡ after (after s xs) ys
after-append s [] ys = refl
after-append s (x ∷ xs) ys = after-append (step s x) xs ys

read_none : (s : Scope) (f : Option CheckRefused) → (read s f).fault ≡ None → f ≡ None
read_none s None h = refl
read_none s (Some f) h = absurd (cc)

step_read : (s : Scope) (marks : List Mark) → s.fault ≡ None → step s (Reads marks) ≡ read s (first_fault s.names marks)
unfolding step
step_read s marks h = ap (λ o. cond (is_some o) s (asked s (Reads marks))) h

marks_stand : (scope : List (List ℕ)) (marks : List Mark) → first_fault scope marks ≡ None → AllStand scope marks
marks_stand scope [] h = tt
marks_stand scope (Uses n ∷ marks) h =
    elim (has scope n) as (λ b. has scope n ≡ b → cond b (first_fault scope marks) (Some (Unbound n)) ≡ None → (b ≡ true) × AllStand scope marks) [
      | true ↦ λ e h. (refl, marks_stand scope marks h)
      | false ↦ λ e h. absurd (cc h)
    ] refl h
marks_stand scope (Misplaced ∷ marks) h = absurd (cc)

no_fault : (q : Query) → verdict q ≡ None → (after start (query_asks q)).fault ≡ None
unfolding verdict
no_fault q h = third (is_timed q.time && writes q) (is_between q.time && not (has_between_shape q)) (after start (query_asks q)).fault h
  where
    third : (a b : Bool) (o : Option CheckRefused) → cond a (Some TtWrites) (cond b (Some BetweenShape) o) ≡ None → o ≡ None
    third true b o h = absurd (cc h)
    third false true o h = absurd (cc h)
    third false false o h = h

pub all_stand : (q : Query) (before behind : List Ask) (marks : List Mark) → verdict q ≡ None → query_asks q ≡ before ++ Reads marks ∷ behind
    → AllStand (after start before).names marks
all_stand q before behind marks v is =
    let s = after start before in
    let whole : (after (step s (Reads marks)) behind).fault ≡ None =
    ap (λ r. r.fault) (sym (after-append start before (Reads marks ∷ behind))) ∙ ap (λ asks. (after start asks).fault) (sym is) ∙ no_fault q v in
    let stepped : (step s (Reads marks)).fault ≡ None = none_before (step s (Reads marks)) behind _ refl whole in
    let before_none : s.fault ≡ None = none_before s (Reads marks ∷ []) _ refl stepped in
    marks_stand s.names marks (read_none s (first_fault s.names marks) (ap (λ r. r.fault) (sym (step_read s marks before_none)) ∙ stepped))
