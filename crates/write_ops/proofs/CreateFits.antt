-- CREATE names what was there and what it made before.
use Rattle.std.proofs.Common.{◌≡◌, ℕ, ◌+◌, Bool, true, false, cond, List, [], ◌∷◌, ◌++◌, length, Option, Some, None, Ok, ◌⊎◌, inl, inr, refl, sym, ap, ◌∙◌, subst, arith, bytes_eq}
use Rattle.std.specs.Prelude.{if◌then◌else◌}
use Rattle.std.proofs.lemmas.List.{length-append}
use Rattle.graph_value.specs.declared.id.Oid.TheVariants as oid
use Rattle.graph_value.specs.declared.value.Value.{Value}
use Rattle.graph_record.specs.Graph.{Graph}
use Rattle.cypher_syntax.specs.declared.tree.expr.Expr.{Expr}
use Rattle.cypher_syntax.specs.declared.tree.pattern.Arrow.{Arrow}
use Rattle.cypher_syntax.specs.declared.tree.pattern.Arrow.TheVariants as arrow
use Rattle.cypher_syntax.specs.declared.tree.pattern.EdgePattern.{EdgePattern}
use Rattle.cypher_syntax.specs.declared.tree.pattern.NodePattern.{NodePattern}
use Rattle.cypher_syntax.specs.declared.tree.pattern.Pattern.{Pattern}
use Rattle.expr_eval.specs.Outcome.{and_then}
use Rattle.expr_eval.specs.Row.{Row}
use Rattle.write_ops.specs.declared.creating.Created.{Created}
use Rattle.write_ops.specs.declared.creating.Walk.{Walk}
use Rattle.write_ops.specs.declared.placing.Place.{Place}
use Rattle.write_ops.specs.declared.planned.Entity.{Entity}
use Rattle.write_ops.specs.declared.planned.Entity.TheVariants.{Vertex, Edge}
use Rattle.write_ops.specs.declared.planned.Pick.{Pick}
use Rattle.write_ops.specs.declared.planned.Pick.TheVariants.{Known, Made}
use Rattle.write_ops.specs.declared.planned.PlannedOp.TheVariants as op
use Rattle.write_ops.specs.declared.target.Target.{Target}
use Rattle.write_ops.specs.declared.target.Target.TheVariants as target
use Rattle.write_ops.specs.Creating.{with_value, with_entry, with_map, created_vertex, new_vertex, node_ops, create_edge, with_edge, kind_of, edge_ops, hop_ops, started, start, went, hop, pattern, row_start, row_end, create_row, nothing_created, create_of}
use Rattle.write_ops.specs.Earlier.{IsVertex, EntityFits, NamesFit, RowsFit, IsMade}
use Rattle.write_ops.specs.Over.{over}
use Rattle.write_ops.specs.Placing.{Names, new_place, old_place, given, given_place, bound_place, named_place, place_of, behind, naming, vertex_name}
use Rattle.write_ops.specs.Setting.{Ops}
use Rattle.write_ops.specs.Targets.{bound, alive}
use Rattle.write_ops.specs.Writing.{is_null, kept_value, prop_op}
use Rattle.write_ops.proofs.Fitting.{fine, ok_is, opened, over_keeps, slice_end, vertex_later, entity_later, Good, nothing_good, push, prop_good, labels_good}

-- PROPERTIES

value_if : (b : Bool) (made : List Bool) (x : Entity) (key : List ℕ) (v : Value) (ops : Ops) → EntityFits made x → Good ops made → Good (cond b ops (ops ++ prop_op x key v ∷ [])) made
value_if true made x key v ops f g = g
value_if false made x key v ops f g = prop_good ops made x key v f g

entry_good : (g : Graph) (row : Row) (x : Entity) (made : List Bool) → EntityFits made x → (ops : Ops) (entry : List ℕ × Expr) (t : Ops) → Good ops made → with_entry g row x ops entry ≡ Ok t → Good t made
entry_good g row x made f ops entry t k h =
    let o = opened (kept_value g row entry.1) (λ v. fine (with_value x entry.0 v ops)) t h in
    subst (λ p. Good p made) (ok_is (with_value x entry.0 o.0 ops) t o.2) (value_if (is_null o.0) made x entry.0 o.0 ops f k)

map_good : (g : Graph) (row : Row) (x : Entity) (made : List Bool) → EntityFits made x → (ops : Ops) (m : Option (List (List ℕ × Expr))) (t : Ops) → Good ops made → with_map g row x ops m ≡ Ok t → Good t made
map_good g row x made f ops None t k h = subst (λ p. Good p made) (ok_is ops t h) k
map_good g row x made f ops (Some entries) t k h = over_keeps (with_entry g row x) (λ p. Good p made) (entry_good g row x made f) ops entries t k h

-- PLACES

-- a new vertex, or one that is known
abbrev IsPlace : List Bool → ℕ → Place → Type 0
IsPlace made n p = (p ≡ new_place n) ⊎ ((at : Pick) × (p ≡ old_place at) × IsVertex made at)

given_if : (made : List Bool) (b : Bool) (y : Entity) (rest : Option Entity) (x : Entity) → EntityFits made y → (rest ≡ Some x → EntityFits made x) → cond b (Some y) rest ≡ Some x → EntityFits made x
given_if made true y rest x f r h = let e : y ≡ x = cc in subst (EntityFits made) e f
given_if made false y rest x f r h = r h

given_fits : (made : List Bool) (names : Names) (name : List ℕ) (x : Entity) → NamesFit made names → given names name ≡ Some x → EntityFits made x
given_fits made [] name x f h = absurd (cc)
given_fits made (p ∷ names) name x f h = given_if made (bytes_eq p.0 name) p.1 (given names name) x f.0 (given_fits made names name x f.1) h

given_is : (made : List Bool) (n : ℕ) (o : Option Entity) (p : Place) → ((x : Entity) → o ≡ Some x → EntityFits made x) → given_place n o ≡ Ok p → IsPlace made n p
given_is made n None p f h = inl (sym (ok_is (new_place n) p h))
given_is made n (Some (Vertex at)) p f h = inr (at, sym (ok_is (old_place at) p h), f (Vertex at) refl)
given_is made n (Some (Edge at)) p f h = absurd (cc)

bound_is : (g : Graph) (made : List Bool) (n : ℕ) (t : Target) (p : Place) → bound_place g t ≡ Ok p → IsPlace made n p
bound_is g made n (target.Entity (oid.Vertex v)) p h =
    let o = opened (alive g (oid.Vertex v)) (λ x. fine (old_place (Known v.0))) p h in
    inr (Known v.0, sym (ok_is (old_place (Known v.0)) p o.2), tt)
bound_is g made n (target.Entity (oid.Edge e)) p h = absurd (cc)
bound_is g made n target.Nothing p h = absurd (cc)
bound_is g made n target.Other p h = absurd (cc)

named_is : (g : Graph) (made : List Bool) (names : Names) (n : ℕ) (name : List ℕ) (o : Option Target) (p : Place) → NamesFit made names → named_place g names n name o ≡ Ok p → IsPlace made n p
named_is g made names n name None p f h = given_is made n (given names name) p (λ x. given_fits made names name x f) h
named_is g made names n name (Some t) p f h = bound_is g made n t p h

place_is : (g : Graph) (row : Row) (made : List Bool) (names : Names) (n : ℕ) (o : Option (List ℕ)) (p : Place) → NamesFit made names → place_of g row names n o ≡ Ok p → IsPlace made n p
place_is g row made names n None p f h = inl (sym (ok_is (new_place n) p h))
place_is g row made names n (Some name) p f h = named_is g made names n name (bound row name) p f h

-- what the vertex adds to what is made
abbrev with_place : List Bool → Place → List Bool
with_place made p = if p.is_new then made ++ true ∷ [] else made

-- NAMES

names_later : (made more : List Bool) (names : Names) → NamesFit made names → NamesFit (made ++ more) names
names_later made more [] f = tt
names_later made more (p ∷ names) f = (entity_later made more p.1 f.0, names_later made more names f.1)

rows_later : (made more : List Bool) (rows : List Names) → RowsFit made rows → RowsFit (made ++ more) rows
rows_later made more [] f = tt
rows_later made more (names ∷ rows) f = (names_later made more names f.0, rows_later made more rows f.1)

names_append : (made : List Bool) (a b : Names) → NamesFit made a → NamesFit made b → NamesFit made (a ++ b)
names_append made [] b f h = h
names_append made (p ∷ a) b f h = (f.0, names_append made a b f.1 h)

naming_fits : (made : List Bool) (o : Option (List ℕ)) (x : Entity) → EntityFits made x → NamesFit made (naming o x)
naming_fits made None x f = tt
naming_fits made (Some name) x f = (f, tt)

names_if : (b : Bool) (made : List Bool) (names : Names) → NamesFit made names → NamesFit (cond b (made ++ true ∷ []) made) names
names_if true made names f = names_later made (true ∷ []) names f
names_if false made names f = f

rows_if : (b : Bool) (made : List Bool) (rows : List Names) → RowsFit made rows → RowsFit (cond b (made ++ true ∷ []) made) rows
rows_if true made rows f = rows_later made (true ∷ []) rows f
rows_if false made rows f = f

vertex_if : (b : Bool) (made : List Bool) (at : Pick) → IsVertex made at → IsVertex (cond b (made ++ true ∷ []) made) at
vertex_if true made at f = vertex_later made (true ∷ []) at f
vertex_if false made at f = f

new_name_if : (b : Bool) (made : List Bool) (o : Option (List ℕ)) (at : Pick) → IsVertex made at → NamesFit made (cond b (naming o (Vertex at)) [])
new_name_if true made o at f = naming_fits made o (Vertex at) f
new_name_if false made o at f = tt

-- VERTICES AND EDGES

vertex_good : (g : Graph) (row : Row) (ops : Ops) (made : List Bool) (n : ℕ) (node : NodePattern) (t : Ops) → length made ≡ n → Good ops made → new_vertex g row ops (Made n) node ≡ Ok t → Good t (made ++ true ∷ [])
vertex_good g row ops made n node t l k h =
    let more = made ++ true ∷ [] in
    let is : IsVertex more (Made n) = slice_end made true n l in
    let begun : Good (ops ++ op.CreateVertex ∷ []) more = push ops made op.CreateVertex k tt in
    map_good g row (Vertex (Made n)) more is (created_vertex (Made n) node.labels ops) node.map t (labels_good (ops ++ op.CreateVertex ∷ []) more true (Made n) node.labels is begun) h

node_good : (g : Graph) (row : Row) (ops : Ops) (made : List Bool) (n : ℕ) (p : Place) (node : NodePattern) (t : Ops) → length made ≡ n → IsPlace made n p → Good ops made → node_ops g row ops p node ≡ Ok t → Good t (with_place made p)
node_good g row ops made n p node t l (inl e) k h = subst (λ p. node_ops g row ops p node ≡ Ok t → Good t (with_place made p)) (sym e) (vertex_good g row ops made n node t l k) h
node_good g row ops made n p node t l (inr old) k h = subst (λ p. node_ops g row ops p node ≡ Ok t → Good t (with_place made p)) (sym old.1) (λ h. subst (λ o. Good o made) (ok_is ops t h) k) h

place_vertex : (made : List Bool) (n : ℕ) (p : Place) → length made ≡ n → IsPlace made n p → IsVertex (with_place made p) p.at
place_vertex made n p l (inl e) = subst (λ p. IsVertex (with_place made p) p.at) (sym e) (slice_end made true n l)
place_vertex made n p l (inr old) = subst (λ p. IsVertex (with_place made p) p.at) (sym old.1) old.2

place_count : (made : List Bool) (n : ℕ) (p : Place) → length made ≡ n → IsPlace made n p → length (with_place made p) ≡ behind p n
place_count made n p l (inl e) = subst (λ p. length (with_place made p) ≡ behind p n) (sym e) (omega (arith, length-append made (true ∷ []), l))
place_count made n p l (inr old) = subst (λ p. length (with_place made p) ≡ behind p n) (sym old.1) l

edge_pushed : (arrow : Arrow) (here there : Pick) (kind : List ℕ) (ops : Ops) (made : List Bool) → IsVertex made here → IsVertex made there → Good ops made → Good (with_edge arrow here there kind ops) (made ++ false ∷ [])
edge_pushed arrow.Left here there kind ops made h t k = push ops made (create_edge arrow.Left here there kind) k (t, h)
edge_pushed arrow.Right here there kind ops made h t k = push ops made (create_edge arrow.Right here there kind) k (h, t)
edge_pushed arrow.Neither here there kind ops made h t k = push ops made (create_edge arrow.Neither here there kind) k (h, t)

edge_good : (g : Graph) (row : Row) (ops : Ops) (made : List Bool) (n : ℕ) (here there : Pick) (edge : EdgePattern) (t : Ops) → length made ≡ n → IsVertex made here → IsVertex made there → Good ops made
    → edge_ops g row ops (Made n) here there edge ≡ Ok t → Good t (made ++ false ∷ [])
edge_good g row ops made n here there edge t l vh vt k h =
    let o = opened (kind_of edge.kinds) (λ kind. with_map g row (Edge (Made n)) (with_edge edge.arrow here there kind ops) edge.map) t h in
    map_good g row (Edge (Made n)) (made ++ false ∷ []) (slice_end made false n l) (with_edge edge.arrow here there o.0 ops) edge.map t (edge_pushed edge.arrow here there o.0 ops made vh vt k) o.2

-- A ROW

record Stands (rows : List Names) (w : Walk) (made : List Bool) : Type 0 where
  good : Good w.ops made
  count : length made ≡ w.made
  names : NamesFit made w.names
  old : RowsFit made rows

-- between two patterns, and within one
abbrev Between : List Names → Walk → Type 0
Between rows w = (made : List Bool) × Stands rows w made

abbrev Within : List Names → Walk → Type 0
Within rows w = (made : List Bool) × Stands rows w made × IsVertex made w.here

start_stands : (g : Graph) (row : Row) (rows : List Names) (w : Walk) (node : NodePattern) (t : Walk) → Between rows w → start g row w node ≡ Ok t → Within rows t
start_stands g row rows w node t s h =
    let made = s.0 in
    let o = opened (place_of g row w.names w.made node.name) (λ p. and_then (node_ops g row w.ops p node) (λ ops. fine (started w.made w.names p node ops))) t h in
    let p = o.0 in
    let q = opened (node_ops g row w.ops p node) (λ ops. fine (started w.made w.names p node ops)) t o.2 in
    let is : IsPlace made w.made p = place_is g row made w.names w.made node.name p s.1.names o.1 in
    let more = with_place made p in
    let at : IsVertex more p.at = place_vertex made w.made p s.1.count is in
    let there : Stands rows (started w.made w.names p node q.0) more = record {
      good = node_good g row w.ops made w.made p node q.0 s.1.count is s.1.good q.1;
      count = place_count made w.made p s.1.count is;
      names = names_append more w.names (vertex_name p node.name) (names_if p.is_new made w.names s.1.names) (new_name_if p.is_new more node.name p.at at);
      old = rows_if p.is_new made rows s.1.old;
    } in
    subst (Within rows) (ok_is (started w.made w.names p node q.0) t q.2) (more, there, at)

hop_stands : (g : Graph) (row : Row) (rows : List Names) (w : Walk) (step : EdgePattern × NodePattern) (t : Walk) → Within rows w → hop g row w step ≡ Ok t → Within rows t
hop_stands g row rows w step t s h =
    let made = s.0 in
    let o = opened (place_of g row w.names w.made step.1.name) (λ p. and_then (hop_ops g row w.ops (behind p w.made) w.here p step.0 step.1) (λ ops. fine (went (behind p w.made) w.names p step.0 step.1 ops))) t h in
    let p = o.0 in
    let number = behind p w.made in
    let q = opened (hop_ops g row w.ops number w.here p step.0 step.1) (λ ops. fine (went number w.names p step.0 step.1 ops)) t o.2 in
    let r = opened (node_ops g row w.ops p step.1) (λ ops. edge_ops g row ops (Made number) w.here p.at step.0) q.0 q.1 in
    let is : IsPlace made w.made p = place_is g row made w.names w.made step.1.name p s.1.names o.1 in
    let mid = with_place made p in
    let more = mid ++ false ∷ [] in
    let count : length mid ≡ number = place_count made w.made p s.1.count is in
    let at : IsVertex mid p.at = place_vertex made w.made p s.1.count is in
    let node : Good r.0 mid = node_good g row w.ops made w.made p step.1 r.0 s.1.count is s.1.good r.1 in
    let there : Stands rows (went number w.names p step.0 step.1 q.0) more = record {
      good = edge_good g row r.0 mid number w.here p.at step.0 q.0 count (vertex_if p.is_new made w.here s.2) at node r.2;
      count = omega (arith, length-append mid (false ∷ []), count);
      names = names_append more (w.names ++ naming step.0.name (Edge (Made number))) (vertex_name p step.1.name)
          (names_append more w.names (naming step.0.name (Edge (Made number)))
          (names_later mid (false ∷ []) w.names (names_if p.is_new made w.names s.1.names))
          (naming_fits more step.0.name (Edge (Made number)) (slice_end mid false number count)))
          (names_later mid (false ∷ []) (vertex_name p step.1.name) (new_name_if p.is_new mid step.1.name p.at at));
      old = rows_later mid (false ∷ []) rows (rows_if p.is_new made rows s.1.old);
    } in
    subst (Within rows) (ok_is (went number w.names p step.0 step.1 q.0) t q.2) (more, there, vertex_later mid (false ∷ []) p.at at)

pattern_stands : (g : Graph) (row : Row) (rows : List Names) (w : Walk) (p : Pattern) (t : Walk) → Between rows w → pattern g row w p ≡ Ok t → Between rows t
pattern_stands g row rows w p t s h =
    let o = opened (start g row w p.first) (λ walk. over (hop g row) walk p.steps) t h in
    let e = over_keeps (hop g row) (Within rows) (hop_stands g row rows) o.0 p.steps t (start_stands g row rows w p.first o.0 s o.1) o.2 in
    (e.0, e.1)

-- A TABLE

record Holds (c : Created) (made : List Bool) : Type 0 where
  good : Good c.ops made
  count : length made ≡ c.made
  rows : RowsFit made c.names

abbrev After : Created → Type 0
After c = (made : List Bool) × Holds c made

rows_push : (made : List Bool) (rows : List Names) (names : Names) → RowsFit made rows → NamesFit made names → RowsFit made (rows ++ names ∷ [])
rows_push made [] names f h = (h, tt)
rows_push made (r ∷ rows) names f h = (f.0, rows_push made rows names f.1 h)

row_holds : (g : Graph) (patterns : List Pattern) (c : Created) (row : Row) (t : Created) → After c → create_row g patterns c row ≡ Ok t → After t
row_holds g patterns c row t s h =
    let o = opened (over (pattern g row) (row_start c.made c.ops) patterns) (λ walk. fine (row_end c.names walk)) t h in
    let begun : Stands c.names (row_start c.made c.ops) s.0 = record { good = s.1.good; count = s.1.count; names = tt; old = s.1.rows } in
    let e = over_keeps (pattern g row) (Between c.names) (pattern_stands g row c.names) (row_start c.made c.ops) patterns o.0 (s.0, begun) o.1 in
    let ended : Holds (row_end c.names o.0) e.0 = record { good = e.1.good; count = e.1.count; rows = rows_push e.0 c.names o.0.names e.1.old e.1.names } in
    subst After (ok_is (row_end c.names o.0) t o.2) (e.0, ended)

row_counts : (g : Graph) (patterns : List Pattern) (c : Created) (row : Row) (t : Created) → create_row g patterns c row ≡ Ok t → length t.names ≡ length c.names + 1
row_counts g patterns c row t h =
    let o = opened (over (pattern g row) (row_start c.made c.ops) patterns) (λ walk. fine (row_end c.names walk)) t h in
    ap (λ d. length d.names) (sym (ok_is (row_end c.names o.0) t o.2)) ∙ length-append c.names (o.0.names ∷ [])

rows_count : (g : Graph) (patterns : List Pattern) (c : Created) (table : List Row) (t : Created) → over (create_row g patterns) c table ≡ Ok t → length t.names ≡ length c.names + length table
rows_count g patterns c [] t h = ap (λ d. length d.names) (sym (ok_is c t h)) ∙ (omega arith)
rows_count g patterns c (row ∷ table) t h =
    let o = opened (create_row g patterns c row) (λ u. over (create_row g patterns) u table) t h in
    omega (arith, rows_count g patterns o.0 table t o.2, row_counts g patterns c row o.0 o.1)

pub create_fits : (g : Graph) (patterns : List Pattern) (table : List Row) (c : Created) → create_of g patterns table ≡ Ok c → IsMade c (length table)
create_fits g patterns table c h =
    let begun : Holds nothing_created [] = record { good = nothing_good; count = refl; rows = tt } in
    let e = over_keeps (create_row g patterns) After (row_holds g patterns) nothing_created table c ([], begun) h in
    record {
      fit = e.1.good.fit;
      number = ap length e.1.good.makes ∙ e.1.count;
      names = subst (λ m. RowsFit m c.names) (sym e.1.good.makes) e.1.rows;
      rows = rows_count g patterns nothing_created table c h ∙ omega arith;
    }
