-- What is told by looking things up holds of the graph.
use Rattle.std.proofs.Common.{◌≡◌, ℕ, ◌<◌, ◌≤◌, List, [], ◌∷◌, Bool, true, false, cond, IsTrue, Option, Some, None, refl, sym, subst, ◌∙◌, arith, inl, inr}
use Rattle.std.specs.Prelude.{nat_eq, nat_lt}
use Rattle.std.specs.FinMap.{find, is_sorted, nat_cmp-IsAntisymmetric}
use Rattle.std.specs.List.{list_all, list_any}
use Rattle.std.specs.Ordering.{nat_cmp, is_lt, is_eq, eq_by_cmp}
use Rattle.std.specs.declared.cmp.Ordering.{Ordering}
use Rattle.std.specs.declared.cmp.Ordering.TheVariants.{Less, Equal, Greater}
use Rattle.std.proofs.lemmas.Bool.{false≢true, and_parts, and_from, or_cases, or_left, or_right, ltb-true, lt-ltb, eqb-true, eq-eqb}
use Rattle.graph_value.specs.declared.id.VertexId.{VertexId}
use Rattle.graph_value.specs.declared.id.EdgeId.{EdgeId}
use Rattle.graph_record.specs.declared.object.VertexRecord.{VertexRecord}
use Rattle.graph_record.specs.declared.object.EdgeRecord.{EdgeRecord}
use Rattle.graph_record.specs.Ascending.{is_ascending}
use Rattle.graph_record.specs.Graph.{IsCoherent, vertex_cmp, edge_cmp, vertex_object, edge_object}
use Rattle.graph_record.specs.Graph as graph
use Rattle.graph_reader.proofs.Above.{vertex_cmp_total}
use Rattle.graph_record.proofs.Edges.{edge_cmp_total}
use Rattle.graph_record.proofs.Place.{sorted_ascends}
use Rattle.query_bench.specs.Coherence.{Vertices, Edges, is_above, ascends, vertices_ascend, edges_ascend, is_listed, is_named, end_lists, lists_its_own, starts_agree, ends_agree, are_coherent}

-- NUMBERS AND ANSWERS

before : (a b : ℕ) → a < b → is_lt (nat_cmp a b) ≡ true
before a b h = rw (lt-ltb a b h) refl

equal : (r : Ordering) → is_eq r ≡ true → r ≡ Equal
equal Less h = absurd (false≢true h)
equal Equal h = refl
equal Greater h = absurd (false≢true h)

tied : (a b : ℕ) → is_eq (nat_cmp a b) ≡ true → a ≡ b
tied a b h = nat_cmp-IsAntisymmetric a b (equal (nat_cmp a b) h)

same_answer : (a b : Bool) → (a ≡ true → b ≡ true) → (b ≡ true → a ≡ true) → a ≡ b
same_answer true b f g = sym (f refl)
same_answer false true f g = g refl
same_answer false false f g = refl

same_vertex : (v w : VertexId) → v.0 ≡ w.0 → v ≡ w
same_vertex v w e = λ i. record { 0 = e i }

same_edge : (e f : EdgeId) → e.0 ≡ f.0 → e ≡ f
same_edge e f is = λ i. record { 0 = is i }

-- LISTS

any_weaker : {A : Type 0} (p q : A → Bool) → ((x : A) → p x ≡ true → q x ≡ true) → (xs : List A) → list_any p xs ≡ true → list_any q xs ≡ true
any_weaker p q f [] h = h
any_weaker p q f (x ∷ xs) h = elim (or_cases (p x) (list_any p xs) h) [
  | inl here ↦ or_left (q x) (list_any q xs) (f x here)
  | inr later ↦ or_right (q x) (list_any q xs) (any_weaker p q f xs later)
]

-- what all do, the one that is among them does
among : {A : Type 0} (p q : A → Bool) (a : A) → ((x : A) → p x ≡ true → x ≡ a) → (xs : List A) → list_any p xs ≡ true → list_all q xs ≡ true → q a ≡ true
among p q a one [] any all = absurd (false≢true any)
among p q a one (x ∷ xs) any all =
    let parts = and_parts (q x) (list_all q xs) all in
    elim (or_cases (p x) (list_any p xs) any) [
      | inl here ↦ subst (λ y. q y ≡ true) (one x here) parts.0
      | inr later ↦ among p q a one xs later parts.1
    ]

abbrev by_number : {K : Type 0} → (K → ℕ) → K → K → Ordering
by_number number a b = nat_cmp (number a) (number b)

module _ {K X : Type 0} (number : K → ℕ) where
  below : (k : K) (j : ℕ) (ps : List (K × X)) → number k ≤ j → ascends number (Some j) ps ≡ true → list_all (λ (q : K × X). is_lt (by_number number k q.0)) ps ≡ true
  below k j [] le h = refl
  below k j (p ∷ ps) le h =
      let parts = and_parts (nat_lt j (number p.0)) (ascends number (Some (number p.0)) ps) h in
      let lt : j < number p.0 = ltb-true j (number p.0) parts.0 in
      and_from _ _ (before (number k) (number p.0) (omega arith)) (below k (number p.0) ps (omega arith) parts.1)

  in_order : (last : Option ℕ) (ps : List (K × X)) → ascends number last ps ≡ true → is_ascending (λ (a b : K × X). by_number number a.0 b.0) ps ≡ true
  in_order last [] h = refl
  in_order last (p ∷ ps) h =
      let parts = and_parts (is_above last (number p.0)) (ascends number (Some (number p.0)) ps) h in
      and_from _ _ (below p.0 (number p.0) ps (omega arith) parts.1) (in_order (Some (number p.0)) ps parts.1)

  -- what all entries do, the one that is found does
  found_step : (same : (a b : K) → number a ≡ number b → a ≡ b) (does : K × X → Bool) (k : K) (x : X) (p : K × X) (rest : Option X) (b : Bool)
      → is_eq (by_number number k p.0) ≡ b → does p ≡ true → (rest ≡ Some x → does (k, x) ≡ true) → cond b (Some p.1) rest ≡ Some x → does (k, x) ≡ true
  found_step same does k x p rest true ties here later is =
      let key : p.0 ≡ k = sym (same k p.0 (tied (number k) (number p.0) ties)) in
      let value : p.1 ≡ x = cc in
      subst (λ (q : K × X). does q ≡ true) (λ i. (key i, value i)) here
  found_step same does k x p rest false ties here later is = later is

  found_does : (same : (a b : K) → number a ≡ number b → a ≡ b) (does : K × X → Bool) (k : K) (x : X) (ps : List (K × X))
      → list_all does ps ≡ true → find (by_number number) k ps ≡ Some x → does (k, x) ≡ true
  found_does same does k x [] all is = absurd (cc)
  found_does same does k x (p ∷ ps) all is =
      let parts = and_parts (does p) (list_all does ps) all in
      found_step same does k x p (find (by_number number) k ps) (is_eq (by_number number k p.0)) refl parts.0 (found_does same does k x ps parts.1) is

pub vertices_sorted : (vs : Vertices) → vertices_ascend None vs ≡ true → IsTrue (is_sorted vertex_cmp vs)
vertices_sorted vs h = sorted_ascends vertex_cmp_total vs ∙ in_order (λ (v : VertexId). v.0) None vs h

pub edges_sorted : (es : Edges) → edges_ascend None es ≡ true → IsTrue (is_sorted edge_cmp es)
edges_sorted es h = sorted_ascends edge_cmp_total es ∙ in_order (λ (e : EdgeId). e.0) None es h

-- ONE SIDE OF THE EDGES

module _ (list : VertexRecord → List EdgeId) (end : EdgeRecord → VertexId) (vs : Vertices) (es : Edges)
    (listed : list_all (end_lists list end vs) es ≡ true) (own : list_all (lists_its_own list end es) vs ≡ true) (e : EdgeId) (v : VertexId) where
  listed_so : (o : Option VertexRecord) → is_listed list o e ≡ true → graph.is_listed list e (vertex_object o) ≡ true
  listed_so None h = h
  listed_so (Some r) h = any_weaker (eq_by_cmp edge_cmp e) (λ f. nat_eq f.0 e.0) (λ f t. eq-eqb f.0 e.0 (sym (tied e.0 f.0 t))) (list r) h

  named_so : (o : Option EdgeRecord) → is_named end v o ≡ true → graph.is_named end v (edge_object o) ≡ true
  named_so None h = h
  named_so (Some r) h = h

  forth : (o : Option EdgeRecord) → find edge_cmp e es ≡ o → graph.is_named end v (edge_object o) ≡ true → graph.is_listed list e (vertex_object (find vertex_cmp v vs)) ≡ true
  forth None is h = absurd (false≢true h)
  forth (Some r) is h =
      let there : end r ≡ v = same_vertex (end r) v (eqb-true (end r).0 v.0 h) in
      let it : end_lists list end vs (e, r) ≡ true = found_does (λ (f : EdgeId). f.0) same_edge (end_lists list end vs) e r es listed is in
      listed_so (find vertex_cmp v vs) (subst (λ w. is_listed list (find vertex_cmp w vs) e ≡ true) there it)

  back : (o : Option VertexRecord) → find vertex_cmp v vs ≡ o → graph.is_listed list e (vertex_object o) ≡ true → graph.is_named end v (edge_object (find edge_cmp e es)) ≡ true
  back None is h = absurd (false≢true h)
  back (Some r) is h =
      let it : lists_its_own list end es (v, r) ≡ true = found_does (λ (w : VertexId). w.0) same_vertex (lists_its_own list end es) v r vs own is in
      named_so (find edge_cmp e es) (among (λ f. nat_eq f.0 e.0) (λ f. is_named end v (find edge_cmp f es)) e (λ f t. same_edge f e (eqb-true f.0 e.0 t)) (list r) h it)

  agree : graph.is_named end v (edge_object (find edge_cmp e es)) ≡ graph.is_listed list e (vertex_object (find vertex_cmp v vs))
  agree = same_answer _ _ (forth (find edge_cmp e es) refl) (back (find vertex_cmp v vs) refl)

pub coherent : (vs : Vertices) (es : Edges) → are_coherent vs es ≡ true → IsCoherent (record { vertices = vs; edges = es })
coherent vs es h =
    let outer = and_parts _ (ends_agree vs es) h in
    let inner = and_parts _ (starts_agree vs es) outer.0 in
    let ascend = and_parts (vertices_ascend None vs) (edges_ascend None es) inner.0 in
    let starts = and_parts (list_all (end_lists (λ r. r.outs) (λ r. r.from) vs) es) (list_all (lists_its_own (λ r. r.outs) (λ r. r.from) es) vs) inner.1 in
    let ends = and_parts (list_all (end_lists (λ r. r.ins) (λ r. r.to) vs) es) (list_all (lists_its_own (λ r. r.ins) (λ r. r.to) es) vs) outer.1 in
    record {
      vertices_ascend = vertices_sorted vs ascend.0;
      edges_ascend = edges_sorted es ascend.1;
      starts = λ e v. agree (λ r. r.outs) (λ r. r.from) vs es starts.0 starts.1 e v;
      ends = λ e v. agree (λ r. r.ins) (λ r. r.to) vs es ends.0 ends.1 e v;
    }
