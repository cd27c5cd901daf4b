-- What words are that were read as numbers, names, objects and reads.
use Rattle.std.proofs.Common.{◌≡◌, ℕ, ◌<◌, ◌≤◌, ◌^◌, ◌==◌, Bool, true, false, cond, nat_lt, List, [], ◌∷◌, length, get_or, Some, None, option_map, codes, inl, inr, refl, sym, ap, ◌∙◌, subst, arith}
use Rattle.std.specs.Str.{bytes_eq}
use Rattle.std.specs.Fmt.{decimal}
use Rattle.std.proofs.lemmas.Bool.Decides.{nat_tests}
use Rattle.std.proofs.lemmas.Fmt.{decimal-digits_value}
use Rattle.std.proofs.lemmas.Option.{same_Some, none-some}
use Rattle.std.proofs.lemmas.Slice.Eq.{bytes_eq-Decides}
use Rattle.graph_value.specs.Id.{vertex_text, oid_text}
use Rattle.graph_value.specs.declared.id.VertexId.{VertexId}
use Rattle.graph_value.specs.declared.id.Oid.{Oid}
use Rattle.graph_value.specs.declared.id.Oid.TheVariants as oid
use Rattle.world_model.specs.declared.event.When.{When}
use Rattle.world_model.specs.declared.event.When.TheVariants.{Own, At}
use Rattle.world_model.specs.declared.event.Kind.{Kind}
use Rattle.world_model.specs.declared.event.Kind.TheVariants as kind
use Rattle.event_lines.specs.Words.{value_of, is_number, number_below, is_name, name_of, oid_of, only_vertex, vertex_of}
use Rattle.event_lines.specs.Request.{when_of, kind_of}
use Rattle.event_lines.specs.Spelling.{when_words, kind_word, IsSpelledVertex, IsSpelledOid, IsSpelledName, IsSpelledWhen}
use Rattle.event_lines.proofs.Numbers.{own, number_digits}
use Rattle.event_lines.proofs.Options.{bind_some, map_some, kept, chosen}

pub same_words : {A : Type 0} (x y : A) (xs ys : List A) → x ≡ y → xs ≡ ys → (x ∷ xs) ≡ (y ∷ ys)
same_words x y xs ys p q = rw (p, q) refl

pub same_text : (word text : List ℕ) → bytes_eq word text ≡ true → word ≡ text
same_text word text h = (bytes_eq-Decides word text).0 h

-- NUMBERS

lone_zero : (word : List ℕ) → is_number word ≡ true → get_or word 0 0 ≡ 48 → length word ≡ 1
lone_zero [] h e = absurd (grind arith)
lone_zero (c ∷ []) h e = refl
lone_zero (c ∷ d ∷ ds) h e = absurd (grind (arith, nat_tests))

pub number_reads : (limit : ℕ) (word : List ℕ) (n : ℕ) → limit ≤ 2 ^ 64 → number_below limit word ≡ Some n → (n < limit) × (word ≡ decimal n)
unfolding number_below
number_reads limit word n low h =
    let first = bind_some _ (λ m. cond (nat_lt m limit) (Some m) None) n h in
    let is = kept (is_number word) (Some (value_of word)) first.0 first.1 in
    let below = kept (nat_lt first.0 limit) (Some first.0) n first.2 in
    let value : value_of word ≡ n = grind arith in
    let small : n < limit = grind (arith, nat_tests) in
    let digits = number_digits word is.0 in
    let text = decimal-digits_value own word digits.0 digits.1 (lone_zero word is.0) (omega arith) in
    (small, sym text ∙ ap decimal value)

-- NAMES AND OBJECTS

pub name_reads : (word name : List ℕ) → name_of word ≡ Some name → IsSpelledName name × (word ≡ name)
unfolding name_of
name_reads word name h =
    let is = kept (is_name word) (Some word) name h in
    let same = same_Some _ _ is.1 in
    (subst (λ (w : List ℕ). is_name w ≡ true) same is.0, same)

oid_by : (vertex edge : Bool) (kind : ℕ) (digits : List ℕ) (n : ℕ) (x : Oid) → (kind == 118) ≡ vertex → (kind == 101) ≡ edge → n < 2 ^ 63 → digits ≡ decimal n → cond vertex (Some (oid.Vertex (record { 0 = n }))) (cond edge (Some (oid.Edge (record { 0 = n }))) None) ≡ Some x → IsSpelledOid x × ((kind ∷ digits) ≡ oid_text x)
oid_by true edge kind digits n x v e h text is =
    let letter : kind ≡ 118 = grind (arith, nat_tests) in
    let P : Oid → Type 0 = λ y. IsSpelledOid y × ((kind ∷ digits) ≡ oid_text y) in
    subst P (same_Some _ _ is) (h, ap (λ k. k ∷ digits) letter ∙ ap (λ ds. 118 ∷ ds) text)
oid_by false true kind digits n x v e h text is =
    let letter : kind ≡ 101 = grind (arith, nat_tests) in
    let P : Oid → Type 0 = λ y. IsSpelledOid y × ((kind ∷ digits) ≡ oid_text y) in
    subst P (same_Some _ _ is) (h, ap (λ k. k ∷ digits) letter ∙ ap (λ ds. 101 ∷ ds) text)
oid_by false false kind digits n x v e h text is = absurd (none-some _ is)

pub oid_reads : (word : List ℕ) (x : Oid) → oid_of word ≡ Some x → IsSpelledOid x × (word ≡ oid_text x)
unfolding oid_of
oid_reads [] x h = absurd (none-some _ h)
oid_reads (kind ∷ digits) x h =
    let first = bind_some (number_below (2 ^ 63) digits) (λ n. cond (kind == 118) (Some (oid.Vertex (record { 0 = n }))) (cond (kind == 101) (Some (oid.Edge (record { 0 = n }))) None)) x h in
    let read = number_reads (2 ^ 63) digits first.0 (omega arith) first.1 in
    oid_by (kind == 118) (kind == 101) kind digits first.0 x refl refl read.0 read.1 first.2

vertex_only : (x : Oid) (id : VertexId) (word : List ℕ) → only_vertex x ≡ Some id → IsSpelledOid x × (word ≡ oid_text x) → IsSpelledVertex id × (word ≡ vertex_text id)
vertex_only (oid.Vertex v) id word h read = subst (λ (i : VertexId). IsSpelledVertex i × (word ≡ vertex_text i)) (same_Some _ _ h) read
vertex_only (oid.Edge e) id word h read = absurd (none-some _ h)

pub vertex_reads : (word : List ℕ) (id : VertexId) → vertex_of word ≡ Some id → IsSpelledVertex id × (word ≡ vertex_text id)
unfolding vertex_of
vertex_reads word id h =
    let first = bind_some (oid_of word) only_vertex id h in
    vertex_only first.0 id word first.2 (oid_reads word first.0 first.1)

-- READS

pub when_reads : (words : List (List ℕ)) (when : When) → when_of words ≡ Some when → IsSpelledWhen when × (words ≡ when_words when)
unfolding when_of
when_reads [] when h = absurd (none-some _ h)
when_reads (word ∷ []) when h =
    let is = kept (bytes_eq word (codes "own")) (Some Own) when h in
    subst (λ (w : When). IsSpelledWhen w × ((word ∷ []) ≡ when_words w)) (same_Some _ _ is.1) (tt, ap (λ w. w ∷ []) (same_text word _ is.0))
when_reads (word ∷ instant ∷ []) when h =
    let is = kept (bytes_eq word (codes "at")) (option_map At (number_below (2 ^ 63) instant)) when h in
    let some = map_some (number_below (2 ^ 63) instant) At when is.1 in
    let read = number_reads (2 ^ 63) instant some.0 (omega arith) some.1 in
    subst (λ (w : When). IsSpelledWhen w × ((word ∷ instant ∷ []) ≡ when_words w)) some.2 (read.0, same_words word _ _ _ (same_text word _ is.0) (ap (λ i. i ∷ []) read.1))
when_reads (a ∷ b ∷ c ∷ words) when h = absurd (none-some _ h)

pub kind_reads : (word : List ℕ) (kind : Kind) → kind_of word ≡ Some kind → word ≡ kind_word kind
unfolding kind_of
kind_reads word k h = elim (chosen (bytes_eq word (codes "vertex")) (Some kind.Vertex) _ k h) [
  | inl vertex ↦ same_text word _ vertex.0 ∙ ap kind_word (same_Some _ _ vertex.1)
  | inr other ↦ (let edge = kept (bytes_eq word (codes "edge")) (Some kind.Edge) k other.1 in same_text word _ edge.0 ∙ ap kind_word (same_Some _ _ edge.1))
]
