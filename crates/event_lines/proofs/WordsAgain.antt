-- The words of a spelling, read again.
use Rattle.std.proofs.Common.{◌≡◌, ℕ, zero, suc, ◌<◌, ◌≤◌, ◌^◌, ◌==◌, Bool, true, false, not, List, [], ◌∷◌, ◌++◌, length, get_or, Some, refl, ap, ◌∙◌, arith}
use Rattle.std.specs.List.{list_all, slice_split, join_with_byte}
use Rattle.std.specs.Char.{is_ascii_digit}
use Rattle.std.specs.Fmt.{decimal}
use Rattle.std.proofs.lemmas.Bool.Decides.{nat_tests}
use Rattle.std.proofs.lemmas.Fmt.{decimal_digit, decimal_nonempty, first_decimal, digits_decimal, digits_value-decimal}
use Rattle.graph_value.specs.Id.{vertex_text, oid_text}
use Rattle.graph_value.specs.declared.id.VertexId.{VertexId}
use Rattle.graph_value.specs.declared.id.Oid.{Oid}
use Rattle.graph_value.specs.declared.id.Oid.TheVariants as oid
use Rattle.world_model.specs.declared.event.When.{When}
use Rattle.world_model.specs.declared.event.When.TheVariants.{Own, At}
use Rattle.world_model.specs.declared.event.Kind.{Kind}
use Rattle.world_model.specs.declared.event.Kind.TheVariants as kind
use Rattle.event_lines.specs.Words.{words_of, cut, is_number, number_below, begins_name, continues_name, is_name, name_of, oid_of, vertex_of}
use Rattle.event_lines.specs.Request.{when_of, kind_of}
use Rattle.event_lines.specs.Spelling.{when_words, kind_word, IsSpelledVertex, IsSpelledOid, IsSpelledWhen}
use Rattle.event_lines.proofs.Numbers.{own, number_below_at}

-- WORDS

abbrev pub no_space : List ℕ → Bool
no_space word = list_all (λ b. not (b == 32)) word

split_last : (word : List ℕ) → no_space word ≡ true → slice_split (λ b. b == 32) word ≡ word ∷ []
split_last [] h = refl
split_last (b ∷ bs) h =
    let parts : ((b == 32) ≡ false) × (no_space bs ≡ true) = grind (arith, nat_tests) in
    rw (parts.0, split_last bs parts.1) refl

split_word : (word rest : List ℕ) → no_space word ≡ true → slice_split (λ b. b == 32) (word ++ (32 ∷ rest)) ≡ word ∷ slice_split (λ b. b == 32) rest
split_word [] rest h = refl
split_word (b ∷ bs) rest h =
    let parts : ((b == 32) ≡ false) × (no_space bs ≡ true) = grind (arith, nat_tests) in
    rw (parts.0, split_word bs rest parts.1) refl

pub words_again : (word : List ℕ) (words : List (List ℕ)) → no_space word ≡ true → list_all no_space words ≡ true → words_of (join_with_byte 32 (word ∷ words)) ≡ word ∷ words
words_again word [] h k = split_last word h
words_again word (next ∷ words) h k =
    let parts : (no_space next ≡ true) × (list_all no_space words ≡ true) = grind arith in
    split_word word (join_with_byte 32 (next ∷ words)) h ∙ ap (λ ws. word ∷ ws) (words_again next words parts.0 parts.1)

-- NUMBERS

digits_no_space : (digits : List ℕ) → list_all is_ascii_digit digits ≡ true → no_space digits ≡ true
digits_no_space [] h = refl
digits_no_space (d ∷ ds) h =
    let parts : (48 ≤ d) × (list_all is_ascii_digit ds ≡ true) = grind (arith, nat_tests) in
    let rest = digits_no_space ds parts.1 in
    grind (arith, nat_tests)

first_digit : (digits : List ℕ) → list_all is_ascii_digit digits ≡ true → 0 < length digits → 48 ≤ get_or digits 0 0
first_digit [] h k = omega arith
first_digit (d ∷ ds) h k = grind (arith, nat_tests)

number_from : (word : List ℕ) → list_all is_ascii_digit word ≡ true → 0 < length word → (get_or word 0 0 ≡ 48 → length word ≡ 1) → is_number word ≡ true
number_from [] h k lead = absurd (omega arith)
number_from (c ∷ []) h k lead = grind (arith, nat_tests)
number_from (c ∷ d ∷ ds) h k lead =
    let other : c ≡ 48 → ⊥ = λ e. omega (arith, lead e) in
    grind (arith, nat_tests)

lone_zero : (n : ℕ) → n < 2 ^ 64 → get_or (decimal n) 0 0 ≡ 48 → length (decimal n) ≡ 1
lone_zero zero h e = rw (decimal_digit 0 (omega arith)) refl
lone_zero (suc n) h e = omega (arith, first_decimal (suc n) (omega arith) h)

decimal_is_number : (n : ℕ) → n < 2 ^ 64 → is_number (decimal n) ≡ true
decimal_is_number n h = number_from (decimal n) (digits_decimal own n h) (decimal_nonempty n h) (lone_zero n h)

pub decimal_no_space : (n : ℕ) → n < 2 ^ 64 → no_space (decimal n) ≡ true
decimal_no_space n h = digits_no_space (decimal n) (digits_decimal own n h)

pub number_again : (limit n : ℕ) → n < limit → limit ≤ 2 ^ 64 → number_below limit (decimal n) ≡ Some n
number_again limit n h k =
    let small : n < 2 ^ 64 = omega arith in
    let value = digits_value-decimal own n small in
    let computed = number_below_at limit (decimal n) (decimal_is_number n small) in
    grind (arith, nat_tests)

-- NAMES

rest_no_space : (cs : List ℕ) → list_all continues_name cs ≡ true → no_space cs ≡ true
rest_no_space [] h = refl
rest_no_space (c ∷ cs) h =
    let parts : (continues_name c ≡ true) × (list_all continues_name cs ≡ true) = grind arith in
    let other : not (c == 32) ≡ true = grind (arith, nat_tests) in
    let rest = rest_no_space cs parts.1 in
    rw (other, rest) refl

pub name_no_space : (word : List ℕ) → is_name word ≡ true → no_space word ≡ true
name_no_space [] h = refl
name_no_space (c ∷ cs) h =
    let parts : (begins_name c ≡ true) × (list_all continues_name cs ≡ true) = grind arith in
    let other : not (c == 32) ≡ true = grind (arith, nat_tests) in
    let rest = rest_no_space cs parts.1 in
    rw (other, rest) refl

pub name_again : (word : List ℕ) → is_name word ≡ true → name_of word ≡ Some word
unfolding name_of
name_again word h = rw h refl

-- OBJECTS

pub oid_again : (x : Oid) → IsSpelledOid x → oid_of (oid_text x) ≡ Some x
unfolding oid_of
oid_again (oid.Vertex id) h = rw (number_again (2 ^ 63) id.0 h (omega arith)) refl
oid_again (oid.Edge id) h = rw (number_again (2 ^ 63) id.0 h (omega arith)) refl

pub oid_no_space : (x : Oid) → IsSpelledOid x → no_space (oid_text x) ≡ true
oid_no_space (oid.Vertex id) h = decimal_no_space id.0 (omega arith)
oid_no_space (oid.Edge id) h = decimal_no_space id.0 (omega arith)

pub vertex_again : (id : VertexId) → IsSpelledVertex id → vertex_of (vertex_text id) ≡ Some id
unfolding vertex_of
vertex_again id h = rw (oid_again (oid.Vertex id) h) refl

pub vertex_no_space : (id : VertexId) → IsSpelledVertex id → no_space (vertex_text id) ≡ true
vertex_no_space id h = oid_no_space (oid.Vertex id) h

-- WHERE A WORD ENDS

pub cut_word : (word rest : List ℕ) → no_space word ≡ true → cut (word ++ 32 ∷ rest) ≡ Some (word, rest)
cut_word [] rest h = refl
cut_word (b ∷ bs) rest h =
    let parts : ((b == 32) ≡ false) × (no_space bs ≡ true) = grind (arith, nat_tests) in
    rw (parts.0, cut_word bs rest parts.1) refl

-- READS

pub when_again : (when : When) → IsSpelledWhen when → when_of (when_words when) ≡ Some when
unfolding when_of
when_again Own h = refl
when_again (At t) h = rw (number_again (2 ^ 63) t h (omega arith)) refl

pub when_no_space : (when : When) → IsSpelledWhen when → list_all no_space (when_words when) ≡ true
when_no_space Own h = refl
when_no_space (At t) h = rw (decimal_no_space t (omega (arith, h))) refl

pub kind_again : (k : Kind) → kind_of (kind_word k) ≡ Some k
unfolding kind_of
kind_again kind.Vertex = refl
kind_again kind.Edge = refl

pub kind_no_space : (k : Kind) → no_space (kind_word k) ≡ true
kind_no_space kind.Vertex = refl
kind_no_space kind.Edge = refl
