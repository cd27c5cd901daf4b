-- The tokens of lists and of properties as they are written, one element behind the other.
use Rattle.std.proofs.Common.{◌≡◌, ℕ, zero, suc, ◌+◌, ◌<◌, List, [], ◌∷◌, ◌++◌, length, map, take, get_or, append_assoc, refl, sym, ap, ◌∙◌, arith, add-one}
use Rattle.std.proofs.lemmas.List.{take_all, append-nil}
use Rattle.json.specs.Token.{Token, begin_object, end_object, begin_array, end_array, key}
use Rattle.json.specs.Tree.{items_tokens, members_tokens}
use Rattle.json.specs.Written.{Written}
use Rattle.serde_json.specs.Data.{Data, array, object}
use Rattle.serde_json.specs.View.{items_of}
use Rattle.serde_json.specs.Written.{items_outline, members_outline}
use Rattle.graph_value.specs.declared.value.Value.{Value}
use Rattle.graph_reader.specs.Json.{value_data, property_members}
use Rattle.graph_reader.specs.Writing.{tokens_of}

-- since the writer began, these tokens were written
pub record Wrote (old now : Written) (front : List Token) : Type 0 where
  pub tokens : now.tokens ≡ old.tokens ++ front
  pub before : now.before ≡ old.before

-- the elements of a list, without its brackets
abbrev pub elements : List Data → List Token
elements [] = []
elements (d ∷ ds) = tokens_of d ++ elements ds

-- properties, without their braces
abbrev pub members : List (List ℕ × Value) → List Token
members [] = []
members (p ∷ ps) = key p.0 ∷ (tokens_of (value_data p.1) ++ members ps)

items_end : (ds : List Data) → items_tokens (items_outline (items_of ds)) ≡ elements ds ++ end_array ∷ []
items_end [] = refl
items_end (d ∷ ds) = ap (λ ts. tokens_of d ++ ts) (items_end ds) ∙ sym (append_assoc (tokens_of d) (elements ds) (end_array ∷ []))

pub array_tokens : (ds : List Data) → tokens_of (array (items_of ds)) ≡ (begin_array ∷ elements ds) ++ end_array ∷ []
array_tokens ds = ap (λ ts. begin_array ∷ ts) (items_end ds)

members_end : (ps : List (List ℕ × Value)) → members_tokens (members_outline (property_members ps)) ≡ members ps ++ end_object ∷ []
members_end [] = refl
members_end (p ∷ ps) =
    ap (λ ts. key p.0 ∷ (tokens_of (value_data p.1) ++ ts)) (members_end ps)
    ∙ ap (λ ts. key p.0 ∷ ts) (sym (append_assoc (tokens_of (value_data p.1)) (members ps) (end_object ∷ [])))

pub properties_tokens : (ps : List (List ℕ × Value)) → tokens_of (object (property_members ps)) ≡ (begin_object ∷ members ps) ++ end_object ∷ []
properties_tokens ps = ap (λ ts. begin_object ∷ ts) (members_end ps)

elements_more : {A : Type 0} (f : A → Data) (xs : List A) (i : ℕ) (d : A) → i < length xs → elements (map f (take (suc i) xs)) ≡ elements (map f (take i xs)) ++ tokens_of (f (get_or xs i d))
elements_more f [] i d h = absurd (omega arith)
elements_more f (x ∷ xs) zero d h = append-nil (tokens_of (f x))
elements_more f (x ∷ xs) (suc i) d h =
    ap (λ ts. tokens_of (f x) ++ ts) (elements_more f xs i d (omega arith))
    ∙ sym (append_assoc (tokens_of (f x)) (elements (map f (take i xs))) (tokens_of (f (get_or xs i d))))

members_more : (ps : List (List ℕ × Value)) (i : ℕ) (d : List ℕ × Value) → i < length ps → members (take (suc i) ps) ≡ members (take i ps) ++ key (get_or ps i d).0 ∷ tokens_of (value_data (get_or ps i d).1)
members_more [] i d h = absurd (omega arith)
members_more (p ∷ ps) zero d h = ap (λ ts. key p.0 ∷ ts) (append-nil (tokens_of (value_data p.1)))
members_more (p ∷ ps) (suc i) d h =
    ap (λ ts. key p.0 ∷ (tokens_of (value_data p.1) ++ ts)) (members_more ps i d (omega arith))
    ∙ ap (λ ts. key p.0 ∷ ts) (sym (append_assoc (tokens_of (value_data p.1)) (members (take i ps)) (key (get_or ps i d).0 ∷ tokens_of (value_data (get_or ps i d).1))))

-- one element more is written
pub element_written : {A : Type 0} (f : A → Data) (xs : List A) (i : ℕ) (d : A) (start now next : List Token) →
    i < length xs → now ≡ start ++ begin_array ∷ elements (map f (take i xs)) → next ≡ now ++ tokens_of (f (get_or xs i d)) →
    next ≡ start ++ begin_array ∷ elements (map f (take (i + 1) xs))
element_written f xs i d start now next h was is =
    is ∙ ap (λ ts. ts ++ tokens_of (f (get_or xs i d))) was
    ∙ append_assoc start (begin_array ∷ elements (map f (take i xs))) (tokens_of (f (get_or xs i d)))
    ∙ ap (λ ts. start ++ begin_array ∷ ts) (sym (elements_more f xs i d h))
    ∙ ap (λ n. start ++ begin_array ∷ elements (map f (take n xs))) (sym (add-one i))

-- and at last the bracket
pub array_written : {A : Type 0} (f : A → Data) (xs : List A) (i : ℕ) (start now next : List Token) →
    length xs ≡ i → now ≡ start ++ begin_array ∷ elements (map f (take i xs)) → next ≡ now ++ end_array ∷ [] →
    next ≡ start ++ tokens_of (array (items_of (map f xs)))
array_written f xs i start now next h was is =
    is ∙ ap (λ ts. ts ++ end_array ∷ []) was
    ∙ append_assoc start (begin_array ∷ elements (map f (take i xs))) (end_array ∷ [])
    ∙ ap (λ ys. start ++ ((begin_array ∷ elements (map f ys)) ++ end_array ∷ [])) (take_all i xs (omega arith))
    ∙ ap (λ ts. start ++ ts) (sym (array_tokens (map f xs)))

pub member_written : (ps : List (List ℕ × Value)) (i : ℕ) (d : List ℕ × Value) (start now keyed next : List Token) →
    i < length ps → now ≡ start ++ begin_object ∷ members (take i ps) → keyed ≡ now ++ key (get_or ps i d).0 ∷ [] → next ≡ keyed ++ tokens_of (value_data (get_or ps i d).1) →
    next ≡ start ++ begin_object ∷ members (take (i + 1) ps)
member_written ps i d start now keyed next h was named is =
    is ∙ ap (λ ts. ts ++ tokens_of (value_data (get_or ps i d).1)) named
    ∙ append_assoc now (key (get_or ps i d).0 ∷ []) (tokens_of (value_data (get_or ps i d).1))
    ∙ ap (λ ts. ts ++ key (get_or ps i d).0 ∷ tokens_of (value_data (get_or ps i d).1)) was
    ∙ append_assoc start (begin_object ∷ members (take i ps)) (key (get_or ps i d).0 ∷ tokens_of (value_data (get_or ps i d).1))
    ∙ ap (λ ts. start ++ begin_object ∷ ts) (sym (members_more ps i d h))
    ∙ ap (λ n. start ++ begin_object ∷ members (take n ps)) (sym (add-one i))

pub properties_written : (ps : List (List ℕ × Value)) (i : ℕ) (start now next : List Token) →
    length ps ≡ i → now ≡ start ++ begin_object ∷ members (take i ps) → next ≡ now ++ end_object ∷ [] →
    next ≡ start ++ tokens_of (object (property_members ps))
properties_written ps i start now next h was is =
    is ∙ ap (λ ts. ts ++ end_object ∷ []) was
    ∙ append_assoc start (begin_object ∷ members (take i ps)) (end_object ∷ [])
    ∙ ap (λ qs. start ++ ((begin_object ∷ members qs) ++ end_object ∷ [])) (take_all i ps (omega arith))
    ∙ ap (λ ts. start ++ ts) (sym (properties_tokens ps))

-- seven parts, each written behind those before it
pub seven_written : (start a b c d e f g t1 t2 t3 t4 t5 t6 t7 : List Token) →
    t1 ≡ start ++ a → t2 ≡ t1 ++ b → t3 ≡ t2 ++ c → t4 ≡ t3 ++ d → t5 ≡ t4 ++ e → t6 ≡ t5 ++ f → t7 ≡ t6 ++ g →
    t7 ≡ start ++ (a ++ (b ++ (c ++ (d ++ (e ++ (f ++ g))))))
seven_written start a b c d e f g t1 t2 t3 t4 t5 t6 t7 e1 e2 e3 e4 e5 e6 e7 = rw (e7, e6, e5, e4, e3, e2, e1) (simp append_assoc)
