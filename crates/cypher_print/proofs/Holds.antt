-- What holds of the value of each sentence whose tokens are those of a text.
use Rattle.std.proofs.Common.{◌≡◌, inl, inr, ℕ, ℤ, pos, ◌<◌, unsigned_abs, true, List, [], ◌∷◌, ◌++◌, length, Some, sym, ap, subst, ◌∙◌, arith}
use Rattle.cypher_parse.specs.declared.kind.Kind.{Kind}
use Rattle.cypher_parse.specs.declared.lexeme.Lexeme.{Lexeme}
use Rattle.cypher_parse.specs.declared.lexeme.Payload.{Payload}
use Rattle.cypher_parse.specs.declared.lexeme.Payload.TheVariants as payload
use Rattle.cypher_parse.specs.Kinds.{number, member}
use Rattle.cypher_parse.specs.Words.{name_in, name_of, integer_in, with_name, function_of}
use Rattle.cypher_parse.specs.Languages.{Tokens, Lang, Valued, Seq, Map, After, Before, Empty, Alt, Opt, Many, Chain, Some1, Listed}
use Rattle.cypher_parse.specs.Expressions.{Integer}
use Rattle.cypher_parse.specs.Projections.{Number}
use Rattle.cypher_print.specs.Sentences.{All, IsName}
use Rattle.cypher_print.specs.QuerySentences.{AllSome, IsSmall}

-- ---- the tokens of a text

-- a name isn't empty, and an integer has no sign and fits
abbrev pub IsReal : Payload → Type 0
IsReal payload.Bare = Unit {0}
IsReal (payload.Name n) = IsName n
IsReal (payload.Integer z) = (n : ℕ) × (z ≡ pos n) × IsSmall n
IsReal (payload.Text text) = Unit {0}

abbrev pub Real : Lexeme → Type 0
Real t = IsReal t.payload

pub front_all : {X : Type 0} (P : X → Type 0) (xs ys : List X) → All P (xs ++ ys) → All P xs
front_all P [] ys h = tt
front_all P (x ∷ xs) ys h = (h.0, front_all P xs ys h.1)

pub back_all : {X : Type 0} (P : X → Type 0) (xs ys : List X) → All P (xs ++ ys) → All P ys
back_all P [] ys h = h
back_all P (x ∷ xs) ys h = back_all P xs ys h.1

pub both_all : {X : Type 0} (P : X → Type 0) (xs ys : List X) → All P xs → All P ys → All P (xs ++ ys)
both_all P [] ys h g = g
both_all P (x ∷ xs) ys h g = (h.0, both_all P xs ys h.1 g)

-- ---- what holds of each value

pub record Holds {A : Type 0} (L : Lang A) (P : A → Type 0) : Type 0 where
  pub holds : (ts : Tokens) (a : A) → All Real ts → L ts a → P a

pub weaker : {A : Type 0} {L : Lang A} {P Q : A → Type 0} → ((a : A) → P a → Q a) → Holds L P → Holds L Q
weaker f x = record { holds = λ ts a real l. f a (x.holds ts a real l) }

pub anything : {A : Type 0} {L : Lang A} → Holds L (λ a. Unit {0})
anything = record { holds = λ ts a real l. tt }

real_front : (ts front back : Tokens) → ts ≡ front ++ back → All Real ts → All Real front
real_front ts front back e real = front_all Real front back (subst (λ ts. All Real ts) e real)

real_back : (ts front back : Tokens) → ts ≡ front ++ back → All Real ts → All Real back
real_back ts front back e real = back_all Real front back (subst (λ ts. All Real ts) e real)

pub of_seq : {A B : Type 0} {L : Lang A} {M : Lang B} {P : A → Type 0} {Q : B → Type 0} → Holds L P → Holds M Q → Holds (Seq L M) (λ p. P p.0 × Q p.1)
of_seq x y = record { holds = λ ts p real l. (x.holds l.0 p.0 (real_front ts l.0 l.1 l.2 real) l.3, y.holds l.1 p.1 (real_back ts l.0 l.1 l.2 real) l.4) }

pub of_map : {A B : Type 0} {L : Lang A} {P : A → Type 0} (f : A → B) (Q : B → Type 0) → ((a : A) → P a → Q (f a)) → Holds L P → Holds (Map f L) Q
of_map f Q g x = record { holds = λ ts b real l. subst Q l.2 (g l.0 (x.holds ts l.0 real l.1)) }

pub of_after : {A : Type 0} (kinds : List Kind) {L : Lang A} {P : A → Type 0} → Holds L P → Holds (After kinds L) P
of_after kinds {P = P} x = record { holds = λ ts a real l. (let s = l.1 in subst P l.2 (x.holds s.1 l.0.1 (real_back ts s.0 s.1 s.2 real) s.4)) }

pub of_before : {A : Type 0} (kinds : List Kind) {L : Lang A} {P : A → Type 0} → Holds L P → Holds (Before L kinds) P
of_before kinds {P = P} x = record { holds = λ ts a real l. (let s = l.1 in subst P l.2 (x.holds s.0 l.0.0 (real_front ts s.0 s.1 s.2 real) s.3)) }

pub of_alt : {A : Type 0} {L M : Lang A} {P : A → Type 0} → Holds L P → Holds M P → Holds (Alt L M) P
of_alt {L = L} {M = M} {P = P} x y = record { holds = λ ts a real l. by ts a real l }
  where
    by : (ts : Tokens) (a : _) → All Real ts → Alt L M ts a → P a
    by ts a real (inl l) = x.holds ts a real l
    by ts a real (inr m) = y.holds ts a real m

pub of_empty : {A : Type 0} (a : A) (P : A → Type 0) → P a → Holds (Empty a) P
of_empty a P h = record { holds = λ ts b real l. subst P l.1 h }

pub of_opt : {A : Type 0} {L : Lang A} {P : A → Type 0} (a : A) → P a → Holds L P → Holds (Opt a L) P
of_opt {P = P} a h x = of_alt x (of_empty a P h)

pub of_many : {A : Type 0} {L : Lang A} {P : A → Type 0} → Holds L P → Holds (Many L) (All P)
of_many {L = L} {P = P} x = record { holds = λ ts xs real l. by ts xs real l }
  where
    by : (ts : Tokens) (xs : List _) → All Real ts → Many L ts xs → All P xs
    by ts [] real l = tt
    by ts (a ∷ xs) real l = (x.holds l.0 a (real_front ts l.0 l.1 l.2 real) l.3, by l.1 xs (real_back ts l.0 l.1 l.2 real) l.4)

pub of_chain : {A B : Type 0} {L : Lang A} {M : Lang B} {P : A → Type 0} {Q : B → Type 0} → Holds L P → Holds M Q → Holds (Chain L M) (λ p. P p.0 × All Q p.1)
of_chain x y = of_seq x (of_many y)

all_some : {X : Type 0} (P : X → Type 0) (x : X) (xs : List X) → P x → All P xs → AllSome P (x ∷ xs)
all_some P x xs h are = let some : 0 < length (x ∷ xs) = omega arith in (some, (h, are))

pub of_some : {A : Type 0} {L : Lang A} {P : A → Type 0} → Holds L P → Holds (Some1 L) (AllSome P)
of_some {P = P} x = of_map (λ p. p.0 ∷ p.1) (AllSome P) (λ p h. all_some P p.0 p.1 h.0 h.1) (of_chain x x)

pub of_listed : {A : Type 0} (kinds : List Kind) {L : Lang A} {P : A → Type 0} → Holds L P → Holds (Listed kinds L) (AllSome P)
of_listed kinds {P = P} x = of_map (λ p. p.0 ∷ p.1) (AllSome P) (λ p h. all_some P p.0 p.1 h.0 h.1) (of_chain x (of_after kinds x))

-- ---- tokens that carry something

named : (p : Payload) (n : List ℕ) → IsReal p → name_in p ≡ Some n → IsName n
named payload.Bare n real e = absurd (cc)
named (payload.Name m) n real e = let same : m ≡ n = cc in subst IsName same real
named (payload.Integer z) n real e = absurd (cc)
named (payload.Text text) n real e = absurd (cc)

pub of_name : (kinds : List Kind) → Holds (Valued kinds name_of) IsName
of_name kinds = record { holds = λ ts n real l. named l.0.payload n (subst (λ ts. All Real ts) l.1 real).0 l.3 }

whole : (p : Payload) (z : ℤ) → IsReal p → integer_in p ≡ Some z → (n : ℕ) × (z ≡ pos n) × IsSmall n
whole payload.Bare z real e = absurd (cc)
whole (payload.Name m) z real e = absurd (cc)
whole (payload.Integer y) z real e = let same : y ≡ z = cc in (real.0, sym same ∙ real.1, real.2)
whole (payload.Text text) z real e = absurd (cc)

pub of_integer : Holds Integer (λ z. (n : ℕ) × (z ≡ pos n) × IsSmall n)
of_integer = record { holds = λ ts z real l. whole l.0.payload z (subst (λ ts. All Real ts) l.1 real).0 l.3 }

pub of_number : Holds Number IsSmall
of_number = of_map unsigned_abs IsSmall (λ z h. subst IsSmall (sym (ap unsigned_abs h.1)) h.2) of_integer

-- a function's word: a name, and its kind
abbrev pub IsFunction : List Kind → Kind × List ℕ → Type 0
IsFunction kinds f = (member (number f.0) kinds ≡ true) × IsName f.1

function : (kinds : List Kind) (kind : Kind) (p : Payload) (f : Kind × List ℕ) → member (number kind) kinds ≡ true → IsReal p → with_name kind (name_in p) ≡ Some f → IsFunction kinds f
function kinds kind payload.Bare f is real e = absurd (cc)
function kinds kind (payload.Name m) f is real e = let same : (kind, m) ≡ f = cc in subst (IsFunction kinds) same (is, real)
function kinds kind (payload.Integer y) f is real e = absurd (cc)
function kinds kind (payload.Text text) f is real e = absurd (cc)

pub of_function : (kinds : List Kind) → Holds (Valued kinds function_of) (IsFunction kinds)
of_function kinds = record { holds = λ ts f real l. function kinds l.0.kind l.0.payload f l.2 (subst (λ ts. All Real ts) l.1 real).0 l.3 }
