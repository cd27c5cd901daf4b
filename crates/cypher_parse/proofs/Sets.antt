-- What computes of two sets of kinds holds of each token.
use Rattle.std.proofs.Common.{◌≡◌, ◌⊎◌, inl, inr, ℕ, Bool, true, false, not, ◌&&◌, ◌||◌, ◌==◌, cond, List, [], ◌∷◌, ◌++◌, refl, sym, ap, ◌∙◌}
use Rattle.std.proofs.lemmas.Bool.{false≢true}
use Rattle.std.proofs.lemmas.Bool.Decides.{Decides-eqb}
use Rattle.cypher_parse.specs.declared.kind.Kind.{Kind}
use Rattle.cypher_parse.specs.Kinds.{number, member, disjoint, subset}
use Rattle.cypher_parse.specs.Languages.{Tokens}
use Rattle.cypher_parse.specs.Parsers.{head, some_of, heads}

either : (a b : Bool) → (a || b) ≡ true → (a ≡ true) ⊎ (b ≡ true)
either true b h = inl refl
either false b h = inr h

both_of : (a b : Bool) → (a && b) ≡ true → (a ≡ true) × (b ≡ true)
both_of true b h = (refl, h)
both_of false b h = absurd (false≢true h)

neither : (a b : Bool) → (a || b) ≡ false → (a ≡ false) × (b ≡ false)
neither true b h = absurd (false≢true (sym h))
neither false b h = (refl, h)

turned : (a : Bool) → not a ≡ true → a ≡ false
turned true h = absurd (false≢true h)
turned false h = refl

pub which : (b : Bool) → (b ≡ true) ⊎ (b ≡ false)
which true = inl refl
which false = inr refl

-- what a choice is, by how the test went
pub chosen : {X : Type 0} (b : Bool) (x y : X) → b ≡ true → cond b x y ≡ x
chosen b x y h = ap (λ b. cond b x y) h

pub other_chosen : {X : Type 0} (b : Bool) (x y : X) → b ≡ false → cond b x y ≡ y
other_chosen b x y h = ap (λ b. cond b x y) h

apart : (xs ys : List Kind) (n : ℕ) → disjoint xs ys ≡ true → member n xs ≡ true → member n ys ≡ false
apart [] ys n d h = absurd (false≢true h)
apart (x ∷ xs) ys n d h =
    let parts = both_of (not (member (number x) ys)) (disjoint xs ys) d in
    elim (either (n == number x) (member n xs) h) [
      | inl e ↦ (let same : n ≡ number x = (Decides-eqb n (number x)).0 e in ap (λ m. member m ys) same ∙ turned (member (number x) ys) parts.0)
      | inr e ↦ apart xs ys n parts.1 e
    ]

among : (xs ys : List Kind) (n : ℕ) → subset xs ys ≡ true → member n xs ≡ true → member n ys ≡ true
among [] ys n d h = absurd (false≢true h)
among (x ∷ xs) ys n d h =
    let parts = both_of (member (number x) ys) (subset xs ys) d in
    elim (either (n == number x) (member n xs) h) [
      | inl e ↦ (let same : n ≡ number x = (Decides-eqb n (number x)).0 e in ap (λ m. member m ys) same ∙ parts.0)
      | inr e ↦ among xs ys n parts.1 e
    ]

within : (xs ys : List Kind) (n : ℕ) → subset xs ys ≡ true → member n ys ≡ false → member n xs ≡ false
within xs ys n d h = elim (which (member n xs)) [
  | inl e ↦ absurd (false≢true (sym h ∙ among xs ys n d e))
  | inr e ↦ e
]

in_front : (xs ys : List Kind) (n : ℕ) → member n xs ≡ true → member n (xs ++ ys) ≡ true
in_front [] ys n h = absurd (false≢true h)
in_front (x ∷ xs) ys n h = elim (either (n == number x) (member n xs) h) [
  | inl e ↦ ap (λ b. b || member n (xs ++ ys)) e
  | inr e ↦ by (n == number x) (member n (xs ++ ys)) (in_front xs ys n e)
]
  where
    by : (a b : Bool) → b ≡ true → (a || b) ≡ true
    by true b h = refl
    by false b h = h

behind : (xs ys : List Kind) (n : ℕ) → member n ys ≡ true → member n (xs ++ ys) ≡ true
behind [] ys n h = h
behind (x ∷ xs) ys n h = by (n == number x) (member n (xs ++ ys)) (behind xs ys n h)
  where
    by : (a b : Bool) → b ≡ true → (a || b) ≡ true
    by true b h = refl
    by false b h = h

out_of_both : (xs ys : List Kind) (n : ℕ) → member n (xs ++ ys) ≡ false → (member n xs ≡ false) × (member n ys ≡ false)
out_of_both [] ys n h = (refl, h)
out_of_both (x ∷ xs) ys n h =
    let parts = neither (n == number x) (member n (xs ++ ys)) h in
    let rest = out_of_both xs ys n parts.1 in
    (ap (λ b. b || member n xs) parts.0 ∙ rest.0, rest.1)

-- ---- of the next token

-- no token of these kinds comes next
abbrev pub Stops : List Kind → Tokens → Type 0
Stops kinds ts = heads kinds ts ≡ false

pub heads_apart : (xs ys : List Kind) → disjoint xs ys ≡ true → (ts : Tokens) → heads xs ts ≡ true → Stops ys ts
heads_apart xs ys d [] h = refl
heads_apart xs ys d (t ∷ ts) h = apart xs ys (number t.kind) d h

pub heads_among : (xs ys : List Kind) → subset xs ys ≡ true → (ts : Tokens) → heads xs ts ≡ true → heads ys ts ≡ true
heads_among xs ys d [] h = absurd (false≢true h)
heads_among xs ys d (t ∷ ts) h = among xs ys (number t.kind) d h

pub stops_within : (xs ys : List Kind) → subset xs ys ≡ true → (ts : Tokens) → Stops ys ts → Stops xs ts
stops_within xs ys d [] h = refl
stops_within xs ys d (t ∷ ts) h = within xs ys (number t.kind) d h

pub heads_left : (xs ys : List Kind) (ts : Tokens) → heads xs ts ≡ true → heads (xs ++ ys) ts ≡ true
heads_left xs ys [] h = absurd (false≢true h)
heads_left xs ys (t ∷ ts) h = in_front xs ys (number t.kind) h

pub heads_right : (xs ys : List Kind) (ts : Tokens) → heads ys ts ≡ true → heads (xs ++ ys) ts ≡ true
heads_right xs ys [] h = absurd (false≢true h)
heads_right xs ys (t ∷ ts) h = behind xs ys (number t.kind) h

pub stops_left : (xs ys : List Kind) (ts : Tokens) → Stops (xs ++ ys) ts → Stops xs ts
stops_left xs ys [] h = refl
stops_left xs ys (t ∷ ts) h = (out_of_both xs ys (number t.kind) h).0

pub stops_right : (xs ys : List Kind) (ts : Tokens) → Stops (xs ++ ys) ts → Stops ys ts
stops_right xs ys [] h = refl
stops_right xs ys (t ∷ ts) h = (out_of_both xs ys (number t.kind) h).1

pub heads_alike : (kinds : List Kind) (ts us : Tokens) → head us ≡ head ts → heads kinds us ≡ heads kinds ts
heads_alike kinds ts us h = ap (some_of kinds) h

pub alike_front : (front rest other : Tokens) → head other ≡ head rest → head (front ++ other) ≡ head (front ++ rest)
alike_front [] rest other h = h
alike_front (t ∷ front) rest other h = refl

pub heads_front : (kinds : List Kind) (front back : Tokens) → heads kinds front ≡ true → heads kinds (front ++ back) ≡ true
heads_front kinds [] back h = absurd (false≢true h)
heads_front kinds (t ∷ front) back h = h
