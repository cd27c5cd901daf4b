-- A parser that nests deeper answers the same, but where the other found too much open; there it goes on.
use Rattle.std.proofs.Common.{◌≡◌, inl, inr, ℕ, zero, suc, Bool, true, false, cond, List, [], ◌∷◌, ◌++◌, length, Option, Some, None, refl, sym, ap, ◌∙◌, subst}
use Rattle.std.proofs.lemmas.List.{append_assoc, append-nil}
use Rattle.cypher_parse.specs.declared.kind.Kind.{Kind}
use Rattle.cypher_parse.specs.declared.lexeme.Lexeme.{Lexeme}
use Rattle.cypher_parse.specs.Answer.{Begins}
use Rattle.cypher_parse.specs.Languages.{Tokens, Lang, is_of, Seq, Map, Many}
use Rattle.cypher_parse.specs.Parsers.{Outcome, Done, Fault, Parser, and_then, heads, one, carried, valued, seq, map_out, empty, alt, many_in, many}
use Rattle.cypher_parse.proofs.Sets.{which, chosen, other_chosen}
use Rattle.cypher_parse.proofs.Exact.{Shape, Exact, then_fault, done_fault}

-- ---- the same answer

abbrev pub Agrees : {A : Type 0} → Outcome A → Outcome A → Type 0
Agrees (Done a rest) o = o ≡ Done a rest
Agrees (Fault true rest) o = Unit {0}
Agrees (Fault false rest) o = o ≡ Fault false rest

abbrev pub Deeper : {A : Type 0} → Parser A → Parser A → Type 0
Deeper p q = (ts : Tokens) → Agrees (p ts) (q ts)

pub agrees_itself : {A : Type 0} (o : Outcome A) → Agrees o o
agrees_itself (Done a rest) = refl
agrees_itself (Fault true rest) = tt
agrees_itself (Fault false rest) = refl

pub agrees_on : {A : Type 0} (o p q : Outcome A) → Agrees o p → Agrees p q → Agrees o q
agrees_on (Done a rest) p q h g = subst (λ p. Agrees p q) h g
agrees_on (Fault true rest) p q h g = tt
agrees_on (Fault false rest) p q h g = subst (λ p. Agrees p q) h g

pub then_deeper : {A B : Type 0} (o p : Outcome A) (f g : A → Parser B) → Agrees o p → ((a : A) (rest : Tokens) → Agrees (f a rest) (g a rest)) → Agrees (and_then o f) (and_then p g)
then_deeper (Done a rest) p f g h k = subst (λ p. Agrees (f a rest) (and_then p g)) (sym h) (k a rest)
then_deeper (Fault true rest) p f g h k = tt
then_deeper (Fault false rest) p f g h k = ap (λ p. and_then p g) h

pub if_deeper : {A : Type 0} (b : Bool) (o o' p p' : Outcome A) → Agrees o o' → Agrees p p' → Agrees (cond b o p) (cond b o' p')
if_deeper true o o' p p' h g = h
if_deeper false o o' p p' h g = g

pub seq_deeper : {A B : Type 0} (p p' : Parser A) (q q' : Parser B) → Deeper p p' → Deeper q q' → Deeper (seq p q) (seq p' q')
seq_deeper p p' q q' h g ts =
    then_deeper (p ts) (p' ts) (λ a rest. and_then (q rest) (λ b rest. Done (a, b) rest)) (λ a rest. and_then (q' rest) (λ b rest. Done (a, b) rest)) (h ts)
    (λ a rest. then_deeper (q rest) (q' rest) (λ b rest. Done (a, b) rest) (λ b rest. Done (a, b) rest) (g rest) (λ b rest. refl))

pub map_deeper : {A B : Type 0} (f : A → B) (p p' : Parser A) → Deeper p p' → Deeper (map_out f p) (map_out f p')
map_deeper f p p' h ts = then_deeper (p ts) (p' ts) (λ a rest. Done (f a) rest) (λ a rest. Done (f a) rest) (h ts) (λ a rest. refl)

pub alt_deeper : {A : Type 0} (kinds : List Kind) (p p' q q' : Parser A) → Deeper p p' → Deeper q q' → Deeper (alt kinds p q) (alt kinds p' q')
alt_deeper kinds p p' q q' h g ts = if_deeper (heads kinds ts) (p ts) (p' ts) (q ts) (q' ts) (h ts) (g ts)

many_in_deeper : {A : Type 0} (n : ℕ) (kinds : List Kind) (p p' : Parser A) → Deeper p p' → Deeper (many_in n kinds p) (many_in n kinds p')
many_in_deeper zero kinds p p' h ts = if_deeper (heads kinds ts) (Fault false ts) (Fault false ts) (Done [] ts) (Done [] ts) refl refl
many_in_deeper {A} (suc n) kinds p p' h ts =
    let later : Parser A → A → Parser (List A) = λ p a rest. and_then (many_in n kinds p rest) (λ items rest. Done (a ∷ items) rest) in
    if_deeper (heads kinds ts) (and_then (p ts) (later p)) (and_then (p' ts) (later p')) (Done [] ts) (Done [] ts)
    (then_deeper (p ts) (p' ts) (later p) (later p') (h ts)
    (λ a rest. then_deeper (many_in n kinds p rest) (many_in n kinds p' rest) (λ items rest. Done (a ∷ items) rest) (λ items rest. Done (a ∷ items) rest) (many_in_deeper n kinds p p' h rest) (λ items rest. refl)))
    refl

pub many_deeper : {A : Type 0} (kinds : List Kind) (p p' : Parser A) → Deeper p p' → Deeper (many kinds p) (many kinds p')
many_deeper kinds p p' h ts = many_in_deeper (length ts) kinds p p' h ts

-- ---- where too much is open, the deeper language goes on

abbrev pub Opened : {A : Type 0} → Lang A → Tokens → Tokens → Type 0
Opened L ts rest = (front : Tokens) × (t : Lexeme) × (back : Tokens) × (ts ≡ front ++ t ∷ back) × (rest ≡ t ∷ back) × Begins L (front ++ t ∷ [])

abbrev pub Opens : {A : Type 0} → Lang A → Parser A → Type 0
Opens L p = (ts : Tokens) (rest : Tokens) → p ts ≡ Fault true rest → Opened L ts rest

abbrev pub Grows : {A : Type 0} → Lang A → Lang A → Type 0
Grows {A} L M = (ts : Tokens) (a : A) → L ts a → M ts a

-- all of what a parser reads
pub sentence : {A : Type 0} (L : Lang A) (p : Parser A) (s : Shape) → Exact L p s → (ts : Tokens) (a : A) → p ts ≡ Done a [] → L ts a
sentence L p s E ts a h = let d = E.done ts a [] h in subst (λ ts. L ts a) (sym (d.1 ∙ append-nil d.0)) d.2

pub is_read : {A : Type 0} (L : Lang A) (p : Parser A) (s : Shape) → Exact L p s → (ts : Tokens) (a : A) → L ts a → p ts ≡ Done a []
is_read L p s E ts a l = ap p (sym (append-nil ts)) ∙ E.all ts a [] l refl

pub grows : {A : Type 0} (L M : Lang A) (p q : Parser A) (s u : Shape) → Exact L p s → Exact M q u → Deeper p q → Grows L M
grows L M p q s u E F h ts a l =
    sentence M q u F ts a (subst (λ o. Agrees o (q ts)) (is_read L p s E ts a l) (h ts))

-- a fault of the syntax is none of the depth
abbrev pub IsDeep : {A : Type 0} → Outcome A → Type 0
IsDeep (Done a rest) = ⊥
IsDeep (Fault true rest) = Unit {0}
IsDeep (Fault false rest) = ⊥

pub alt_opens : {A : Type 0} (kinds : List Kind) (L : Lang A) (p q : Parser A) → Opens L p → Opens L q → Opens L (alt kinds p q)
alt_opens kinds L p q O P ts rest h = elim (which (heads kinds ts)) [
  | inl e ↦ O ts rest (sym (chosen (heads kinds ts) (p ts) (q ts) e) ∙ h)
  | inr e ↦ P ts rest (sym (other_chosen (heads kinds ts) (p ts) (q ts) e) ∙ h)
]

pub opens_in : {A : Type 0} (L M : Lang A) (p : Parser A) → Grows L M → Opens L p → Opens M p
opens_in L M p w O ts rest h = let o = O ts rest h in (o.0, o.1, o.2, o.3, o.4, (o.5.0, o.5.1, w (o.0 ++ o.1 ∷ [] ++ o.5.0) o.5.1 o.5.2))

pub one_opens : (L : Lang Lexeme) (kinds : List Kind) → Opens L (one kinds)
one_opens L kinds ts rest h = absurd (by ts h)
  where
    step : (b : Bool) (u : Lexeme) (us : Tokens) → cond b (Done u us) (Fault false (u ∷ us)) ≡ Fault true rest → ⊥
    step true u us h = done_fault u true us rest h
    step false u us h = absurd (cc)

    by : (ts : Tokens) → one kinds ts ≡ Fault true rest → ⊥
    by [] h = absurd (cc)
    by (u ∷ us) h = step (is_of kinds u) u us h

pub valued_opens : {A : Type 0} (L : Lang A) (kinds : List Kind) (of : Lexeme → Option A) → Opens L (valued kinds of)
valued_opens {A} L kinds of ts rest h = absurd (by ts h)
  where
    held : (o : Option A) (u : Lexeme) (us : Tokens) → carried o u us ≡ Fault true rest → ⊥
    held None u us h = absurd (cc)
    held (Some a) u us h = done_fault a true us rest h

    step : (b : Bool) (u : Lexeme) (us : Tokens) → cond b (carried (of u) u us) (Fault false (u ∷ us)) ≡ Fault true rest → ⊥
    step true u us h = held (of u) u us h
    step false u us h = absurd (cc)

    by : (ts : Tokens) → valued kinds of ts ≡ Fault true rest → ⊥
    by [] h = absurd (cc)
    by (u ∷ us) h = step (is_of kinds u) u us h

module _ {A B : Type 0} (L L' : Lang A) (M : Lang B) (p : Parser A) (q : Parser B) (s : Shape) (E : Exact L p s) (wider : Grows L L') (O : Opens L' p) (some : (ts : Tokens) × (b : B) × M ts b) (P : Opens M q) where
  pub seq_opens : Opens (Seq L' M) (seq p q)
  seq_opens ts rest h = elim (then_fault (p ts) (λ a rest. and_then (q rest) (λ b rest. Done (a, b) rest)) true rest h) [
    | inl e ↦ (
        let o = O ts rest e in
        let b = o.5 in
        let front = o.0 ++ o.1 ∷ [] in
        (o.0, o.1, o.2, o.3, o.4, (b.0 ++ some.0, (b.1, some.1), (front ++ b.0, some.0, sym (append_assoc front b.0 some.0), b.2, some.2))))
    | inr x ↦ elim (then_fault (q x.1) (λ b rest. Done (x.0, b) rest) true rest x.3) [
      | inr y ↦ absurd (done_fault (x.0, y.0) true y.1 rest y.3)
      | inl e ↦ (
          let d = E.done ts x.0 x.1 x.2 in
          let o = P x.1 rest e in
          let b = o.5 in
          let t = o.1 in (
            d.0 ++ o.0,
            t,
            o.2,
            d.1 ∙ ap (λ mid. d.0 ++ mid) o.3 ∙ sym (append_assoc d.0 o.0 (t ∷ o.2)),
            o.4,
            (b.0, (x.0, b.1), (d.0, o.0 ++ t ∷ [] ++ b.0, ap (λ ts. ts ++ b.0) (append_assoc d.0 o.0 (t ∷ [])) ∙ append_assoc d.0 (o.0 ++ t ∷ []) b.0, wider d.0 x.0 d.2, b.2)),
          ))
    ]
  ]

module _ {A B : Type 0} (f : A → B) (L : Lang A) (p : Parser A) (O : Opens L p) where
  pub map_opens : Opens (Map f L) (map_out f p)
  map_opens ts rest h = elim (then_fault (p ts) (λ a rest. Done (f a) rest) true rest h) [
    | inl e ↦ (let o = O ts rest e in (o.0, o.1, o.2, o.3, o.4, (o.5.0, f o.5.1, (o.5.1, o.5.2, refl))))
    | inr x ↦ absurd (done_fault (f x.0) true x.1 rest x.3)
  ]

pub empty_opens : {A : Type 0} (none : A) (L : Lang A) → Opens L (empty none)
empty_opens none L ts rest h = absurd (done_fault none true ts rest h)

module _ {A : Type 0} (kinds : List Kind) (L L' : Lang A) (p : Parser A) (s : Shape) (E : Exact L p s) (wider : Grows L L') (O : Opens L' p) where
  many_in_opens : (n : ℕ) → Opens (Many L') (many_in n kinds p)
  many_in_opens zero ts rest h = elim (which (heads kinds ts)) [
    | inl e ↦ absurd (subst IsDeep (sym (sym (chosen (heads kinds ts) (Fault false ts) (Done [] ts) e) ∙ h)) tt)
    | inr e ↦ absurd (done_fault [] true ts rest (sym (other_chosen (heads kinds ts) (Fault false ts) (Done [] ts) e) ∙ h))
  ]
  many_in_opens (suc n) ts rest h =
      let later : A → Parser (List A) = λ a rest. and_then (many_in n kinds p rest) (λ items rest. Done (a ∷ items) rest) in
      elim (which (heads kinds ts)) [
        | inr e ↦ absurd (done_fault [] true ts rest (sym (other_chosen (heads kinds ts) (and_then (p ts) later) (Done [] ts) e) ∙ h))
        | inl e ↦ elim (then_fault (p ts) later true rest (sym (chosen (heads kinds ts) (and_then (p ts) later) (Done [] ts) e) ∙ h)) [
          | inl bad ↦ (
              let o = O ts rest bad in
              let b = o.5 in
              let whole = o.0 ++ o.1 ∷ [] ++ b.0 in
              (o.0, o.1, o.2, o.3, o.4, (b.0, b.1 ∷ [], (whole, [], sym (append-nil whole), b.2, refl))))
          | inr x ↦ elim (then_fault (many_in n kinds p x.1) (λ items rest. Done (x.0 ∷ items) rest) true rest x.3) [
            | inr y ↦ absurd (done_fault (x.0 ∷ y.0) true y.1 rest y.3)
            | inl bad ↦ (
                let d = E.done ts x.0 x.1 x.2 in
                let o = many_in_opens n x.1 rest bad in
                let b = o.5 in
                let t = o.1 in (
                  d.0 ++ o.0,
                  t,
                  o.2,
                  d.1 ∙ ap (λ mid. d.0 ++ mid) o.3 ∙ sym (append_assoc d.0 o.0 (t ∷ o.2)),
                  o.4,
                  (b.0, x.0 ∷ b.1, (d.0, o.0 ++ t ∷ [] ++ b.0, ap (λ ts. ts ++ b.0) (append_assoc d.0 o.0 (t ∷ [])) ∙ append_assoc d.0 (o.0 ++ t ∷ []) b.0, wider d.0 x.0 d.2, b.2)),
                ))
          ]
        ]
      ]

  pub many_opens : Opens (Many L') (many kinds p)
  many_opens ts rest h = many_in_opens (length ts) ts rest h
