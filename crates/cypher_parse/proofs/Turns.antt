-- What a function has read, token by token and turn by turn.
use Rattle.std.proofs.Common.{◌≡◌, inl, inr, ℕ, zero, suc, ◌≤◌, ◌<◌, Bool, true, false, List, [], ◌∷◌, ◌++◌, length, drop, refl, sym, ap, ◌∙◌, arith}
use Rattle.std.proofs.lemmas.List.{append_assoc, append-nil, length-append}
use Rattle.std.proofs.lemmas.Bool.{false≢true}
use Rattle.cypher_parse.specs.declared.kind.Kind.{Kind}
use Rattle.cypher_parse.specs.declared.lexeme.Lexeme.{Lexeme}
use Rattle.cypher_parse.specs.Languages.{Tokens, Lang, is_of}
use Rattle.cypher_parse.specs.Expressions.{flat}
use Rattle.cypher_parse.specs.Parsers.{Outcome, Done, Fault, Parser, and_then, heads, one, seq, map_out, after, many_in, many}
use Rattle.cypher_parse.proofs.Sets.{which, chosen, other_chosen}
use Rattle.cypher_parse.proofs.Exact.{Shape, Exact}

-- a token of these kinds is passed
pub passes : (kinds : List Kind) (ts new : Tokens) → heads kinds ts ≡ true → new ≡ drop 1 ts → (t : Lexeme) × (one kinds ts ≡ Done t new)
passes kinds [] new h n = absurd (false≢true h)
passes kinds (t ∷ ts) new h n = (t, chosen (is_of kinds t) (Done t ts) (Fault false (t ∷ ts)) h ∙ ap (Done t) (sym n))

lift : {A : Type 0} (t : Lexeme) (o : Outcome A) → and_then {A = Lexeme × A} (and_then {A = A} {B = Lexeme × A} o (λ b rest. Done (t, b) rest)) (λ p rest. Done p.1 rest) ≡ o
lift t (Done a rest) = refl
lift t (Fault k rest) = refl

-- behind a token of these kinds, what follows it
pub after_passed : {A : Type 0} (kinds : List Kind) (p : Parser A) (ts new : Tokens) → heads kinds ts ≡ true → new ≡ drop 1 ts → after kinds p ts ≡ p new
after_passed {A} kinds p ts new h n =
    let t = passes kinds ts new h n in
    ap (λ o. and_then {A = Lexeme × A} (and_then {A = Lexeme} {B = Lexeme × A} o (λ a rest. and_then {A = A} {B = Lexeme × A} (p rest) (λ b rest. Done (a, b) rest))) (λ p rest. Done p.1 rest)) t.1
    ∙ lift t.0 (p new)

-- ---- loops

-- what was gathered, with what the rest gives
abbrev pub gathered : {A : Type 0} → List Kind → Parser A → List A → Tokens → Outcome (List A)
gathered kinds q found ts = and_then (many kinds q ts) (λ items rest. Done (found ++ items) rest)

module _ {A : Type 0} (kinds : List Kind) (q : Parser A) where
  abbrev more_turns : ℕ → A → Parser (List A)
  more_turns n a rest = and_then (many_in n kinds q rest) (λ items rest. Done (a ∷ items) rest)

  -- a fault in a turn is one of the whole
  pub fault_turn : (start : Outcome (List A)) (found : List A) (ts rest : Tokens) (k : Bool) → start ≡ gathered kinds q found ts → heads kinds ts ≡ true → q ts ≡ Fault k rest → start ≡ Fault k rest
  fault_turn start found [] rest k inv e is = absurd (false≢true e)
  fault_turn start found (t ∷ ts) rest k inv e is =
      inv ∙ ap (λ o. and_then o (λ items rest. Done (found ++ items) rest)) (chosen (is_of kinds t) (and_then (q (t ∷ ts)) (more_turns (length ts))) (Done [] (t ∷ ts)) e ∙ ap (λ o. and_then o (more_turns (length ts))) is)

  pub last_turn : (start : Outcome (List A)) (found : List A) (ts : Tokens) → start ≡ gathered kinds q found ts → heads kinds ts ≡ false → start ≡ Done found ts
  last_turn start found ts inv e =
      inv ∙ ap (λ o. and_then o (λ items rest. Done (found ++ items) rest)) (ends (length ts) ts e) ∙ ap (λ found. Done found ts) (append-nil found)
    where
      ends : (n : ℕ) (ts : Tokens) → heads kinds ts ≡ false → many_in n kinds q ts ≡ Done [] ts
      ends zero ts e = other_chosen (heads kinds ts) (Fault false ts) (Done [] ts) e
      ends (suc n) ts e = other_chosen (heads kinds ts) (and_then (q ts) (more_turns n)) (Done [] ts) e

module _ {A : Type 0} (kinds : List Kind) (L : Lang A) (q : Parser A) (s : Shape) (E : Exact L q s) (full : s.empty ≡ false) where
  -- a turn takes a token
  pub shrinks : (ts : Tokens) (a : A) (mid : Tokens) → q ts ≡ Done a mid → length mid < length ts
  shrinks ts a mid h =
      let d = E.done ts a mid h in
      let whole : length ts ≡ length (d.0 ++ mid) = ap length d.1 in
      elim (E.starts d.0 a d.2) [
        | inl f ↦ (let some : 0 < length d.0 = taken d.0 f in omega (arith, whole, some, length-append d.0 mid))
        | inr e ↦ absurd (false≢true (sym full ∙ e.1))
      ]
    where
      taken : (ts : Tokens) → heads s.first ts ≡ true → 0 < length ts
      taken [] f = absurd (false≢true f)
      taken (t ∷ ts) f = omega arith

  abbrev later : ℕ → A → Parser (List A)
  later n a rest = and_then (many_in n kinds q rest) (λ items rest. Done (a ∷ items) rest)

  same : (n m : ℕ) (t : Lexeme) (ts : Tokens) (o : Outcome A) → q (t ∷ ts) ≡ o → ((mid : Tokens) → length mid < length (t ∷ ts) → many_in n kinds q mid ≡ many_in m kinds q mid) → and_then o (later n) ≡ and_then o (later m)
  same n m t ts (Fault k rest) h ih = refl
  same n m t ts (Done a mid) h ih = ap (λ o. and_then o (λ items rest. Done (a ∷ items) rest)) (ih mid (shrinks (t ∷ ts) a mid h))

  -- enough turns are enough
  fuel : (n m : ℕ) (ts : Tokens) → length ts ≤ n → length ts ≤ m → many_in n kinds q ts ≡ many_in m kinds q ts
  fuel n m [] le le' = by n ∙ sym (by m)
    where
      by : (n : ℕ) → many_in n kinds q [] ≡ Done [] []
      by zero = refl
      by (suc n) = refl
  fuel zero m (t ∷ ts) le le' = absurd (omega arith)
  fuel (suc n) zero (t ∷ ts) le le' = absurd (omega arith)
  fuel (suc n) (suc m) (t ∷ ts) le le' = elim (which (is_of kinds t)) [
    | inr e ↦ other_chosen (is_of kinds t) (and_then (q (t ∷ ts)) (later n)) (Done [] (t ∷ ts)) e ∙ sym (other_chosen (is_of kinds t) (and_then (q (t ∷ ts)) (later m)) (Done [] (t ∷ ts)) e)
    | inl e ↦ chosen (is_of kinds t) (and_then (q (t ∷ ts)) (later n)) (Done [] (t ∷ ts)) e
        ∙ same n m t ts (q (t ∷ ts)) refl (λ mid less. fuel n m mid (omega (arith, less)) (omega (arith, less)))
        ∙ sym (chosen (is_of kinds t) (and_then (q (t ∷ ts)) (later m)) (Done [] (t ∷ ts)) e)
  ]

  many_goes : (ts : Tokens) (a : A) (mid : Tokens) → heads kinds ts ≡ true → q ts ≡ Done a mid → many kinds q ts ≡ and_then (many kinds q mid) (λ items rest. Done (a ∷ items) rest)
  many_goes [] a mid e h = absurd (false≢true e)
  many_goes (t ∷ ts) a mid e h =
      let less : length mid < length (t ∷ ts) = shrinks (t ∷ ts) a mid h in
      chosen (is_of kinds t) (and_then (q (t ∷ ts)) (later (length ts))) (Done [] (t ∷ ts)) e
      ∙ ap (λ o. and_then o (later (length ts))) h
      ∙ ap (λ o. and_then o (λ items rest. Done (a ∷ items) rest)) (fuel (length ts) (length mid) mid (omega (arith, less)) (omega arith))

  -- the same for what is made of the items
  pub next_made : {X : Type 0} (start : Outcome X) (g h : List A → X) (ts mid : Tokens) (a : A) → start ≡ and_then (many kinds q ts) (λ items rest. Done (g items) rest) → heads kinds ts ≡ true → q ts ≡ Done a mid
      → ((items : List A) → g (a ∷ items) ≡ h items) → start ≡ and_then (many kinds q mid) (λ items rest. Done (h items) rest)
  next_made {X} start g h ts mid a inv e is made =
      inv ∙ ap (λ o. and_then o (λ items rest. Done (g items) rest)) (many_goes ts a mid e is) ∙ by (many kinds q mid)
    where
      by : (o : Outcome (List A)) → and_then {B = X} (and_then {B = List A} o (λ items rest. Done (a ∷ items) rest)) (λ items rest. Done (g items) rest) ≡ and_then o (λ items rest. Done (h items) rest)
      by (Fault k rest) = refl
      by (Done items rest) = ap (λ x. Done x rest) (made items)

  -- what was found, with one more
  regroup : (found : List A) (a : A) (o : Outcome (List A)) → and_then (and_then o (λ items rest. Done (a ∷ items) rest)) (λ items rest. Done (found ++ items) rest) ≡ and_then o (λ items rest. Done (found ++ a ∷ [] ++ items) rest)
  regroup found a (Fault k rest) = refl
  regroup found a (Done items rest) = ap (λ items. Done items rest) (sym (append_assoc found (a ∷ []) items))

  pub next_turn : (start : Outcome (List A)) (found pushed : List A) (ts mid : Tokens) (a : A) → start ≡ gathered kinds q found ts → heads kinds ts ≡ true → q ts ≡ Done a mid → pushed ≡ found ++ a ∷ [] → start ≡ gathered kinds q pushed mid
  next_turn start found pushed ts mid a inv e is p =
      inv ∙ ap (λ o. and_then o (λ items rest. Done (found ++ items) rest)) (many_goes ts a mid e is) ∙ regroup found a (many kinds q mid) ∙ ap (λ found. gathered kinds q found mid) (sym p)

-- ---- the answers of a loop

pub loop_begins : {A : Type 0} (kinds : List Kind) (q : Parser A) (found : List A) (ts : Tokens) → found ≡ [] → many kinds q ts ≡ gathered kinds q found ts
loop_begins {A} kinds q found ts e = by (many kinds q ts) ∙ ap (λ found. gathered kinds q found ts) (sym e)
  where
    by : (o : Outcome (List A)) → o ≡ and_then o (λ items rest. Done ([] ++ items) rest)
    by (Done items rest) = refl
    by (Fault k rest) = refl

pub loop_goes_on : {A : Type 0} {L : Lang A} {q : Parser A} {s : Shape} (kinds : List Kind) → Exact L q s → s.empty ≡ false → (start : Outcome (List A)) (found pushed : List A) (ts mid : Tokens) (a : A) → start ≡ gathered kinds q found ts → heads kinds ts ≡ true → q ts ≡ Done a mid → pushed ≡ found ++ a ∷ [] → start ≡ gathered kinds q pushed mid
loop_goes_on {L = L} {q = q} {s = s} kinds E full start found pushed ts mid a inv h is p = next_turn kinds L q s E full start found pushed ts mid a inv h is p

pub loop_shrinks : {A : Type 0} {L : Lang A} {q : Parser A} {s : Shape} → Exact L q s → s.empty ≡ false → (ts : Tokens) (a : A) (mid : Tokens) → q ts ≡ Done a mid → length mid < length ts
loop_shrinks {L = L} {q = q} {s = s} E full ts a mid h = shrinks [] L q s E full ts a mid h

-- ---- the loop over the steps behind an atom, each with its tests

module _ {B : Type 0} (kinds : List Kind) (q : Parser (List B)) where
  -- what was found, with what the rest gives
  abbrev pub flattened : List B → Tokens → Outcome (List B)
  flattened found ts = and_then (many kinds q ts) (λ items rest. Done (found ++ flat items) rest)

  abbrev pub with_first : Parser (List B) → Parser (List B)
  with_first p = map_out (λ p. p.0 ++ flat p.1) (seq p (many kinds q))

  pub flat_begins : (p : Parser (List B)) (ts mid : Tokens) (first : List B) → p ts ≡ Done first mid → with_first p ts ≡ flattened first mid
  flat_begins p ts mid first h =
      ap (λ o. and_then {A = List B × List (List B)} (and_then {A = List B} {B = List B × List (List B)} o (λ a rest. and_then {A = List (List B)} {B = List B × List (List B)} (many kinds q rest) (λ b rest. Done (a, b) rest))) (λ p rest. Done (p.0 ++ flat p.1) rest)) h
      ∙ by (many kinds q mid)
    where
      by : (o : Outcome (List (List B))) → and_then {A = List B × List (List B)} (and_then {A = List (List B)} {B = List B × List (List B)} o (λ b rest. Done (first, b) rest)) (λ p rest. Done (p.0 ++ flat p.1) rest) ≡ and_then o (λ items rest. Done (first ++ flat items) rest)
      by (Done items rest) = refl
      by (Fault k rest) = refl

pub flat_goes_on : {B : Type 0} {L : Lang (List B)} {q : Parser (List B)} {s : Shape} (kinds : List Kind) → Exact L q s → s.empty ≡ false → (start : Outcome (List B)) (found pushed : List B) (ts mid : Tokens) (a : List B) → start ≡ flattened kinds q found ts → heads kinds ts ≡ true → q ts ≡ Done a mid → pushed ≡ found ++ a → start ≡ flattened kinds q pushed mid
flat_goes_on {L = L} {q = q} {s = s} kinds E full start found pushed ts mid a inv h is p =
    next_made kinds L q s E full start (λ items. found ++ flat items) (λ items. pushed ++ flat items) ts mid a inv h is
    (λ items. sym (append_assoc found a (flat items)) ∙ ap (λ xs. xs ++ flat items) (sym p))
