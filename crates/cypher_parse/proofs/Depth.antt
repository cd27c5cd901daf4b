-- A rule's parser at one depth and at others, and its answers.
use Rattle.std.proofs.Common.{◌≡◌, ◌⊎◌, inl, inr, ℕ, zero, suc, ◌+◌, ◌-◌, ◌≤◌, true, false, [], ◌∷◌, ◌++◌, Result, Ok, Err, refl, sym, ap, ◌∙◌, subst, arith}
use Rattle.std.proofs.lemmas.List.{append_assoc, append-nil, append_cancel_right}
use Rattle.cypher_parse.specs.declared.error.ParseRefused.{ParseRefused}
use Rattle.cypher_parse.specs.declared.error.ParseRefused.TheVariants as error
use Rattle.cypher_parse.specs.declared.lexeme.Lexeme.{Lexeme}
use Rattle.cypher_parse.specs.declared.stop.Stop.{Stop}
use Rattle.cypher_parse.specs.declared.stop.Stop.TheVariants as stop
use Rattle.cypher_parse.specs.Answer.{Begins, Deep, place_of, EndsAt, IsSyntax, IsAnswer, IsTree, refused}
use Rattle.cypher_parse.specs.Languages.{Tokens, Lang}
use Rattle.cypher_parse.specs.Parsers.{Outcome, Done, Fault, Parser, head}
use Rattle.cypher_parse.specs.Reads.{Reads}
use Rattle.cypher_parse.proofs.Exact.{Shape, Exact, fault_done}
use Rattle.cypher_parse.proofs.Deeper.{Agrees, Deeper, agrees_itself, agrees_on, sentence, is_read}
use Rattle.cypher_parse.proofs.Tied.{Tied}

le_or : (n m : ℕ) → (n ≤ m) ⊎ (m ≤ n)
le_or zero m = inl (omega arith)
le_or (suc n) zero = inr (omega arith)
le_or (suc n) (suc m) = elim (le_or n m) [ inl h ↦ inl (omega (arith, h)) | inr h ↦ inr (omega (arith, h)) ]

no_more : (t : Lexeme) (back : Tokens) → t ∷ back ≡ [] → ⊥
no_more t back h = absurd (cc)

left_of : {A : Type 0} → Outcome A → Tokens
left_of (Done a rest) = rest
left_of (Fault k rest) = rest

same_left : {A : Type 0} (a b : A) (rest other : Tokens) → Done a rest ≡ Done b other → rest ≡ other
unfolding left_of
same_left a b rest other h = ap left_of h

module _ {A : Type 0} (L : ℕ → Lang A) (p : ℕ → Parser A) (s : Shape) (T : (n : ℕ) → Tied true (L n) (L (suc n)) (p n) (p (suc n)) s) where
  exact : (n : ℕ) → Exact (L n) (p n) s
  exact n = (T n).low refl

  deeper_by : (d n m : ℕ) → m ≡ d + n → Deeper (p n) (p m)
  deeper_by zero n m h ts = let same : m ≡ n = omega (arith, h) in subst (λ m. Agrees (p n ts) (p m ts)) (sym same) (agrees_itself (p n ts))
  deeper_by (suc d) n m h ts =
      let same : m ≡ suc (d + n) = omega (arith, h) in
      subst (λ m. Agrees (p n ts) (p m ts)) (sym same) (agrees_on (p n ts) (p (d + n) ts) (p (suc (d + n)) ts) (deeper_by d n (d + n) refl ts) ((T (d + n)).deeper refl ts))

  deeper : (n m : ℕ) → n ≤ m → Deeper (p n) (p m)
  deeper n m le = let far : m ≡ (m - n) + n = omega arith in deeper_by (m - n) n m far

  -- what is no sentence at one depth is none at any
  no_sentence : (n m : ℕ) (ts : Tokens) (x : A) (rest : Tokens) → p n ts ≡ Fault false rest → L m ts x → ⊥
  no_sentence n m ts x rest h l =
      let read = is_read (L m) (p m) s (exact m) ts x l in
      elim (le_or n m) [
        | inl le ↦ fault_done x false [] rest (sym (subst (λ o. Agrees o (p m ts)) h (deeper n m le ts)) ∙ read)
        | inr le ↦ fault_done x false [] rest (sym h ∙ subst (λ o. Agrees o (p n ts)) read (deeper m n le ts))
      ]

  no_end : (n m : ℕ) (ts : Tokens) (x y : A) (t : Lexeme) (back : Tokens) → p n ts ≡ Done y (t ∷ back) → L m ts x → ⊥
  no_end n m ts x y t back h l =
      let read = is_read (L m) (p m) s (exact m) ts x l in
      elim (le_or n m) [
        | inl le ↦ no_more t back (same_left y x (t ∷ back) [] (sym (subst (λ o. Agrees o (p m ts)) h (deeper n m le ts)) ∙ read))
        | inr le ↦ no_more t back (same_left y x (t ∷ back) [] (sym h ∙ subst (λ o. Agrees o (p n ts)) read (deeper m n le ts)))
      ]

  module _ (n : ℕ) (ts : Tokens) where
    first_fault : (rest : Tokens) → p n ts ≡ Fault false rest → (front : Tokens) × (ts ≡ front ++ rest) × Begins (L n) front × EndsAt (Deep L) front rest
    first_fault rest h =
        let f = (exact n).fault ts false rest h in
        (f.0, f.1, f.2, ends f.0 rest f.3)
      where
        ends : (front rest : Tokens) → ((other : Tokens) → head other ≡ head rest → p n (front ++ other) ≡ Fault false other) → EndsAt (Deep L) front rest
        ends front [] stays = λ x l. no_sentence n l.0 front x [] (ap (p n) (sym (append-nil front)) ∙ stays [] refl) l.1
        ends front (t ∷ back) stays = λ b.
            no_sentence n b.2.0 (front ++ t ∷ [] ++ b.0) b.1 (t ∷ b.0) (ap (p n) (append_assoc front (t ∷ []) b.0) ∙ stays (t ∷ b.0) refl) b.2.1

    more_tokens : (x : A) (rest : Tokens) → (rest ≡ [] → ⊥) → p n ts ≡ Done x rest → (front : Tokens) × (ts ≡ front ++ rest) × Begins (L n) front × EndsAt (Deep L) front rest
    more_tokens x rest some h =
        let f = (exact n).done ts x rest h in
        (f.0, f.1, ([], x, subst (λ ts. L n ts x) (sym (append-nil f.0)) f.2), ends f.0 rest some f.3)
      where
        ends : (front rest : Tokens) → (rest ≡ [] → ⊥) → ((other : Tokens) → head other ≡ head rest → p n (front ++ other) ≡ Done x other) → EndsAt (Deep L) front rest
        ends front [] some stays = absurd (some refl)
        ends front (t ∷ back) some stays = λ b.
            no_end n b.2.0 (front ++ t ∷ [] ++ b.0) b.1 x t b.0 (ap (p n) (append_assoc front (t ∷ []) b.0) ∙ stays (t ∷ b.0) refl) b.2.1

    too_deep : (rest : Tokens) → p n ts ≡ Fault true rest → (front : Tokens) × (t : Lexeme) × (back : Tokens) × (ts ≡ front ++ t ∷ back) × (rest ≡ t ∷ back) × Begins (L n) front × Begins (L (suc n)) (front ++ t ∷ []) × (Begins (L n) (front ++ t ∷ []) → ⊥)
    too_deep rest h =
        let f = (exact n).fault ts true rest h in
        let o = (T n).opens refl ts rest h in
        let same : o.0 ≡ f.0 = append_cancel_right o.0 f.0 (o.1 ∷ o.2) (sym o.3 ∙ f.1 ∙ ap (λ rest. f.0 ++ rest) o.4) in (
          f.0,
          o.1,
          o.2,
          f.1 ∙ ap (λ rest. f.0 ++ rest) o.4,
          o.4,
          f.2,
          subst (λ front. Begins (L (suc n)) (front ++ o.1 ∷ [])) same o.5,
          λ b. fault_done b.1 true [] (o.1 ∷ b.0) (sym (ap (p n) (append_assoc f.0 (o.1 ∷ []) b.0) ∙ f.3 (o.1 ∷ b.0) (ap head (sym o.4))) ∙ is_read (L n) (p n) s (exact n) (f.0 ++ o.1 ∷ [] ++ b.0) b.1 b.2),
        )

  -- ---- what the function answers

  pub answers_tree : (end : ℕ) (ts : Tokens) (x : A) (rest : Tokens) → p 64 ts ≡ Done x rest → rest ≡ [] → L 64 ts x
  answers_tree end ts x rest h none = sentence (L 64) (p 64) s (exact 64) ts x (h ∙ ap (Done x) none)

  pub answers_more : (end : ℕ) (ts : Tokens) (x : A) (rest : Tokens) (place : ℕ) → p 64 ts ≡ Done x rest → (rest ≡ [] → ⊥) → place ≡ place_of end rest → IsSyntax L end ts place
  answers_more end ts x rest place h some at =
      let f = more_tokens 64 ts x rest some h in
      (f.0, rest, f.1, sym at, f.2, f.3)

  pub answers_refused : (end : ℕ) (ts : Tokens) (e : Stop) (rest : Tokens) (place : ℕ) (a : ParseRefused) → Reads (p 64 ts) (Err e) rest → place ≡ place_of end rest → a ≡ refused e place → IsAnswer L end ts (Err a)
  answers_refused end ts e rest place a h at is = subst (λ a. IsAnswer L end ts (Err a)) (sym is) (by e h)
    where
      by : (e : Stop) → Reads (p 64 ts) (Err e) rest → IsAnswer L end ts (Err (refused e place))
      by stop.NoMemory h = tt
      by stop.Syntax h = let f = first_fault 64 ts rest h in (f.0, rest, f.1, sym at, f.2, f.3)
      by stop.TooDeep h =
          let f = too_deep 64 ts rest h in
          (f.0, f.1, f.2, f.3, sym (at ∙ ap (place_of end) f.4), f.5, f.6, f.7)

  -- ---- no text has two trees, and each sentence is read

  same_tree : (x y : A) → Done x [] ≡ Done y [] → x ≡ y
  same_tree x y h = subst (λ (o : Outcome A). tree_or x o ≡ y) (sym h) refl
    where
      tree_or : A → Outcome A → A
      tree_or x (Done a rest) = a
      tree_or x (Fault k rest) = x

  pub one_tree : (n m : ℕ) (ts : Tokens) (x y : A) → L n ts x → L m ts y → x ≡ y
  one_tree n m ts x y l l' =
      let a = is_read (L n) (p n) s (exact n) ts x l in
      let b = is_read (L m) (p m) s (exact m) ts y l' in
      elim (le_or n m) [
        | inl le ↦ same_tree x y (sym (subst (λ o. Agrees o (p m ts)) a (deeper n m le ts)) ∙ b)
        | inr le ↦ same_tree x y (sym a ∙ subst (λ o. Agrees o (p n ts)) b (deeper m n le ts))
      ]

  grouped : (ts front back : Tokens) (t : Lexeme) → ts ≡ front ++ t ∷ back → ts ≡ front ++ t ∷ [] ++ back
  grouped ts front back t h = h ∙ sym (append_assoc front (t ∷ []) back)

  no_syntax : (ts front rest : Tokens) (x : A) → ts ≡ front ++ rest → L 64 ts x → EndsAt (Deep L) front rest → ⊥
  no_syntax ts front [] x h l ends = ends x (64, subst (λ ts. L 64 ts x) (h ∙ append-nil front) l)
  no_syntax ts front (t ∷ back) x h l ends = ends (back, x, (64, subst (λ ts. L 64 ts x) (grouped ts front back t h) l))

  pub only_tree : (end : ℕ) (ts : Tokens) (x : A) (r : Result A ParseRefused) → L 64 ts x → IsAnswer L end ts r → IsTree x r
  only_tree end ts x (Ok y) l a = one_tree 64 64 ts y x a l
  only_tree end ts x (Err error.NoMemory) l a = tt
  only_tree end ts x (Err (error.Syntax place)) l a = no_syntax ts a.0 a.1 x a.2 l a.5
  only_tree end ts x (Err (error.TooDeep place)) l a = a.7 (a.2, x, subst (λ ts. L 64 ts x) (grouped ts a.0 a.2 a.1 a.3) l)
