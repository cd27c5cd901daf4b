-- Printed parts, one behind the other, are sentences one behind the other.
use Rattle.std.proofs.Common.{◌≡◌, ℕ, ◌+◌, ◌-◌, true, List, [], ◌∷◌, ◌++◌, length, take, drop, map, slice_range, refl, sym, ap, subst, ◌∙◌, append_assoc, arith}
use Rattle.std.proofs.Math.Seq.{take-append_seam, drop-append_seam}
use Rattle.std.proofs.lemmas.List.{length-append, map-append}
use Rattle.cypher_syntax.specs.declared.token.Token.{Token}
use Rattle.cypher_syntax.specs.Lexing.{Lexed, after_tokens, lexed_from}
use Rattle.cypher_parse.specs.declared.kind.Kind.{Kind}
use Rattle.cypher_parse.specs.declared.lexeme.Lexeme.{Lexeme}
use Rattle.cypher_parse.specs.Languages.{Tokens, Lang, is_of}
use Rattle.cypher_parse.specs.Texts.{lexeme, lexeme_of}
use Rattle.cypher_print.specs.ReadBack.{IsReadAs}
use Rattle.cypher_print.specs.Sentences.{IsSentence}

-- the bytes between two places
between : (before printed behind : List ℕ) → slice_range (before ++ (printed ++ behind)) (length before) (length before + length printed) ≡ printed
between before printed behind =
    let size : length before + length printed - length before ≡ length printed = omega arith in
    ap (λ k. take k (drop (length before) (before ++ (printed ++ behind)))) size
    ∙ ap (take (length printed)) (drop-append_seam before (printed ++ behind))
    ∙ take-append_seam printed behind

-- one token
pub one_token : {A : Type 0} (L : Lang A) (a : A) (printed behind : List ℕ) → IsReadAs (λ t. L (t ∷ []) a) printed behind → IsSentence L a printed behind
one_token L a printed behind r before =
    let t : Token = record { what = r.0; from = length before; to = length before + length printed } in
    let P : List ℕ → Type 0 = λ bytes. L (lexeme_of r.0 bytes (length before) ∷ []) a in
    (t ∷ [], r.1 (length before), subst P (sym (between before printed behind)) (r.2 (length before)))

-- no token
pub no_token : {A : Type 0} (L : Lang A) (a : A) (behind : List ℕ) → L [] a → IsSentence L a [] behind
no_token L a behind h before = let same : length before ≡ length before + 0 = omega arith in ([], ap (λ k. lexed_from k 0 behind) same, h)

after_both : (ts us : List Token) (rest : Lexed) → after_tokens ts (after_tokens us rest) ≡ after_tokens (ts ++ us) rest
after_both ts us rest = ap (λ ys. record { tokens = ys; fault = rest.fault }) (sym (append_assoc ts us rest.tokens))

-- a sentence and then another
pub in_turn : {A B C : Type 0} (L : Lang A) (M : Lang B) (N : Lang C) (a : A) (b : B) (c : C) → ((ts us : Tokens) → L ts a → M us b → N (ts ++ us) c)
    → (p q behind : List ℕ) → IsSentence L a p (q ++ behind) → IsSentence M b q behind → IsSentence N c (p ++ q) behind
in_turn L M N a b c both p q behind first second before =
    let x = first before in
    let y = second (before ++ p) in
    let text : before ++ (p ++ (q ++ behind)) ≡ before ++ ((p ++ q) ++ behind) = ap (λ ys. before ++ ys) (sym (append_assoc p q behind)) in
    let text' : (before ++ p) ++ (q ++ behind) ≡ before ++ ((p ++ q) ++ behind) = append_assoc before p (q ++ behind) ∙ text in
    let at : length before + length p ≡ length (before ++ p) = sym (length-append before p) in
    let end : length (before ++ p) + length q ≡ length before + length (p ++ q) = omega (arith, length-append before p, length-append p q) in
    let PL : List ℕ → Type 0 = λ w. L (map (lexeme w) x.0) a in
    let PM : List ℕ → Type 0 = λ w. M (map (lexeme w) y.0) b in
    let PN : Tokens → Type 0 = λ ts. N ts c in
    let whole = before ++ ((p ++ q) ++ behind) in (
      x.0 ++ y.0,
      ap (lexed_from (length before) 0) (append_assoc p q behind)
          ∙ x.1
          ∙ ap (λ k. after_tokens x.0 (lexed_from k 0 (q ++ behind))) at
          ∙ ap (after_tokens x.0) (y.1 ∙ ap (λ k. after_tokens y.0 (lexed_from k 0 behind)) end)
          ∙ after_both x.0 y.0 (lexed_from (length before + length (p ++ q)) 0 behind),
      subst PN (sym (map-append (lexeme whole) x.0 y.0)) (both (map (lexeme whole) x.0) (map (lexeme whole) y.0) (subst PL text x.2) (subst PM text' y.2)),
    )

-- a token of these kinds is passed
abbrev pub Passes : List Kind → Lang (Unit {0})
Passes kinds ts u = (t : Lexeme) × (ts ≡ t ∷ []) × (is_of kinds t ≡ true)

pub passes : (kinds : List Kind) (printed behind : List ℕ) → IsReadAs (λ t. is_of kinds t ≡ true) printed behind → IsSentence (Passes kinds) tt printed behind
passes kinds printed behind r = one_token (Passes kinds) tt printed behind (r.0, r.1, λ place. (lexeme_of r.0 printed place, refl, r.2 place))
