-- Reading the tokens of a text, what stands at one place after the other.
use Rattle.std.proofs.Common.{◌≡◌, ℕ, zero, suc, ◌+◌, ◌-◌, ◌≤◌, ◌<◌, List, [], ◌∷◌, length, drop, Some, None, refl, sym, ap, ◌∙◌, append_assoc, append-nil, arith}
use Rattle.std.proofs.lemmas.List.{drop-drop, drop_all, length-drop}
use Rattle.cypher_syntax.specs.declared.token.Token.{Token}
use Rattle.cypher_syntax.specs.declared.lexer.front.Front.{Front}
use Rattle.cypher_syntax.specs.declared.lexer.front.Front.TheVariants.{Gap, Made, Fault}
use Rattle.cypher_syntax.specs.Lexing.{front_of, Lexed, with_token, after_tokens, after_front, lexed_from}
use Rattle.cypher_syntax.specs.Steps.{Stepped}

pub lexed_skip : (at skip : ℕ) (xs : List ℕ) → lexed_from at skip xs ≡ lexed_from (at + skip) 0 (drop skip xs)
unfolding lexed_from
lexed_skip at zero xs = ap (λ k. lexed_from k 0 xs) (omega arith)
lexed_skip at (suc k) [] = refl
lexed_skip at (suc k) (x ∷ xs) = lexed_skip (at + 1) k xs ∙ ap (λ j. lexed_from j 0 (drop k xs)) (omega arith)

pub lexed_first : (at : ℕ) (xs : List ℕ) → 0 < length xs → lexed_from at 0 xs ≡ after_front at (front_of xs) (λ skip. lexed_from (at + 1) skip (drop 1 xs))
unfolding lexed_from
lexed_first at [] some = absurd (omega arith)
lexed_first at (x ∷ xs) some = refl

-- behind n bytes
pub lexed_behind : (at n : ℕ) (xs : List ℕ) → 0 < n → lexed_from (at + 1) (n - 1) (drop 1 xs) ≡ lexed_from (at + n) 0 (drop n xs)
lexed_behind at n xs some =
    lexed_skip (at + 1) (n - 1) (drop 1 xs)
    ∙ ap (λ ys. lexed_from (at + 1 + (n - 1)) 0 ys) (drop-drop (n - 1) 1 xs)
    ∙ ap (λ j. lexed_from j 0 (drop (1 + (n - 1)) xs)) (omega arith)
    ∙ ap (λ j. lexed_from (at + n) 0 (drop j xs)) (omega arith)

stepped : (at len : ℕ) (xs : List ℕ) (old new : List Token) (f : Front) → 0 < len → Stepped at f old new (Some len)
    → after_tokens old (after_front at f (λ skip. lexed_from (at + 1) skip (drop 1 xs))) ≡ after_tokens new (lexed_from (at + len) 0 (drop len xs))
stepped at len xs old new (Gap n) some s =
    let same : len ≡ n = cc in
    let more : 0 < n = omega arith in
    ap (after_tokens old) (lexed_behind at n xs more)
    ∙ ap (λ ts. after_tokens ts (lexed_from (at + n) 0 (drop n xs))) (sym s.1)
    ∙ ap (λ k. after_tokens new (lexed_from (at + k) 0 (drop k xs))) (sym same)
stepped at len xs old new (Made w n) some s =
    let same : len ≡ n = cc in
    let more : 0 < n = omega arith in
    let t : Token = record { what = w; from = at; to = at + n } in
    ap (λ r. after_tokens old (with_token t r)) (lexed_behind at n xs more)
    ∙ ap (λ ts. record { tokens = ts; fault = (lexed_from (at + n) 0 (drop n xs)).fault }) (sym (append_assoc old (t ∷ []) (lexed_from (at + n) 0 (drop n xs)).tokens))
    ∙ ap (λ ts. after_tokens ts (lexed_from (at + n) 0 (drop n xs))) (sym s.1)
    ∙ ap (λ k. after_tokens new (lexed_from (at + k) 0 (drop k xs))) (sym same)
stepped at len xs old new Fault some s = absurd (cc)

-- a step of the loop
pub goes_on : (text : List ℕ) (at len : ℕ) (old new : List Token) → at < length text → 0 < len → Stepped at (front_of (drop at text)) old new (Some len)
    → after_tokens old (lexed_from at 0 (drop at text)) ≡ after_tokens new (lexed_from (at + len) 0 (drop (at + len) text))
goes_on text at len old new there some s =
    let left : 0 < length (drop at text) = omega (arith, length-drop at text) in
    ap (after_tokens old) (lexed_first at (drop at text) left)
    ∙ stepped at len (drop at text) old new (front_of (drop at text)) some s
    ∙ ap (λ ys. after_tokens new (lexed_from (at + len) 0 ys)) (drop-drop len at text)

stopped : (at : ℕ) (rest : ℕ → Lexed) (old new : List Token) (f : Front) → Stepped at f old new None → after_tokens old (after_front at f rest) ≡ record { tokens = new; fault = Some at }
stopped at rest old new (Gap n) s = absurd (cc)
stopped at rest old new (Made w n) s = absurd (cc)
stopped at rest old new Fault s = ap (λ ts. record { tokens = ts; fault = Some at }) (append-nil old ∙ sym s.1)

-- the loop stops at a fault
pub stops : (text : List ℕ) (at : ℕ) (old new : List Token) → at < length text → Stepped at (front_of (drop at text)) old new None
    → after_tokens old (lexed_from at 0 (drop at text)) ≡ record { tokens = new; fault = Some at }
stops text at old new there s =
    let left : 0 < length (drop at text) = omega (arith, length-drop at text) in
    ap (after_tokens old) (lexed_first at (drop at text) left) ∙ stopped at _ old new (front_of (drop at text)) s

-- the loop ends with the text
pub ends : (text : List ℕ) (at : ℕ) (tokens : List Token) → length text ≤ at → after_tokens tokens (lexed_from at 0 (drop at text)) ≡ record { tokens = tokens; fault = None }
unfolding lexed_from
ends text at tokens past = ap (λ ys. after_tokens tokens (lexed_from at 0 ys)) (drop_all at text past) ∙ ap (λ ts. record { tokens = ts; fault = None }) (append-nil tokens)
