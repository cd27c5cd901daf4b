-- Signs, spaces and lists as printed parts.
use Rattle.std.proofs.Common.{◌≡◌, ℕ, ◌+◌, true, false, eqb, List, [], ◌∷◌, ◌++◌, length, map, codes, refl, sym, ap, subst, ◌∙◌, append_assoc, append-nil, arith}
use Rattle.std.specs.List.{flat_map}
use Rattle.std.proofs.lemmas.List.{length-append}
use Rattle.cypher_syntax.specs.Bytes.{is_sign}
use Rattle.cypher_syntax.specs.Lexing.{after_tokens, lexed_from}
use Rattle.cypher_parse.specs.declared.kind.Kind.{Kind}
use Rattle.cypher_parse.specs.declared.kind.Kind.TheVariants as k
use Rattle.cypher_parse.specs.Kinds.{number, member}
use Rattle.cypher_parse.specs.Spelling.{kind_of}
use Rattle.cypher_parse.specs.Texts.{or_unknown, lexeme}
use Rattle.cypher_parse.specs.Languages.{Tokens, Lang, After, Before, Many, Listed}
use Rattle.cypher_print.specs.Pieces.{Pieces, written}
use Rattle.cypher_print.specs.Printed.{joined}
use Rattle.cypher_print.specs.ReadBack.{parts_name, parts_sign}
use Rattle.cypher_print.specs.Sentences.{IsSentence, All}
use Rattle.cypher_print.proofs.PrintLemmas.{written-append}
use Rattle.cypher_print.proofs.ReadSigns.{signs, passed}
use Rattle.cypher_print.proofs.Sentences.{no_token, in_turn, Passes, passes}

-- what is written behind a text is what is written alone
pub written-behind : (text : List ℕ) (ps : Pieces) → written text ps ≡ text ++ written [] ps
written-behind text [] = sym (append-nil text)
written-behind text (p ∷ ps) = written-behind (text ++ p) ps ∙ append_assoc text p (written [] ps) ∙ ap (λ ys. text ++ ys) (sym (written-behind p ps))

pub written-both : (ps qs : Pieces) → written [] (ps ++ qs) ≡ written [] ps ++ written [] qs
written-both ps qs = written-append [] ps qs ∙ written-behind (written [] ps) qs

-- behind a space
pub spaced : {A : Type 0} (L : Lang A) (a : A) (q behind : List ℕ) → IsSentence L a q behind → IsSentence L a (32 ∷ q) behind
spaced L a q behind h before =
    let x = h (before ++ 32 ∷ []) in
    let one : length before + 1 ≡ length (before ++ 32 ∷ []) = sym (length-append before (32 ∷ [])) in
    let end : length (before ++ 32 ∷ []) + length q ≡ length before + length (32 ∷ q) = omega (arith, length-append before (32 ∷ [])) in
    let P : List ℕ → Type 0 = λ w. L (map (lexeme w) x.0) a in (
      x.0,
      passed (length before) (q ++ behind)
          ∙ ap (λ j. lexed_from j 0 (q ++ behind)) one
          ∙ x.1
          ∙ ap (λ j. after_tokens x.0 (lexed_from j 0 behind)) end,
      subst P (append_assoc before (32 ∷ []) (q ++ behind)) x.2,
    )

-- ---- signs

pub lone : (a : ℕ) → eqb a 60 ≡ false → eqb a 62 ≡ false → eqb a 46 ≡ false → eqb a 47 ≡ false → (behind : List ℕ) → parts_sign a behind ≡ true
lone a x y z w [] = refl
lone a x y z w (b ∷ bytes) = rw x (rw y (rw z (rw w refl)))

pub sign : (a : ℕ) (kind : Kind) → is_sign a ≡ true → or_unknown (kind_of (a ∷ [])) ≡ kind → member (number kind) (kind ∷ []) ≡ true → (behind : List ℕ) → parts_sign a behind ≡ true
    → IsSentence (Passes (kind ∷ [])) tt (a ∷ []) behind
sign a kind h is same behind parts =
    let r = signs a behind h parts in passes (kind ∷ []) (a ∷ []) behind (r.0, r.1, λ place. ap (λ j. member (number j) (kind ∷ [])) (r.2 place ∙ is) ∙ same)

colon_kind : or_unknown (kind_of (58 ∷ [])) ≡ k.Colon
unfolding kind_of
colon_kind = refl

comma_kind : or_unknown (kind_of (44 ∷ [])) ≡ k.Comma
unfolding kind_of
comma_kind = refl

left_paren_kind : or_unknown (kind_of (40 ∷ [])) ≡ k.LeftParen
unfolding kind_of
left_paren_kind = refl

right_paren_kind : or_unknown (kind_of (41 ∷ [])) ≡ k.RightParen
unfolding kind_of
right_paren_kind = refl

left_brace_kind : or_unknown (kind_of (123 ∷ [])) ≡ k.LeftBrace
unfolding kind_of
left_brace_kind = refl

right_brace_kind : or_unknown (kind_of (125 ∷ [])) ≡ k.RightBrace
unfolding kind_of
right_brace_kind = refl

bar_kind : or_unknown (kind_of (124 ∷ [])) ≡ k.Bar
unfolding kind_of
bar_kind = refl

minus_kind : or_unknown (kind_of (45 ∷ [])) ≡ k.Minus
unfolding kind_of
minus_kind = refl

left_bracket_kind : or_unknown (kind_of (91 ∷ [])) ≡ k.LeftBracket
unfolding kind_of
left_bracket_kind = refl

right_bracket_kind : or_unknown (kind_of (93 ∷ [])) ≡ k.RightBracket
unfolding kind_of
right_bracket_kind = refl

less_kind : or_unknown (kind_of (60 ∷ [])) ≡ k.Less
unfolding kind_of
less_kind = refl

greater_kind : or_unknown (kind_of (62 ∷ [])) ≡ k.Greater
unfolding kind_of
greater_kind = refl

pub colon : (behind : List ℕ) → IsSentence (Passes (k.Colon ∷ [])) tt (58 ∷ []) behind
colon behind = sign 58 k.Colon refl colon_kind refl behind (lone 58 refl refl refl refl behind)

pub comma : (behind : List ℕ) → IsSentence (Passes (k.Comma ∷ [])) tt (44 ∷ []) behind
comma behind = sign 44 k.Comma refl comma_kind refl behind (lone 44 refl refl refl refl behind)

pub left_paren : (behind : List ℕ) → IsSentence (Passes (k.LeftParen ∷ [])) tt (40 ∷ []) behind
left_paren behind = sign 40 k.LeftParen refl left_paren_kind refl behind (lone 40 refl refl refl refl behind)

pub right_paren : (behind : List ℕ) → IsSentence (Passes (k.RightParen ∷ [])) tt (41 ∷ []) behind
right_paren behind = sign 41 k.RightParen refl right_paren_kind refl behind (lone 41 refl refl refl refl behind)

pub left_brace : (behind : List ℕ) → IsSentence (Passes (k.LeftBrace ∷ [])) tt (123 ∷ []) behind
left_brace behind = sign 123 k.LeftBrace refl left_brace_kind refl behind (lone 123 refl refl refl refl behind)

pub right_brace : (behind : List ℕ) → IsSentence (Passes (k.RightBrace ∷ [])) tt (125 ∷ []) behind
right_brace behind = sign 125 k.RightBrace refl right_brace_kind refl behind (lone 125 refl refl refl refl behind)

pub bar : (behind : List ℕ) → IsSentence (Passes (k.Bar ∷ [])) tt (124 ∷ []) behind
bar behind = sign 124 k.Bar refl bar_kind refl behind (lone 124 refl refl refl refl behind)

pub minus : (behind : List ℕ) → IsSentence (Passes (k.Minus ∷ [])) tt (45 ∷ []) behind
minus behind = sign 45 k.Minus refl minus_kind refl behind (lone 45 refl refl refl refl behind)

pub left_bracket : (behind : List ℕ) → IsSentence (Passes (k.LeftBracket ∷ [])) tt (91 ∷ []) behind
left_bracket behind = sign 91 k.LeftBracket refl left_bracket_kind refl behind (lone 91 refl refl refl refl behind)

pub right_bracket : (behind : List ℕ) → IsSentence (Passes (k.RightBracket ∷ [])) tt (93 ∷ []) behind
right_bracket behind = sign 93 k.RightBracket refl right_bracket_kind refl behind (lone 93 refl refl refl refl behind)

pub less : (behind : List ℕ) → parts_sign 60 behind ≡ true → IsSentence (Passes (k.Less ∷ [])) tt (60 ∷ []) behind
less behind parts = sign 60 k.Less refl less_kind refl behind parts

pub greater : (behind : List ℕ) → parts_sign 62 behind ≡ true → IsSentence (Passes (k.Greater ∷ [])) tt (62 ∷ []) behind
greater behind parts = sign 62 k.Greater refl greater_kind refl behind parts

-- the same tokens as a sentence of another language
pub as_part : {A B : Type 0} (L : Lang A) (N : Lang B) (a : A) (b : B) → ((ts : Tokens) → L ts a → N ts b) → (p behind : List ℕ) → IsSentence L a p behind → IsSentence N b p behind
as_part L N a b f p behind h before = let x = h before in (x.0, x.1, f (map (lexeme (before ++ (p ++ behind))) x.0) x.2)

-- a sentence behind a token
pub behind_token : {A : Type 0} (kinds : List Kind) (L : Lang A) (a : A) (p q behind : List ℕ) → IsSentence (Passes kinds) tt p (q ++ behind) → IsSentence L a q behind → IsSentence (After kinds L) a (p ++ q) behind
behind_token kinds L a p q behind x y = in_turn (Passes kinds) L (After kinds L) tt a a (λ ts us u v. ((u.0, a), (ts, us, refl, (u.1, u.2), v), refl)) p q behind x y

-- a sentence in front of a token
pub before_token : {A : Type 0} (L : Lang A) (kinds : List Kind) (a : A) (p q behind : List ℕ) → IsSentence L a p (q ++ behind) → IsSentence (Passes kinds) tt q behind → IsSentence (Before L kinds) a (p ++ q) behind
before_token L kinds a p q behind x y = in_turn L (Passes kinds) (Before L kinds) a tt a (λ ts us u v. ((a, v.0), (ts, us, refl, u, (v.1, v.2)), refl)) p q behind x y

-- ---- lists

module _ {X : Type 0} (L : Lang X) (f : X → Pieces) (Good : X → Type 0) (each : (x : X) → Good x → (behind : List ℕ) → parts_name behind ≡ true → IsSentence L x (written [] (f x)) behind) where
  abbrev further : List X → Pieces
  further xs = flat_map (λ y. codes ", " ∷ f y) xs

  further_first : (x : X) (xs : List X) → written [] (further (x ∷ xs)) ≡ ((44 ∷ []) ++ (32 ∷ written [] (f x))) ++ written [] (further xs)
  further_first x xs = written-both (codes ", " ∷ f x) (further xs) ∙ ap (λ ys. ys ++ written [] (further xs)) (written-behind (44 ∷ 32 ∷ []) (f x))

  parted : (xs : List X) (behind : List ℕ) → parts_name behind ≡ true → parts_name (written [] (further xs) ++ behind) ≡ true
  parted [] behind h = h
  parted (x ∷ xs) behind h = ap (λ ys. parts_name (ys ++ behind)) (further_first x xs)

  more : (xs : List X) (behind : List ℕ) → All Good xs → parts_name behind ≡ true → IsSentence (Many (After (k.Comma ∷ []) L)) xs (written [] (further xs)) behind
  more [] behind are parts = no_token (Many (After (k.Comma ∷ []) L)) [] behind refl
  more (x ∷ xs) behind are parts =
      let P : List ℕ → Type 0 = λ bytes. IsSentence (Many (After (k.Comma ∷ []) L)) (x ∷ xs) bytes behind in
      let rest = written [] (further xs) in
      subst P (sym (further_first x xs))
      (in_turn (After (k.Comma ∷ []) L) (Many (After (k.Comma ∷ []) L)) (Many (After (k.Comma ∷ []) L)) x xs (x ∷ xs) (λ ts us u v. (ts, us, refl, u, v))
      ((44 ∷ []) ++ (32 ∷ written [] (f x))) rest behind
      (behind_token (k.Comma ∷ []) L x (44 ∷ []) (32 ∷ written [] (f x)) (rest ++ behind) (comma ((32 ∷ written [] (f x)) ++ (rest ++ behind))) (spaced L x (written [] (f x)) (rest ++ behind) (each x are.0 (rest ++ behind) (parted xs behind parts))))
      (more xs behind are.1 parts))

  pub listed : (x : X) (xs : List X) (behind : List ℕ) → All Good (x ∷ xs) → parts_name behind ≡ true → IsSentence (Listed (k.Comma ∷ []) L) (x ∷ xs) (written [] (joined (codes ", ") f (x ∷ xs))) behind
  listed x xs behind are parts =
      let P : List ℕ → Type 0 = λ bytes. IsSentence (Listed (k.Comma ∷ []) L) (x ∷ xs) bytes behind in
      let rest = written [] (further xs) in
      subst P (sym (written-both (f x) (further xs)))
      (in_turn L (Many (After (k.Comma ∷ []) L)) (Listed (k.Comma ∷ []) L) x xs (x ∷ xs) (λ ts us u v. ((x, xs), (ts, us, refl, u, v), refl))
      (written [] (f x)) rest behind (each x are.0 (rest ++ behind) (parted xs behind parts)) (more xs behind are.1 parts))
