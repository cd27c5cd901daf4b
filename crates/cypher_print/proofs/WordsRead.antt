-- Keywords and signs as printed pieces.
use Rattle.std.proofs.Common.{◌≡◌, ℕ, ◌+◌, Bool, true, false, not, ◌||◌, eqb, List, [], ◌∷◌, ◌++◌, length, map, codes, refl, sym, ap, subst, ◌∙◌, append_assoc, arith}
use Rattle.std.proofs.lemmas.List.{length-append}
use Rattle.std.proofs.lemmas.Bool.{false≢true}
use Rattle.cypher_syntax.specs.Bytes.{continues_word, is_sign, is_long_sign}
use Rattle.cypher_syntax.specs.Lexing.{after_tokens, lexed_from}
use Rattle.cypher_parse.specs.declared.kind.Kind.{Kind}
use Rattle.cypher_parse.specs.declared.kind.Kind.TheVariants as k
use Rattle.cypher_parse.specs.Kinds.{number, member}
use Rattle.cypher_parse.specs.Spelling.{kind_of}
use Rattle.cypher_parse.specs.Texts.{or_name, or_unknown, lexeme}
use Rattle.cypher_parse.specs.Languages.{Lang}
use Rattle.cypher_print.specs.Pieces.{is_word}
use Rattle.cypher_print.specs.ReadBack.{parts_word, parts_name, parts_sign}
use Rattle.cypher_print.specs.Sentences.{IsSentence}
use Rattle.cypher_print.proofs.ReadSigns.{words, long_signs, passed}
use Rattle.cypher_print.proofs.Sentences.{Passes, passes}
use Rattle.cypher_print.proofs.Parts.{sign, lone, spaced}
use Rattle.cypher_print.proofs.PiecesRead.{Sure, Token, Word, via}

-- in front of a space
pub trailing : {A : Type 0} (L : Lang A) (a : A) (p behind : List ℕ) → IsSentence L a p (32 ∷ behind) → IsSentence L a (p ++ 32 ∷ []) behind
trailing L a p behind h before =
    let x = h before in
    let end : length before + length p + 1 ≡ length before + length (p ++ 32 ∷ []) = omega (arith, length-append p (32 ∷ [])) in
    let P : List ℕ → Type 0 = λ w. L (map (lexeme w) x.0) a in (
      x.0,
      ap (lexed_from (length before) 0) (append_assoc p (32 ∷ []) behind)
          ∙ x.1
          ∙ ap (after_tokens x.0) (passed (length before + length p) behind ∙ ap (λ j. lexed_from j 0 behind) end),
      subst P (ap (λ ys. before ++ ys) (sym (append_assoc p (32 ∷ []) behind))) x.2,
    )

-- between two spaces
pub spaced_out : {A : Type 0} (L : Lang A) (a : A) (p : List ℕ) → ((behind : List ℕ) → IsSentence L a p (32 ∷ behind)) → Sure L a ((32 ∷ (p ++ 32 ∷ [])) ∷ [])
spaced_out L a p h = record { reads = λ behind. spaced L a (p ++ 32 ∷ []) behind (trailing L a p behind (h behind)) }

-- ---- keywords

-- the word is spelled so, and no other kind is
abbrev pub IsKeyword : List ℕ → Kind → Type 0
IsKeyword w kind = (is_word w ≡ true) × (or_name (kind_of w) ≡ kind) × (member (number kind) (kind ∷ []) ≡ true)

a_word : (w : List ℕ) (kind : Kind) → IsKeyword w kind → (behind : List ℕ) → parts_word behind ≡ true → IsSentence (Passes (kind ∷ [])) tt w behind
a_word w kind is behind parts =
    let r = words w behind is.0 parts in
    passes (kind ∷ []) w behind (r.0, r.1, λ place. ap (λ j. member (number j) (kind ∷ [])) ((r.2 place).0 ∙ is.1) ∙ is.2)

not_either : (a b : Bool) → not (a || b) ≡ true → not a ≡ true
not_either true b h = absurd (false≢true h)
not_either false b h = refl

-- what parts from a name parts from a word
pub parts_too : (behind : List ℕ) → parts_name behind ≡ true → parts_word behind ≡ true
parts_too [] h = refl
parts_too (b ∷ bytes) h = not_either (continues_word b) (eqb b 96) h

-- a word with a space behind it
pub front : (w : List ℕ) (kind : Kind) → IsKeyword w kind → Token (kind ∷ []) ((w ++ 32 ∷ []) ∷ [])
front w kind is = record { token = record { reads = λ behind. trailing (Passes (kind ∷ [])) tt w behind (a_word w kind is (32 ∷ behind) refl) } }

pub between : (w : List ℕ) (kind : Kind) → IsKeyword w kind → Token (kind ∷ []) ((32 ∷ (w ++ 32 ∷ [])) ∷ [])
between w kind is = record { token = spaced_out (Passes (kind ∷ [])) tt w (λ behind. a_word w kind is (32 ∷ behind) refl) }

pub back : (w : List ℕ) (kind : Kind) → IsKeyword w kind → Word (kind ∷ []) ((32 ∷ w) ∷ [])
back w kind is = record { word = record { reads = λ behind h. spaced (Passes (kind ∷ [])) tt w behind (a_word w kind is behind (parts_too behind h)) } }

pub alone : (w : List ℕ) (kind : Kind) → IsKeyword w kind → Word (kind ∷ []) (w ∷ [])
alone w kind is = record { word = record { reads = λ behind h. a_word w kind is behind (parts_too behind h) } }

-- ---- signs

pub spaced_sign : (a : ℕ) (kind : Kind) → is_sign a ≡ true → or_unknown (kind_of (a ∷ [])) ≡ kind → member (number kind) (kind ∷ []) ≡ true → ((behind : List ℕ) → parts_sign a (32 ∷ behind) ≡ true)
    → Token (kind ∷ []) ((32 ∷ a ∷ 32 ∷ []) ∷ [])
spaced_sign a kind h is same parts = record { token = spaced_out (Passes (kind ∷ [])) tt (a ∷ []) (λ behind. sign a kind h is same (32 ∷ behind) (parts behind)) }

pub spaced_long_sign : (a b : ℕ) (kind : Kind) → is_long_sign a b ≡ true → or_unknown (kind_of (a ∷ b ∷ [])) ≡ kind → member (number kind) (kind ∷ []) ≡ true
    → Token (kind ∷ []) ((32 ∷ a ∷ b ∷ 32 ∷ []) ∷ [])
spaced_long_sign a b kind h is same = record {
  token = spaced_out (Passes (kind ∷ [])) tt (a ∷ b ∷ [])
      (λ behind. (let r = long_signs a b (32 ∷ behind) h in passes (kind ∷ []) (a ∷ b ∷ []) (32 ∷ behind) (r.0, r.1, λ place. ap (λ j. member (number j) (kind ∷ [])) (r.2 place ∙ is) ∙ same)));
}

-- ---- those of clauses

pub optional_token : Token (k.Optional ∷ []) (codes "OPTIONAL " ∷ [])
unfolding kind_of
optional_token = front (codes "OPTIONAL") k.Optional (refl, refl, refl)

pub match_word : Token (k.Match ∷ []) (codes "MATCH " ∷ [])
unfolding kind_of
match_word = front (codes "MATCH") k.Match (refl, refl, refl)

pub unwind_word : Token (k.Unwind ∷ []) (codes "UNWIND " ∷ [])
unfolding kind_of
unwind_word = front (codes "UNWIND") k.Unwind (refl, refl, refl)

pub where_word : Token (k.Where ∷ []) (codes " WHERE " ∷ [])
unfolding kind_of
where_word = between (codes "WHERE") k.Where (refl, refl, refl)

pub create : Token (k.Create ∷ []) (codes "CREATE " ∷ [])
unfolding kind_of
create = front (codes "CREATE") k.Create (refl, refl, refl)

pub set : Token (k.Set ∷ []) (codes "SET " ∷ [])
unfolding kind_of
set = front (codes "SET") k.Set (refl, refl, refl)

pub remove : Token (k.Remove ∷ []) (codes "REMOVE " ∷ [])
unfolding kind_of
remove = front (codes "REMOVE") k.Remove (refl, refl, refl)

pub detach : Token (k.Detach ∷ []) (codes "DETACH " ∷ [])
unfolding kind_of
detach = front (codes "DETACH") k.Detach (refl, refl, refl)

pub delete : Token (k.Delete ∷ []) (codes "DELETE " ∷ [])
unfolding kind_of
delete = front (codes "DELETE") k.Delete (refl, refl, refl)

pub equal : Token (k.Equal ∷ []) (codes " = " ∷ [])
unfolding kind_of
equal = spaced_sign 61 k.Equal refl refl refl (λ behind. refl)

-- ---- those of projections

pub distinct : Token (k.Distinct ∷ []) (codes "DISTINCT " ∷ [])
unfolding kind_of
distinct = front (codes "DISTINCT") k.Distinct (refl, refl, refl)

pub order : Token (k.Order ∷ []) (codes " ORDER " ∷ [])
unfolding kind_of
order = between (codes "ORDER") k.Order (refl, refl, refl)

pub by : Token (k.By ∷ []) (codes "BY " ∷ [])
unfolding kind_of
by = front (codes "BY") k.By (refl, refl, refl)

pub skip : Token (k.Skip ∷ []) (codes " SKIP " ∷ [])
unfolding kind_of
skip = between (codes "SKIP") k.Skip (refl, refl, refl)

pub limit : Token (k.Limit ∷ []) (codes " LIMIT " ∷ [])
unfolding kind_of
limit = between (codes "LIMIT") k.Limit (refl, refl, refl)

pub as_word : Token (k.As ∷ []) (codes " AS " ∷ [])
unfolding kind_of
as_word = between (codes "AS") k.As (refl, refl, refl)

pub star : Word (k.Star ∷ []) (codes "*" ∷ [])
unfolding kind_of
star = record { word = record { reads = λ behind h. sign 42 k.Star refl refl refl behind (lone 42 refl refl refl refl behind) } }

more : (a b c : Bool) → a || c ≡ true → a || (b || c) ≡ true
more true b c h = refl
more false true c h = refl
more false false c h = h

last_down : Word (k.Desc ∷ []) (codes " DESC" ∷ [])
unfolding kind_of
last_down = back (codes "DESC") k.Desc (refl, refl, refl)

pub desc : Word (k.Desc ∷ k.Descending ∷ []) (codes " DESC" ∷ [])
desc = record { word = via (λ ts u. (u.0, u.1, more (eqb (number u.0.kind) (number k.Desc)) (eqb (number u.0.kind) (number k.Descending)) false u.2)) last_down.word }

-- ---- those of queries

pub with_word : Token (k.With ∷ []) (codes "WITH " ∷ [])
unfolding kind_of
with_word = front (codes "WITH") k.With (refl, refl, refl)

pub return_word : Token (k.Return ∷ []) (codes "RETURN " ∷ [])
unfolding kind_of
return_word = front (codes "RETURN") k.Return (refl, refl, refl)

pub tt_word : Token (k.Tt ∷ []) (codes "TT " ∷ [])
unfolding kind_of
tt_word = front (codes "TT") k.Tt (refl, refl, refl)

pub snapshot : Token (k.Snapshot ∷ []) (codes "SNAPSHOT " ∷ [])
unfolding kind_of
snapshot = front (codes "SNAPSHOT") k.Snapshot (refl, refl, refl)

pub between_word : Token (k.Between ∷ []) (codes "BETWEEN " ∷ [])
unfolding kind_of
between_word = front (codes "BETWEEN") k.Between (refl, refl, refl)

pub and_word : Token (k.And ∷ []) (codes " AND " ∷ [])
unfolding kind_of
and_word = between (codes "AND") k.And (refl, refl, refl)

pub semicolon : Word (k.Semicolon ∷ []) (codes ";" ∷ [])
unfolding kind_of
semicolon = record { word = record { reads = λ behind h. sign 59 k.Semicolon refl refl refl behind (lone 59 refl refl refl refl behind) } }
