-- Printed names, texts and numbers are read as what they were.
use Rattle.std.proofs.Common.{◌≡◌, ℕ, suc, ◌+◌, ◌<◌, Bool, true, false, cond, not, ◌&&◌, ◌||◌, eqb, nat_lt, List, [], ◌∷◌, ◌++◌, length, drop, map, Option, Some, None, refl, sym, ap, subst, ◌∙◌, append_assoc, arith}
use Rattle.std.specs.List.{flat_map, list_all, prefix_len}
use Rattle.std.specs.Char.{encode_utf8, to_ascii_lowercase}
use Rattle.std.specs.Str.{str_eq_ignore_ascii_case}
use Rattle.std.proofs.Math.Seq.{drop-append_seam}
use Rattle.std.proofs.lemmas.Bool.{false≢true}
use Rattle.std.proofs.lemmas.Bool.Decides.{nat_tests}
use Rattle.std.proofs.lemmas.List.{length-append}
use Rattle.std.proofs.lemmas.Slice.Eq.{bytes_eq-Decides}
use Rattle.cypher_syntax.specs.declared.token.What.{What}
use Rattle.cypher_syntax.specs.declared.token.What.TheVariants as what
use Rattle.cypher_syntax.specs.declared.lexer.front.Front.TheVariants.{Made}
use Rattle.cypher_syntax.specs.Bytes.{is_blank, begins_word, continues_word, is_quote, heads}
use Rattle.cypher_syntax.specs.Quotes.{is_plain, inside, further}
use Rattle.cypher_syntax.specs.Lexing.{unquoted_front, front_of, name_front, text_front, after_front, with_token, lexed_from}
use Rattle.cypher_syntax.proofs.Insides.{plain_first, further-further}
use Rattle.cypher_syntax.proofs.Lexes.{lexed_first, lexed_behind}
use Rattle.cypher_syntax.proofs.Spelled.{is_byte}
use Rattle.cypher_syntax.proofs.Fronts.{word_goes_on}
use Rattle.cypher_parse.specs.declared.kind.Kind.{Kind}
use Rattle.cypher_parse.specs.declared.kind.Kind.TheVariants as k
use Rattle.cypher_parse.specs.declared.kinds.TheConstants.{NAMES, SCHEMA_NAMES}
use Rattle.cypher_parse.specs.declared.spelling.TheConstants.{SPELLINGS}
use Rattle.cypher_parse.specs.declared.lexeme.Lexeme.{Lexeme}
use Rattle.cypher_parse.specs.Kinds.{number, member}
use Rattle.cypher_parse.specs.Spelling.{kind_of, spelled as kind_in}
use Rattle.cypher_parse.specs.Texts.{or_name, lexeme_of}
use Rattle.cypher_print.specs.Pieces.{Pieces, written, is_reserved, is_keyword, is_word, spelled, quoted, schema, name}
use Rattle.cypher_print.specs.ReadBack.{parts_name, IsReadAs, IsNamed, IsText}

-- which of two a test picks
pub split : (P : Type 0) (b : Bool) → (b ≡ true → P) → (b ≡ false → P) → P
split P true t f = t refl
split P false t f = f refl

-- what holds of a byte holds of each that equals it
pub at_byte : (P : ℕ → Type 0) (c : ℕ) → P c → (x : ℕ) → eqb x c ≡ true → P x
at_byte P c h x e = subst P (sym (is_byte x c e)) h

-- what stands at the front is the first token
pub in_front : (P : Lexeme → Type 0) (w : What) (printed behind : List ℕ) → 0 < length printed → front_of (printed ++ behind) ≡ Made w (length printed) → ((place : ℕ) → P (lexeme_of w printed place)) → IsReadAs P printed behind
in_front P w printed behind some front such =
    let there : 0 < length (printed ++ behind) = omega (arith, some, length-append printed behind) in (
      w,
      λ at. (lexed_first at (printed ++ behind) there
          ∙ ap (λ f. after_front at f (λ skip. lexed_from (at + 1) skip (drop 1 (printed ++ behind)))) front
          ∙ ap (with_token (record { what = w; from = at; to = at + length printed })) (lexed_behind at (length printed) (printed ++ behind) some ∙ ap (lexed_from (at + length printed) 0) (drop-append_seam printed behind))),
      such,
    )

-- ---- between quotes

-- a byte is read from how it is written
abbrev IsStep : ℕ → List ℕ → ℕ → Type 0
IsStep q rest x = inside q 0 (spelled q x ++ rest) ≡ further (x ∷ []) (length (spelled q x)) (inside q 0 rest)

twofold : (q x : ℕ) (rest : List ℕ) → further (x ∷ []) 1 (further [] 1 (inside q 0 rest)) ≡ further (x ∷ []) 2 (inside q 0 rest)
twofold q x rest = further-further (x ∷ []) [] 1 1 (inside q 0 rest)

itself : (q x : ℕ) (rest : List ℕ) → spelled q x ≡ x ∷ [] → is_plain q x ≡ true → IsStep q rest x
itself q x rest e p =
    ap (λ (ys : List ℕ). inside q 0 (ys ++ rest)) e ∙ plain_first q x rest p ∙ sym (ap (λ (ys : List ℕ). further (x ∷ []) (length ys) (inside q 0 rest)) e)

name_step : (rest : List ℕ) (x : ℕ) → IsStep 96 rest x
unfolding inside encode_utf8
name_step rest x =
    split (IsStep 96 rest x) (eqb x 96)
    (at_byte (IsStep 96 rest) 96 (twofold 96 96 rest) x)
    (λ e. itself 96 x rest (rw e refl) (rw e (split (not (false || (eqb x 92 && false)) ≡ true) (eqb x 92) (λ h. rw h refl) (λ h. rw h refl))))

text_step : (rest : List ℕ) (x : ℕ) → IsStep 39 rest x
unfolding inside encode_utf8
text_step rest x =
    split (IsStep 39 rest x) (eqb x 92) (at_byte (IsStep 39 rest) 92 (twofold 39 92 rest) x) (λ a.
    split (IsStep 39 rest x) (eqb x 39) (at_byte (IsStep 39 rest) 39 (twofold 39 39 rest) x) (λ b.
    split (IsStep 39 rest x) (eqb x 8) (at_byte (IsStep 39 rest) 8 (twofold 39 8 rest) x) (λ c.
    split (IsStep 39 rest x) (eqb x 12) (at_byte (IsStep 39 rest) 12 (twofold 39 12 rest) x) (λ d.
    split (IsStep 39 rest x) (eqb x 10) (at_byte (IsStep 39 rest) 10 (twofold 39 10 rest) x) (λ e.
    split (IsStep 39 rest x) (eqb x 13) (at_byte (IsStep 39 rest) 13 (twofold 39 13 rest) x) (λ f.
    split (IsStep 39 rest x) (eqb x 9) (at_byte (IsStep 39 rest) 9 (twofold 39 9 rest) x) (λ g.
    itself 39 x rest (rw a (rw b (rw c (rw d (rw e (rw f (rw g refl))))))) (rw a (rw b refl)))))))))

module _ (q : ℕ) (step : (rest : List ℕ) (x : ℕ) → IsStep q rest x) (behind : List ℕ) (end : inside q 0 (q ∷ behind) ≡ Some ([], 1)) where
  abbrev body : List ℕ → List ℕ
  body text = flat_map (spelled q) text

  pub read_inside : (text : List ℕ) → inside q 0 (body text ++ q ∷ behind) ≡ Some (text, length (body text) + 1)
  read_inside [] = end
  read_inside (x ∷ xs) =
      ap (inside q 0) (append_assoc (spelled q x) (body xs) (q ∷ behind))
      ∙ step (body xs ++ q ∷ behind) x
      ∙ ap (further (x ∷ []) (length (spelled q x))) (read_inside xs)
      ∙ ap (λ (m : ℕ). Some (x ∷ xs, m)) (omega (arith, length-append (spelled q x) (body xs)))

  -- the same in front of what is behind
  pub read_quoted : (text : List ℕ) → inside q 0 ((body text ++ q ∷ []) ++ behind) ≡ Some (text, length (body text) + 1)
  read_quoted text = ap (inside q 0) (append_assoc (body text) (q ∷ []) behind) ∙ read_inside text

  pub quoted_length : (text : List ℕ) → length (body text) + 1 + 1 ≡ length (written [] (quoted q text))
  quoted_length text = omega (arith, length-append (body text) (q ∷ []))

-- ---- texts

text_ends : (behind : List ℕ) → inside 39 0 (39 ∷ behind) ≡ Some ([], 1)
unfolding inside
text_ends behind = refl

pub texts : (text behind : List ℕ) → IsReadAs (IsText text) (written [] (quoted 39 text)) behind
unfolding front_of
texts text behind =
    let size = quoted_length 39 text_step behind (text_ends behind) text in
    in_front (IsText text) (what.Text text) (written [] (quoted 39 text)) behind (omega (arith, size))
    (ap text_front (read_quoted 39 text_step behind (text_ends behind) text) ∙ ap (Made (what.Text text)) size)
    (λ place. (refl, refl))

-- ---- names between backquotes

no_backquote : (behind : List ℕ) → parts_name behind ≡ true → heads 96 behind ≡ false
no_backquote [] h = refl
no_backquote (b ∷ bytes) h = split (eqb b 96 ≡ false) (eqb b 96) (λ e. absurd (split ⊥ (continues_word b) (λ c. false≢true (sym (rw c refl) ∙ h)) (λ c. false≢true (sym (rw c (rw e refl)) ∙ h)))) (λ e. e)

name_ends : (behind : List ℕ) → heads 96 behind ≡ false → inside 96 0 (96 ∷ behind) ≡ Some ([], 1)
unfolding inside
name_ends behind h = rw h refl

quoted_name : (P : Lexeme → Type 0) (n behind : List ℕ) → 0 < length n → parts_name behind ≡ true → ((place : ℕ) → P (lexeme_of (what.Quoted n) [] place)) → IsReadAs P (written [] (quoted 96 n)) behind
unfolding front_of
quoted_name P [] behind some parts h = absurd (omega arith)
quoted_name P (x ∷ xs) behind some parts h =
    let end = name_ends behind (no_backquote behind parts) in
    let size = quoted_length 96 name_step behind end (x ∷ xs) in
    in_front P (what.Quoted (x ∷ xs)) (written [] (quoted 96 (x ∷ xs))) behind (omega (arith, size))
    (ap name_front (read_quoted 96 name_step behind end (x ∷ xs)) ∙ ap (Made (what.Quoted (x ∷ xs))) size)
    h

-- ---- words

no_more : (behind : List ℕ) → parts_name behind ≡ true → prefix_len continues_word behind ≡ 0
no_more [] h = refl
no_more (b ∷ bytes) h = split (prefix_len continues_word (b ∷ bytes) ≡ 0) (continues_word b) (λ c. absurd (false≢true (sym (rw c refl) ∙ h))) (λ c. rw c refl)

both : (a b : Bool) → a && b ≡ true → (a ≡ true) × (b ≡ true)
both true b h = (refl, h)
both false b h = absurd (false≢true h)

pub run : (p : ℕ → Bool) (xs ys : List ℕ) → list_all p xs ≡ true → prefix_len p ys ≡ 0 → prefix_len p (xs ++ ys) ≡ length xs
run p [] ys h none = none
run p (x ∷ xs) ys h none =
    let passes = both (p x) (list_all p xs) h in
    let e : suc (prefix_len p (xs ++ ys)) ≡ prefix_len p (x ∷ (xs ++ ys)) = rw passes.0 (omega arith) in
    sym e ∙ ap suc (run p xs ys passes.1 none)

unquoted : (b : ℕ) → begins_word b ≡ true → is_quote b ≡ false
unquoted b h = grind (arith, nat_tests)

unblank : (b : ℕ) → begins_word b ≡ true → is_blank b ≡ false
unblank b h = grind (arith, nat_tests)

word_front : (b : ℕ) (bytes : List ℕ) → begins_word b ≡ true → front_of (b ∷ bytes) ≡ Made what.Word (prefix_len continues_word (b ∷ bytes))
unfolding front_of unquoted_front
word_front b bytes h = rw (unquoted b h) (rw (unblank b h) (rw h refl))

-- a word that isn't quoted
pub word : (P : Lexeme → Type 0) (n behind : List ℕ) → is_word n ≡ true → prefix_len continues_word behind ≡ 0 → ((place : ℕ) → P (lexeme_of what.Word n place)) → IsReadAs P (written [] (n ∷ [])) behind
word P [] behind is none h = absurd (false≢true is)
word P (b ∷ bytes) behind is none h =
    let w = both (begins_word b) (list_all continues_word bytes) is in
    let all : list_all continues_word (b ∷ bytes) ≡ true = rw (word_goes_on b w.0) w.1 in
    in_front P what.Word (b ∷ bytes) behind (omega arith)
    (word_front b (bytes ++ behind) w.0 ∙ ap (Made what.Word) (run continues_word (b ∷ bytes) behind all none))
    h

-- ---- the kinds of words

abbrev first_of : List ℕ → ℕ
first_of [] = 0
first_of (b ∷ bytes) = b

-- a spelling that is a word has such a kind
abbrev row_fits : (Kind → Bool) → List ℕ × Kind → Bool
row_fits f s = not (begins_word (first_of s.0)) || f s.1

abbrev Fits : (Kind → Bool) → Option Kind → Type 0
Fits f None = Unit {0}
Fits f (Some kind) = f kind ≡ true

same_first : (b c : ℕ) → begins_word b ≡ true → to_ascii_lowercase b ≡ to_ascii_lowercase c → begins_word c ≡ true
same_first b c h e = grind (arith, nat_tests)

begins_too : (b : ℕ) (bytes s : List ℕ) → begins_word b ≡ true → map to_ascii_lowercase (b ∷ bytes) ≡ map to_ascii_lowercase s → begins_word (first_of s) ≡ true
begins_too b bytes [] h e = absurd (cc)
begins_too b bytes (c ∷ cs) h e = let same : to_ascii_lowercase b ≡ to_ascii_lowercase c = cc in same_first b c h same

row_kind : (f : Kind → Bool) (s : List ℕ × Kind) → begins_word (first_of s.0) ≡ true → row_fits f s ≡ true → f s.1 ≡ true
row_kind f s h fits = sym (rw h refl) ∙ fits

fits_in : (f : Kind → Bool) (table : List (List ℕ × Kind)) (b : ℕ) (bytes : List ℕ) → begins_word b ≡ true → list_all (row_fits f) table ≡ true → Fits f (kind_in table (b ∷ bytes))
fits_in f [] b bytes h all = tt
fits_in f (s ∷ rest) b bytes h all =
    let rows = both (row_fits f s) (list_all (row_fits f) rest) all in
    elim (str_eq_ignore_ascii_case (b ∷ bytes) s.0) as (λ t. str_eq_ignore_ascii_case (b ∷ bytes) s.0 ≡ t → Fits f (cond t (Some s.1) (kind_in rest (b ∷ bytes)))) [
      | true ↦ λ e. row_kind f s (begins_too b bytes s.0 h ((bytes_eq-Decides (map to_ascii_lowercase (b ∷ bytes)) (map to_ascii_lowercase s.0)).0 e)) rows.0
      | false ↦ λ e. fits_in f rest b bytes h rows.1
    ] refl

-- a keyword, or what may stand as a name
abbrev keyword_or_name : Kind → Bool
keyword_or_name kind = nat_lt (number kind) (number k.Snapshot) || member (number kind) NAMES

abbrev schema_name : Kind → Bool
schema_name kind = member (number kind) SCHEMA_NAMES

word_kinds : (f : Kind → Bool) → list_all (row_fits f) (map (λ s. (s.0.now, s.1)) SPELLINGS) ≡ true → (n : List ℕ) → is_word n ≡ true → Fits f (kind_of n)
unfolding kind_of
word_kinds f all [] is = absurd (false≢true is)
word_kinds f all (b ∷ bytes) is = fits_in f (map (λ s. (s.0.now, s.1)) SPELLINGS) b bytes (both (begins_word b) (list_all continues_word bytes) is).0 all

name_kind : (o : Option Kind) → Fits keyword_or_name o → is_reserved o ≡ false → member (number (or_name o)) NAMES ≡ true
name_kind None h free = refl
name_kind (Some kind) h free = sym (rw free refl) ∙ h

schema_kind : (o : Option Kind) → Fits schema_name o → member (number (or_name o)) SCHEMA_NAMES ≡ true
schema_kind None h = refl
schema_kind (Some kind) h = h

-- ---- names

picked : (P : Lexeme → Type 0) (behind : List ℕ) (c : Bool) (a b : Pieces) → (c ≡ true → IsReadAs P (written [] a) behind) → (c ≡ false → IsReadAs P (written [] b) behind) → IsReadAs P (written [] (cond c a b)) behind
picked P behind true a b x y = x refl
picked P behind false a b x y = y refl

free_word : (n : List ℕ) → is_word n && not (is_keyword n) ≡ true → is_keyword n ≡ false
free_word n h = split (is_keyword n ≡ false) (is_keyword n) (λ e. absurd (false≢true (sym (rw e refl) ∙ (both (is_word n) (not (is_keyword n)) h).1))) (λ e. e)

pub names : (n behind : List ℕ) → 0 < length n → parts_name behind ≡ true → IsReadAs (IsNamed NAMES n) (written [] (name n)) behind
names n behind some parts =
    picked (IsNamed NAMES n) behind (is_word n && not (is_keyword n)) (n ∷ []) (quoted 96 n)
    (λ h. (let is = (both (is_word n) (not (is_keyword n)) h).0 in word (IsNamed NAMES n) n behind is (no_more behind parts) (λ place. (name_kind (kind_of n) (word_kinds keyword_or_name refl n is) (free_word n h), refl))))
    (λ h. quoted_name (IsNamed NAMES n) n behind some parts (λ place. (refl, refl)))

pub schema_names : (n behind : List ℕ) → 0 < length n → parts_name behind ≡ true → IsReadAs (IsNamed SCHEMA_NAMES n) (written [] (schema n)) behind
schema_names n behind some parts =
    picked (IsNamed SCHEMA_NAMES n) behind (is_word n) (n ∷ []) (quoted 96 n)
    (λ is. word (IsNamed SCHEMA_NAMES n) n behind is (no_more behind parts) (λ place. (schema_kind (kind_of n) (word_kinds schema_name refl n is), refl)))
    (λ h. quoted_name (IsNamed SCHEMA_NAMES n) n behind some parts (λ place. (refl, refl)))
