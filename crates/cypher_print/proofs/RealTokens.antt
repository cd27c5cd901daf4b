-- No token of a text carries an empty name, or an integer that doesn't fit.
use Rattle.std.proofs.Common.{◌≡◌, ℕ, zero, suc, pos, ◌+◌, ◌-◌, ◌<◌, ◌^◌, Bool, true, false, cond, ◌&&◌, eqb, nat_lt, List, [], ◌∷◌, length, take, drop, map, slice_range, Option, Some, None, option_and_then, refl, arith}
use Rattle.std.specs.List.{prefix_len}
use Rattle.std.specs.Char.{is_ascii_digit}
use Rattle.std.proofs.lemmas.Bool.Decides.{nat_tests}
use Rattle.cypher_syntax.specs.declared.token.Token.{Token}
use Rattle.cypher_syntax.specs.declared.token.What.{What}
use Rattle.cypher_syntax.specs.declared.token.What.TheVariants as what
use Rattle.cypher_syntax.specs.declared.lexer.front.Front.{Front}
use Rattle.cypher_syntax.specs.declared.lexer.front.Front.TheVariants.{Gap, Made, Fault}
use Rattle.cypher_syntax.specs.Bytes.{is_blank, begins_word, continues_word, is_quote, heads, within_line, sign_len, closed_len}
use Rattle.cypher_syntax.specs.Numerals.{numeral_of, integer_of}
use Rattle.cypher_syntax.specs.Quotes.{Ended, inside}
use Rattle.cypher_syntax.specs.Lexing.{made, name_front, text_front, closed_front, sign_front, slash_front, unquoted_front, front_of, Lexed, lexed_from, lexed, after_front}
use Rattle.cypher_syntax.specs.Spans.{IsParted, IsWord, IsSpelling}
use Rattle.cypher_syntax.proofs.Parts.{parted}
use Rattle.cypher_parse.specs.Texts.{lexeme_of, lexeme, unknown_at, lexemes}
use Rattle.cypher_print.specs.Sentences.{All}
use Rattle.cypher_print.specs.QuerySentences.{IsSmall}
use Rattle.cypher_print.proofs.Holds.{Real, both_all}

-- of a word its slice tells
abbrev IsRealWhat : What → Type 0
IsRealWhat what.Word = Unit {0}
IsRealWhat (what.Quoted name) = 0 < length name
IsRealWhat (what.Int z) = (n : ℕ) × (z ≡ pos n) × IsSmall n
IsRealWhat what.IntMin = Unit {0}
IsRealWhat (what.Text text) = Unit {0}
IsRealWhat what.Sign = Unit {0}

abbrev IsRealFront : Front → Type 0
IsRealFront (Gap n) = Unit {0}
IsRealFront (Made w n) = IsRealWhat w
IsRealFront Fault = Unit {0}

-- ---- what stands at the front

pub record RealFront (f : Front) : Type 0 where
  pub real : IsRealFront f

gap_real : {n : ℕ} → RealFront (Gap n)
gap_real = record { real = tt }

word_real : {n : ℕ} → RealFront (Made what.Word n)
word_real = record { real = tt }

either : (c : Bool) {a b : Front} → RealFront a → RealFront b → RealFront (cond c a b)
either true h g = h
either false h g = g

real_name : (e : Ended) → RealFront (name_front e)
real_name None = record { real = tt }
real_name (Some ([], n)) = record { real = tt }
real_name (Some (b ∷ text, n)) = record { real = omega arith }

real_text : (e : Ended) → RealFront (text_front e)
real_text None = record { real = tt }
real_text (Some (text, n)) = record { real = tt }

real_closed : (o : Option ℕ) → RealFront (closed_front o)
real_closed None = record { real = tt }
real_closed (Some n) = gap_real

real_sign : (n : ℕ) → RealFront (sign_front n)
real_sign zero = record { real = tt }
real_sign (suc n) = record { real = tt }

small_by : (n m : ℕ) (c : Bool) → nat_lt n (2 ^ 63) ≡ c → (d : Bool) → RealFront (made (cond c (Some (what.Int (pos n))) (cond d (Some what.IntMin) None)) m)
small_by n m true e d = let small : n < 2 ^ 63 = grind (arith, nat_tests, e) in record { real = (n, refl, small) }
small_by n m false e true = record { real = tt }
small_by n m false e false = record { real = tt }

real_number : (o : Option ℕ) (m : ℕ) → RealFront (made (option_and_then integer_of o) m)
real_number None m = record { real = tt }
real_number (Some n) m = small_by n m (nat_lt n (2 ^ 63)) refl (eqb n (2 ^ 63))

real_slash : (bytes : List ℕ) → RealFront (slash_front bytes)
real_slash [] = record { real = tt }
real_slash (b ∷ bytes) = either (eqb b 47 && heads 47 bytes) (gap_real {n = prefix_len within_line (b ∷ bytes)}) (either (eqb b 47 && heads 42 bytes) (real_closed (closed_len (drop 1 bytes))) (real_sign (sign_len (b ∷ bytes))))

real_unquoted : (bytes : List ℕ) → RealFront (unquoted_front bytes)
unfolding unquoted_front
real_unquoted [] = record { real = tt }
real_unquoted (b ∷ bytes) =
    let n = prefix_len continues_word (b ∷ bytes) in
    either (is_blank b) (gap_real {n = prefix_len is_blank (b ∷ bytes)}) (either (begins_word b) (word_real {n = n}) (either (is_ascii_digit b) (real_number (numeral_of (take n (b ∷ bytes))) n) (real_slash (b ∷ bytes))))

real_front : (bytes : List ℕ) → RealFront (front_of bytes)
unfolding front_of
real_front [] = record { real = tt }
real_front (b ∷ bytes) = either (is_quote b) (either (eqb b 96) (real_name (inside 96 0 bytes)) (real_text (inside b 0 bytes))) (real_unquoted (b ∷ bytes))

-- ---- the tokens

abbrev Whats : List Token → Type 0
Whats tokens = All (λ t. IsRealWhat t.what) tokens

after_real : (at : ℕ) (f : Front) (rest : ℕ → Lexed) → IsRealFront f → ((skip : ℕ) → Whats (rest skip).tokens) → Whats (after_front at f rest).tokens
after_real at (Gap n) rest h are = are (n - 1)
after_real at (Made w n) rest h are = (h, are (n - 1))
after_real at Fault rest h are = tt

real_whats : (bytes : List ℕ) (at skip : ℕ) → Whats (lexed_from at skip bytes).tokens
unfolding lexed_from
real_whats [] at skip = tt
real_whats (b ∷ bytes) at (suc skip) = real_whats bytes (at + 1) skip
real_whats (b ∷ bytes) at zero = after_real at (front_of (b ∷ bytes)) (λ skip. lexed_from (at + 1) skip bytes) (real_front (b ∷ bytes)).real (λ skip. real_whats bytes (at + 1) skip)

word_there : (bytes : List ℕ) → IsWord bytes → 0 < length bytes
word_there [] is = absurd is
word_there (b ∷ bytes) is = omega arith

real_lexeme : (w : What) (bytes : List ℕ) (place : ℕ) → IsRealWhat w → IsSpelling w bytes → Real (lexeme_of w bytes place)
real_lexeme what.Word bytes place h is = word_there bytes is
real_lexeme (what.Quoted name) bytes place h is = h
real_lexeme (what.Int z) bytes place h is = h
real_lexeme what.IntMin bytes place h is = tt
real_lexeme (what.Text text) bytes place h is = tt
real_lexeme what.Sign bytes place h is = tt

real_tokens : (text : List ℕ) (tokens : List Token) (at end : ℕ) → Whats tokens → IsParted text at tokens end → All Real (map (lexeme text) tokens)
real_tokens text [] at end are is = tt
real_tokens text (t ∷ tokens) at end are is = (real_lexeme t.what (slice_range text t.from t.to) t.from are.0 is.3, real_tokens text tokens t.to end are.1 is.4)

real_unknown : (o : Option ℕ) → All Real (unknown_at o)
real_unknown None = tt
real_unknown (Some place) = (tt, tt)

pub real_lexemes : (text : List ℕ) → All Real (lexemes text)
unfolding lexemes
real_lexemes text = both_all Real (map (lexeme text) (lexed text).tokens) (unknown_at (lexed text).fault) (real_tokens text (lexed text).tokens 0 _ (real_whats text 0 0) (parted text)) (real_unknown (lexed text).fault)
