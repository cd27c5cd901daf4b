-- How the tokens of a text stand in it.
use Rattle.std.specs.Prelude.{◌≡◌, ◌⊎◌, ℕ, ◌<◌, ◌≤◌, true, List, [], ◌∷◌, ◌++◌, length, slice_range, Option, Some, None, option_and_then}
use Rattle.std.specs.List.{list_all}
use Rattle.cypher_syntax.specs.declared.token.Token.{Token}
use Rattle.cypher_syntax.specs.declared.token.What.{What}
use Rattle.cypher_syntax.specs.declared.token.What.TheVariants as what
use Rattle.cypher_syntax.specs.Bytes.{is_blank, begins_word, continues_word, is_sign, is_long_sign, within_line}
use Rattle.cypher_syntax.specs.Numerals.{numeral_of, integer_of}
use Rattle.cypher_syntax.specs.Quotes.{inside}

-- white space and comments
pub data IsGap : List ℕ → Type 0 where
  Nothing : IsGap []
  Blank : (b : ℕ) (rest : List ℕ) → is_blank b ≡ true → IsGap rest → IsGap (b ∷ rest)
  Line : (text rest : List ℕ) → list_all within_line text ≡ true → IsGap rest → IsGap (47 ∷ 47 ∷ (text ++ rest))
  Closed : (text rest : List ℕ) → IsGap rest → IsGap (47 ∷ 42 ∷ (text ++ (42 ∷ 47 ∷ rest)))

-- a word: a letter or `_`, and then letters, digits and `_`
abbrev pub IsWord : List ℕ → Type 0
IsWord [] = ⊥
IsWord (b ∷ bytes) = (begins_word b ≡ true) × (list_all continues_word bytes ≡ true)

abbrev pub IsSign : List ℕ → Type 0
IsSign [] = ⊥
IsSign (a ∷ []) = is_sign a ≡ true
IsSign (a ∷ b ∷ []) = is_long_sign a b ≡ true
IsSign (a ∷ b ∷ c ∷ bytes) = ⊥

-- a quote, and then what stands for a text, with the quote that ends it
abbrev pub IsQuoted : ℕ → List ℕ → List ℕ → Type 0
IsQuoted quote text [] = ⊥
IsQuoted quote text (b ∷ bytes) = (b ≡ quote) × (inside quote 0 bytes ≡ Some (text, length bytes))

-- the bytes are how such a token is written
abbrev pub IsSpelling : What → List ℕ → Type 0
IsSpelling what.Word bytes = IsWord bytes
IsSpelling (what.Quoted name) bytes = IsQuoted 96 name bytes
IsSpelling (what.Int n) bytes = option_and_then integer_of (numeral_of bytes) ≡ Some (what.Int n)
IsSpelling what.IntMin bytes = option_and_then integer_of (numeral_of bytes) ≡ Some what.IntMin
IsSpelling (what.Text text) bytes = IsQuoted 39 text bytes ⊎ IsQuoted 34 text bytes
IsSpelling what.Sign bytes = IsSign bytes

-- From a place on the text is these tokens up to an end: their spans ascend, the slice of each is how it is written, and
-- before, between and behind them stand white space and comments.
abbrev pub IsParted : List ℕ → ℕ → List Token → ℕ → Type 0
IsParted text at [] end = (at ≤ end) × IsGap (slice_range text at end)
IsParted text at (t ∷ tokens) end =
    (at ≤ t.from) × (t.from < t.to)
    × IsGap (slice_range text at t.from)
    × IsSpelling t.what (slice_range text t.from t.to)
    × IsParted text t.to tokens end

-- the end of what was read: the first fault, or the text's end
abbrev pub end_of : List ℕ → Option ℕ → ℕ
end_of text None = length text
end_of text (Some place) = place
