-- What a word or sign is to the grammar.
use Rattle.std.specs.Prelude.{ℕ, List, [], ◌∷◌, map, Option, Some, None, if◌then◌else◌}
use Rattle.std.specs.Str.{str_eq_ignore_ascii_case}
use Rattle.cypher_parse.specs.declared.kind.Kind.{Kind}
use Rattle.cypher_parse.specs.declared.spelling.TheConstants.{SPELLINGS}

-- the kind of the first spelling in the list that the word is, in any case of its letters
abbrev pub spelled : List (List ℕ × Kind) → List ℕ → Option Kind
spelled [] word = None
spelled (s ∷ rest) word = if str_eq_ignore_ascii_case word s.0 then Some s.1 else spelled rest word

-- the kind of a word or sign that has one of its own
unfoldable pub kind_of : List ℕ → Option Kind
kind_of word = spelled (map (λ s. (s.0.now, s.1)) SPELLINGS) word
