-- What a line asks for: a word of transactions, a command, or a query.
use Rattle.std.specs.Prelude.{ℕ, List, [], ◌∷◌, ◌++◌, Bool, false, ◌||◌, ◌==◌, reverse, codes, if◌then◌else◌}
use Rattle.std.specs.Str.{bytes_eq, str_eq_ignore_ascii_case}
use Rattle.session_core.specs.declared.statement.Kind.{Kind}
use Rattle.session_core.specs.declared.statement.Kind.TheVariants.{Begin, Commit, Rollback, Now, Stats, Sweep, Quit, Unknown, Query}

abbrev pub is_blank : ℕ → Bool
is_blank b = (b == 32) || (b == 9)

-- what stands behind the spaces and tabs at the begin
abbrev pub behind_blanks : List ℕ → List ℕ
behind_blanks [] = []
behind_blanks (b ∷ bytes) = if is_blank b then behind_blanks bytes else (b ∷ bytes)

-- what stands before the spaces and tabs at the end
abbrev pub before_blanks : List ℕ → List ℕ
before_blanks bytes = reverse (behind_blanks (reverse bytes))

-- the statement of a line: spaces and tabs at both ends are none of it
abbrev pub statement_of : List ℕ → List ℕ
statement_of line = before_blanks (behind_blanks line)

-- the word in any case, with or without a semicolon directly behind it
abbrev pub is_word : List ℕ → List ℕ → Bool
is_word statement word =
    str_eq_ignore_ascii_case statement word || str_eq_ignore_ascii_case statement (word ++ codes ";")

abbrev pub begins_with_point : List ℕ → Bool
begins_with_point [] = false
begins_with_point (b ∷ bytes) = b == 46

-- commands are compared as they are
abbrev pub command_of : List ℕ → Kind
command_of statement =
    if bytes_eq statement (codes ".now") then Now
    else if bytes_eq statement (codes ".stats") then Stats
    else if bytes_eq statement (codes ".sweep") then Sweep
    else if bytes_eq statement (codes ".quit") then Quit
    else if begins_with_point statement then Unknown
    else Query

unfoldable pub kind_of : List ℕ → Kind
kind_of statement =
    if is_word statement (codes "begin") then Begin
    else if is_word statement (codes "commit") then Commit
    else if is_word statement (codes "rollback") then Rollback
    else command_of statement
