-- The words of a line: numbers, names and objects.
use Rattle.std.specs.Prelude.{ℕ, ◌-◌, ◌*◌, ◌+◌, ◌^◌, ◌==◌, nat_lt, Bool, false, ◌&&◌, ◌||◌, not, if◌then◌else◌, List, [], ◌∷◌, fold, Option, Some, None, option_map, option_and_then}
use Rattle.std.specs.List.{slice_split, list_all}
use Rattle.std.specs.Char.{is_ascii_digit, is_ascii_alphabetic, is_ascii_alphanumeric}
use Rattle.graph_value.specs.declared.id.VertexId.{VertexId}
use Rattle.graph_value.specs.declared.id.Oid.{Oid}
use Rattle.graph_value.specs.declared.id.Oid.TheVariants.{Vertex, Edge}

infixl 10 ◌>>=◌
abbrev pub ◌>>=◌ : {A B : Type 0} → Option A → (A → Option B) → Option B
o >>= f = option_and_then f o

-- THE SPACES

-- The pieces between the spaces: n spaces give n + 1 pieces, of which some may be empty.
abbrev pub words_of : List ℕ → List (List ℕ)
words_of text = slice_split (λ b. b == 32) text

abbrev pub in_front : ℕ → List ℕ × List ℕ → List ℕ × List ℕ
in_front b parts = (b ∷ parts.0, parts.1)

-- what stands before the first space and what stands behind it, where there is one
abbrev pub cut : List ℕ → Option (List ℕ × List ℕ)
cut [] = None
cut (b ∷ bytes) = if b == 32 then Some ([], bytes) else option_map (in_front b) (cut bytes)

-- NUMBERS

-- the number that decimal digits stand for, from the left
abbrev pub value_of : List ℕ → ℕ
value_of digits = fold (λ n digit. n * 10 + (digit - 48)) 0 digits

-- digits, and no zero in front of others
abbrev pub is_number : List ℕ → Bool
is_number [] = false
is_number (c ∷ []) = is_ascii_digit c
is_number (c ∷ d ∷ digits) = not (c == 48) && list_all is_ascii_digit (c ∷ d ∷ digits)

abbrev pub number_of : List ℕ → Option ℕ
number_of word = if is_number word then Some (value_of word) else None

unfoldable pub number_below : ℕ → List ℕ → Option ℕ
number_below limit word = do
  n ← number_of word
  if nat_lt n limit then Some n else None

-- NAMES

-- a letter or `_`
abbrev pub begins_name : ℕ → Bool
begins_name c = is_ascii_alphabetic c || c == 95

-- a letter, a digit or `_`
abbrev pub continues_name : ℕ → Bool
continues_name c = is_ascii_alphanumeric c || c == 95

abbrev pub is_name : List ℕ → Bool
is_name [] = false
is_name (c ∷ cs) = begins_name c && list_all continues_name cs

unfoldable pub name_of : List ℕ → Option (List ℕ)
name_of word = if is_name word then Some word else None

-- OBJECTS

-- `v` or `e`, and a number
unfoldable pub oid_of : List ℕ → Option Oid
oid_of [] = None
oid_of (kind ∷ digits) = do
  n ← number_below (2 ^ 63) digits
  if kind == 118 then Some (Vertex (record { 0 = n })) else if kind == 101 then Some (Edge (record { 0 = n })) else None

abbrev pub only_vertex : Oid → Option VertexId
only_vertex (Vertex id) = Some id
only_vertex (Edge id) = None

-- an edge is no vertex
unfoldable pub vertex_of : List ℕ → Option VertexId
vertex_of word = do
  x ← oid_of word
  only_vertex x
