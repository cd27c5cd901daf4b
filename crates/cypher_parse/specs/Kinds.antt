-- Kinds of tokens, and sets of them whose conditions compute.
use Rattle.std.specs.Prelude.{ℕ, Bool, true, false, not, ◌&&◌, ◌||◌, ◌==◌, List, [], ◌∷◌}
use Rattle.cypher_parse.specs.declared.kind.Kind.{Kind}
use Rattle.cypher_parse.specs.declared.kind.Kind.TheVariants as k

abbrev pub number : Kind → ℕ
number k.And = 0
number k.As = 1
number k.Asc = 2
number k.Ascending = 3
number k.By = 4
number k.Case = 5
number k.Contains = 6
number k.Create = 7
number k.Delete = 8
number k.Desc = 9
number k.Descending = 10
number k.Detach = 11
number k.Distinct = 12
number k.Else = 13
number k.End = 14
number k.Ends = 15
number k.False = 16
number k.In = 17
number k.Is = 18
number k.Limit = 19
number k.Match = 20
number k.Not = 21
number k.Null = 22
number k.Optional = 23
number k.Or = 24
number k.Order = 25
number k.Remove = 26
number k.Return = 27
number k.Set = 28
number k.Skip = 29
number k.Starts = 30
number k.Then = 31
number k.True = 32
number k.Tt = 33
number k.Unwind = 34
number k.When = 35
number k.Where = 36
number k.With = 37
number k.Xor = 38
number k.Snapshot = 39
number k.Between = 40
number k.IdWord = 41
number k.LabelsWord = 42
number k.TypeWord = 43
number k.StartNodeWord = 44
number k.EndNodeWord = 45
number k.KeysWord = 46
number k.SizeWord = 47
number k.HeadWord = 48
number k.LastWord = 49
number k.AbsWord = 50
number k.ToStringWord = 51
number k.ToIntegerWord = 52
number k.RangeWord = 53
number k.CoalesceWord = 54
number k.CountWord = 55
number k.SumWord = 56
number k.MinWord = 57
number k.MaxWord = 58
number k.CollectWord = 59
number k.LeftParen = 60
number k.RightParen = 61
number k.LeftBracket = 62
number k.RightBracket = 63
number k.LeftBrace = 64
number k.RightBrace = 65
number k.Comma = 66
number k.Semicolon = 67
number k.Colon = 68
number k.Point = 69
number k.Bar = 70
number k.Plus = 71
number k.Minus = 72
number k.Star = 73
number k.Slash = 74
number k.Percent = 75
number k.Equal = 76
number k.NotEqual = 77
number k.Less = 78
number k.LessOrEqual = 79
number k.Greater = 80
number k.GreaterOrEqual = 81
number k.TwoPoints = 82
number k.Name = 83
number k.Integer = 84
number k.LeastMagnitude = 85
number k.Quote = 86
number k.Unknown = 87

abbrev pub member : ℕ → List Kind → Bool
member n [] = false
member n (k ∷ ks) = n == number k || member n ks

-- no kind is in both
abbrev pub disjoint : List Kind → List Kind → Bool
disjoint [] ys = true
disjoint (x ∷ xs) ys = not (member (number x) ys) && disjoint xs ys

-- each kind of the first is in the second
abbrev pub subset : List Kind → List Kind → Bool
subset [] ys = true
subset (x ∷ xs) ys = member (number x) ys && subset xs ys
