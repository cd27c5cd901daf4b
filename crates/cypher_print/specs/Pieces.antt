-- Texts as pieces, one behind the other: names, strings, literals and operators.
use Rattle.std.specs.Prelude.{◌≡◌, ◌⊎◌, ℕ, ◌==◌, Bool, true, false, ◌&&◌, ◌||◌, nat_lt, not, List, [], ◌∷◌, ◌++◌, fold, codes, if◌then◌else◌, Option, Some, None}
use Rattle.std.specs.List.{flat_map, list_all}
use Rattle.std.specs.Fmt.{signed_decimal}
use Rattle.cypher_parse.specs.declared.kind.Kind.{Kind}
use Rattle.cypher_parse.specs.declared.kind.Kind.TheVariants as k
use Rattle.cypher_parse.specs.Kinds.{number}
use Rattle.cypher_parse.specs.Spelling.{kind_of}
use Rattle.graph_value.specs.declared.value.Value.{Value, out-Value}
use Rattle.graph_value.specs.declared.value.Value.TheOpen.{Value-F}
use Rattle.cypher_syntax.specs.Bytes.{begins_word, continues_word}
use Rattle.cypher_syntax.specs.declared.tree.operators.CmpOp.{CmpOp}
use Rattle.cypher_syntax.specs.declared.tree.operators.CmpOp.TheVariants as cmp
use Rattle.cypher_syntax.specs.declared.tree.operators.SumOp.{SumOp}
use Rattle.cypher_syntax.specs.declared.tree.operators.SumOp.TheVariants as sum
use Rattle.cypher_syntax.specs.declared.tree.operators.ProdOp.{ProdOp}
use Rattle.cypher_syntax.specs.declared.tree.operators.ProdOp.TheVariants as prod
use Rattle.cypher_syntax.specs.declared.tree.operators.Fun.{Fun}
use Rattle.cypher_syntax.specs.declared.tree.operators.Fun.TheVariants as fun
use Rattle.cypher_syntax.specs.declared.tree.operators.AggFun.{AggFun}
use Rattle.cypher_syntax.specs.declared.tree.operators.AggFun.TheVariants as agg

abbrev pub Pieces : Type 0
Pieces = List (List ℕ)

-- a text, and pieces behind it
abbrev pub written : List ℕ → Pieces → List ℕ
written text pieces = fold (λ t piece. t ++ piece) text pieces

-- NAMES

-- the kinds of keywords are those with the least numbers
abbrev pub is_reserved : Option Kind → Bool
is_reserved None = false
is_reserved (Some kind) = nat_lt (number kind) (number k.Snapshot)

abbrev pub is_keyword : List ℕ → Bool
is_keyword word = is_reserved (kind_of word)

abbrev pub is_word : List ℕ → Bool
is_word [] = false
is_word (b ∷ bytes) = begins_word b && list_all continues_word bytes

-- how a byte is written in a string, between single quotes
abbrev pub escaped : ℕ → List ℕ
escaped b =
    if b == 92 then 92 ∷ 92 ∷ []
    else if b == 39 then 92 ∷ 39 ∷ []
    else if b == 8 then 92 ∷ 98 ∷ []
    else if b == 12 then 92 ∷ 102 ∷ []
    else if b == 10 then 92 ∷ 110 ∷ []
    else if b == 13 then 92 ∷ 114 ∷ []
    else if b == 9 then 92 ∷ 116 ∷ []
    else b ∷ []

-- how a byte is written between quotes: in a name a backquote is doubled
abbrev pub spelled : ℕ → ℕ → List ℕ
spelled quote b = if quote == 96 then (if b == 96 then 96 ∷ 96 ∷ [] else b ∷ []) else escaped b

-- a byte between quotes that stands for itself
abbrev pub is_ordinary : ℕ → ℕ → Bool
is_ordinary quote b =
    if quote == 96 then not (b == 96)
    else not (b == 92 || b == 39 || b == 8 || b == 12 || b == 10 || b == 13 || b == 9)

-- a backquote or a single quote
abbrev pub IsQuote : ℕ → Type 0
IsQuote quote = (quote ≡ 96) ⊎ (quote ≡ 39)

abbrev pub quoted : ℕ → List ℕ → Pieces
quoted quote text = (quote ∷ []) ∷ flat_map (spelled quote) text ∷ (quote ∷ []) ∷ []

-- a label, a kind or the name of a property, which may be a keyword
abbrev pub schema : List ℕ → Pieces
schema name = if is_word name then name ∷ [] else quoted 96 name

-- a name in scope
abbrev pub name : List ℕ → Pieces
name n = if is_word n && not (is_keyword n) then n ∷ [] else quoted 96 n

-- VALUES

-- A value that no text stands for is written as null.
abbrev pub value_level : Value-F Value → Pieces
value_level Value-F.Null = codes "NULL" ∷ []
value_level (Value-F.Bool true) = codes "TRUE" ∷ []
value_level (Value-F.Bool false) = codes "FALSE" ∷ []
value_level (Value-F.Int n) = signed_decimal n ∷ []
value_level (Value-F.Text text) = quoted 39 text
value_level _ = codes "NULL" ∷ []

abbrev pub value : Value → Pieces
value v = value_level (out-Value v)

-- OPERATORS AND FUNCTIONS

abbrev pub cmp_text : CmpOp → List ℕ
cmp_text cmp.Eq = codes " = "
cmp_text cmp.Ne = codes " <> "
cmp_text cmp.Lt = codes " < "
cmp_text cmp.Le = codes " <= "
cmp_text cmp.Gt = codes " > "
cmp_text cmp.Ge = codes " >= "

abbrev pub sum_text : SumOp → List ℕ
sum_text sum.Plus = codes " + "
sum_text sum.Minus = codes " - "

abbrev pub sign_text : SumOp → List ℕ
sign_text sum.Plus = codes "+"
sign_text sum.Minus = codes "-"

abbrev pub prod_text : ProdOp → List ℕ
prod_text prod.Times = codes " * "
prod_text prod.Over = codes " / "
prod_text prod.Rest = codes " % "

abbrev pub fun_text : Fun → List ℕ
fun_text fun.Id = codes "id"
fun_text fun.Labels = codes "labels"
fun_text fun.Kind = codes "type"
fun_text fun.StartNode = codes "startNode"
fun_text fun.EndNode = codes "endNode"
fun_text fun.Keys = codes "keys"
fun_text fun.Size = codes "size"
fun_text fun.Head = codes "head"
fun_text fun.Last = codes "last"
fun_text fun.Abs = codes "abs"
fun_text fun.ToText = codes "toString"
fun_text fun.ToInteger = codes "toInteger"
fun_text fun.Range = codes "range"
fun_text fun.Coalesce = codes "coalesce"

abbrev pub agg_text : AggFun → List ℕ
agg_text agg.Count = codes "count"
agg_text agg.Sum = codes "sum"
agg_text agg.Min = codes "min"
agg_text agg.Max = codes "max"
agg_text agg.Collect = codes "collect"
