-- What tokens mean by their kind or by what they carry.
use Rattle.std.specs.Prelude.{ℕ, ℤ, List, Option, Some, None}
use Rattle.cypher_syntax.specs.declared.tree.operators.CmpOp.{CmpOp}
use Rattle.cypher_syntax.specs.declared.tree.operators.CmpOp.TheVariants as cmp
use Rattle.cypher_syntax.specs.declared.tree.operators.SumOp.{SumOp}
use Rattle.cypher_syntax.specs.declared.tree.operators.SumOp.TheVariants.{Plus, Minus}
use Rattle.cypher_syntax.specs.declared.tree.operators.ProdOp.{ProdOp}
use Rattle.cypher_syntax.specs.declared.tree.operators.ProdOp.TheVariants.{Times, Over, Rest}
use Rattle.cypher_syntax.specs.declared.tree.operators.Fun.{Fun}
use Rattle.cypher_syntax.specs.declared.tree.operators.Fun.TheVariants as fun
use Rattle.cypher_syntax.specs.declared.tree.operators.AggFun.{AggFun}
use Rattle.cypher_syntax.specs.declared.tree.operators.AggFun.TheVariants as agg
use Rattle.cypher_parse.specs.declared.kind.Kind.{Kind}
use Rattle.cypher_parse.specs.declared.kind.Kind.TheVariants as k
use Rattle.cypher_parse.specs.declared.lexeme.Lexeme.{Lexeme}
use Rattle.cypher_parse.specs.declared.lexeme.Payload.{Payload}
use Rattle.cypher_parse.specs.declared.lexeme.Payload.TheVariants as payload

-- ---- what a token carries

abbrev pub name_in : Payload → Option (List ℕ)
name_in (payload.Name n) = Some n
name_in other = None

abbrev pub integer_in : Payload → Option ℤ
integer_in (payload.Integer z) = Some z
integer_in other = None

abbrev pub text_in : Payload → Option (List ℕ)
text_in (payload.Text t) = Some t
text_in other = None

abbrev pub name_of : Lexeme → Option (List ℕ)
name_of t = name_in t.payload

abbrev pub integer_of : Lexeme → Option ℤ
integer_of t = integer_in t.payload

abbrev pub text_of : Lexeme → Option (List ℕ)
text_of t = text_in t.payload

-- a function's kind, and the word as it is written
abbrev pub with_name : Kind → Option (List ℕ) → Option (Kind × List ℕ)
with_name kind None = None
with_name kind (Some n) = Some (kind, n)

abbrev pub function_of : Lexeme → Option (Kind × List ℕ)
function_of t = with_name t.kind (name_of t)

-- ---- what a kind stands for

abbrev pub comparison_of : Kind → CmpOp
comparison_of k.Equal = cmp.Eq
comparison_of k.NotEqual = cmp.Ne
comparison_of k.Less = cmp.Lt
comparison_of k.LessOrEqual = cmp.Le
comparison_of k.Greater = cmp.Gt
comparison_of kind = cmp.Ge

abbrev pub sum_sign_of : Kind → SumOp
sum_sign_of k.Plus = Plus
sum_sign_of kind = Minus

abbrev pub product_sign_of : Kind → ProdOp
product_sign_of k.Star = Times
product_sign_of k.Slash = Over
product_sign_of kind = Rest

abbrev pub function_for : Kind → Fun
function_for k.IdWord = fun.Id
function_for k.LabelsWord = fun.Labels
function_for k.TypeWord = fun.Kind
function_for k.StartNodeWord = fun.StartNode
function_for k.EndNodeWord = fun.EndNode
function_for k.KeysWord = fun.Keys
function_for k.SizeWord = fun.Size
function_for k.HeadWord = fun.Head
function_for k.LastWord = fun.Last
function_for k.AbsWord = fun.Abs
function_for k.ToStringWord = fun.ToText
function_for kind = fun.ToInteger

abbrev pub aggregate_for : Kind → AggFun
aggregate_for k.SumWord = agg.Sum
aggregate_for k.MinWord = agg.Min
aggregate_for k.MaxWord = agg.Max
aggregate_for kind = agg.Collect
