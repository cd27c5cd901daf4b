-- Keywords of expressions as printed pieces.
use Rattle.std.proofs.Common.{[], ◌∷◌, codes, refl}
use Rattle.cypher_parse.specs.declared.kind.Kind.TheVariants as k
use Rattle.cypher_parse.specs.Spelling.{kind_of}
use Rattle.cypher_print.proofs.PiecesRead.{Token, Word}
use Rattle.cypher_print.proofs.WordsRead.{front, between, back, alone}

pub or_word : Token (k.Or ∷ []) (codes " OR " ∷ [])
unfolding kind_of
or_word = between (codes "OR") k.Or (refl, refl, refl)

pub xor_word : Token (k.Xor ∷ []) (codes " XOR " ∷ [])
unfolding kind_of
xor_word = between (codes "XOR") k.Xor (refl, refl, refl)

pub and_word : Token (k.And ∷ []) (codes " AND " ∷ [])
unfolding kind_of
and_word = between (codes "AND") k.And (refl, refl, refl)

pub not_word : Token (k.Not ∷ []) (codes "NOT " ∷ [])
unfolding kind_of
not_word = front (codes "NOT") k.Not (refl, refl, refl)

pub in_word : Token (k.In ∷ []) (codes " IN " ∷ [])
unfolding kind_of
in_word = between (codes "IN") k.In (refl, refl, refl)

pub starts : Word (k.Starts ∷ []) (codes " STARTS" ∷ [])
unfolding kind_of
starts = back (codes "STARTS") k.Starts (refl, refl, refl)

pub ends : Word (k.Ends ∷ []) (codes " ENDS" ∷ [])
unfolding kind_of
ends = back (codes "ENDS") k.Ends (refl, refl, refl)

pub with_word : Token (k.With ∷ []) (codes " WITH " ∷ [])
unfolding kind_of
with_word = between (codes "WITH") k.With (refl, refl, refl)

pub contains : Token (k.Contains ∷ []) (codes " CONTAINS " ∷ [])
unfolding kind_of
contains = between (codes "CONTAINS") k.Contains (refl, refl, refl)

pub is_word : Word (k.Is ∷ []) (codes " IS" ∷ [])
unfolding kind_of
is_word = back (codes "IS") k.Is (refl, refl, refl)

pub not_behind : Word (k.Not ∷ []) (codes " NOT" ∷ [])
unfolding kind_of
not_behind = back (codes "NOT") k.Not (refl, refl, refl)

pub null_behind : Word (k.Null ∷ []) (codes " NULL" ∷ [])
unfolding kind_of
null_behind = back (codes "NULL") k.Null (refl, refl, refl)

pub case_word : Word (k.Case ∷ []) (codes "CASE" ∷ [])
unfolding kind_of
case_word = alone (codes "CASE") k.Case (refl, refl, refl)

pub when : Token (k.When ∷ []) (codes " WHEN " ∷ [])
unfolding kind_of
when = between (codes "WHEN") k.When (refl, refl, refl)

pub then : Token (k.Then ∷ []) (codes " THEN " ∷ [])
unfolding kind_of
then = between (codes "THEN") k.Then (refl, refl, refl)

pub else_word : Token (k.Else ∷ []) (codes " ELSE " ∷ [])
unfolding kind_of
else_word = between (codes "ELSE") k.Else (refl, refl, refl)

pub end : Word (k.End ∷ []) (codes " END" ∷ [])
unfolding kind_of
end = back (codes "END") k.End (refl, refl, refl)

pub true_word : Word (k.True ∷ []) (codes "TRUE" ∷ [])
unfolding kind_of
true_word = alone (codes "TRUE") k.True (refl, refl, refl)

pub false_word : Word (k.False ∷ []) (codes "FALSE" ∷ [])
unfolding kind_of
false_word = alone (codes "FALSE") k.False (refl, refl, refl)

pub null_word : Word (k.Null ∷ []) (codes "NULL" ∷ [])
unfolding kind_of
null_word = alone (codes "NULL") k.Null (refl, refl, refl)
