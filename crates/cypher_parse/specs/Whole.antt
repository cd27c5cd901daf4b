-- What the parser of texts is asked for.
use Rattle.std.specs.Prelude.{ℕ, List, length, Result}
use Rattle.cypher_syntax.specs.declared.tree.query.Query.{Query}
use Rattle.cypher_parse.specs.declared.error.ParseRefused.{ParseRefused}
use Rattle.cypher_parse.specs.Answer.{IsAnswer, IsTree}
use Rattle.cypher_parse.specs.Queries.{QueryAt}
use Rattle.cypher_parse.specs.Texts.{lexemes}

abbrev pub Answer : Type 0
Answer = Result Query ParseRefused

-- the tree of a text in whose expressions at most so many tokens are open at once
abbrev pub IsQuery : ℕ → List ℕ → Query → Type 0
IsQuery n text tree = QueryAt n (lexemes text) tree

-- the tree of a text, or why it has none
abbrev pub IsParse : List ℕ → Answer → Type 0
IsParse text answer = IsAnswer QueryAt (length text) (lexemes text) answer

-- no answer but the tree is right, unless memory was wanting
abbrev pub IsOnly : List ℕ → Query → Type 0
IsOnly text tree = (answer : Answer) → IsParse text answer → IsTree tree answer
