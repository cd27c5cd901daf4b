-- Why a statement isn't a query that can be run, and how that is told.
use Rattle.std.specs.Prelude.{◌≡◌, ℕ, List, ◌++◌, codes, None, Result, Ok, Err}
use Rattle.std.specs.Fmt.{decimal}
use Rattle.json.specs.Print.{quoted}
use Rattle.cypher_syntax.specs.declared.tree.query.Query.{Query}
use Rattle.cypher_parse.specs.declared.error.ParseRefused.{ParseRefused}
use Rattle.cypher_parse.specs.declared.error.ParseRefused.TheVariants as parse
use Rattle.cypher_parse.specs.Whole.{IsParse}
use Rattle.cypher_check.specs.declared.refused.CheckRefused.{CheckRefused}
use Rattle.cypher_check.specs.declared.refused.CheckRefused.TheVariants as check
use Rattle.cypher_check.specs.declared.checked.Checked.{Checked}
use Rattle.cypher_check.specs.Answer.{IsRefusal, query_of}
use Rattle.cypher_check.specs.Verdict.{verdict}
use Rattle.query_reply.specs.declared.fault.Fault.{Fault}
use Rattle.query_reply.specs.declared.fault.Fault.TheVariants as fault

-- each fault under its number; places are in bytes
abbrev pub parse_text : ParseRefused → List ℕ
parse_text (parse.Syntax place) = codes "ERR 2 syntax at " ++ decimal place
parse_text (parse.TooDeep place) = codes "ERR 4 shape too deep at " ++ decimal place
parse_text parse.NoMemory = codes "ERR 16 no memory"

abbrev pub check_text : CheckRefused → List ℕ
check_text check.TtWrites = codes "ERR 4 shape write under TT"
check_text check.BetweenShape = codes "ERR 4 shape not a TT BETWEEN query"
check_text (check.Unbound name) = codes "ERR 3 unbound " ++ quoted name
check_text (check.Redeclared name) = codes "ERR 4 shape redeclared " ++ quoted name
check_text check.AggregatePlace = codes "ERR 4 shape aggregate place"
check_text check.NoMemory = codes "ERR 16 no memory"

abbrev pub fault_text : Fault → List ℕ
fault_text (fault.Parse why) = parse_text why
fault_text (fault.Check why) = check_text why

-- the statement's tree, against which no rule speaks, or its first fault, unless memory was wanting
abbrev pub IsExamined : List ℕ → Result Checked Fault → Type 0
IsExamined statement (Ok checked) = IsParse statement (Ok (query_of checked)) × (verdict (query_of checked) ≡ None)
IsExamined statement (Err (fault.Parse why)) = IsParse statement (Err why)
IsExamined statement (Err (fault.Check why)) = (q : Query) × IsParse statement (Ok q) × IsRefusal q why
