-- The texts of replies. Those of faults, refusals and rows stand with what they are of.
use Rattle.std.specs.Prelude.{ℕ, List, [], ◌++◌, codes, Option, Some, None, length}
use Rattle.std.specs.Fmt.{decimal}
use Rattle.collector.specs.declared.progress.Swept.{Swept}
use Rattle.graph_reader.specs.declared.shown.Shown.{Shown}
use Rattle.query_reply.specs.Rows.{row_lines}
use Rattle.world_model.specs.declared.answer.Marked.{Marked}
use Rattle.world_model.specs.declared.answer.Refused.{Refused}
use Rattle.world_model.specs.declared.answer.Refused.TheVariants as refused
use Rattle.world_model.specs.declared.answer.Stats.{Stats}

abbrev pub no_memory_text : List ℕ
no_memory_text = codes "ERR 16 no memory"

abbrev pub begun_text : ℕ → List ℕ
begun_text start = codes "OK begin at " ++ decimal start

abbrev pub committed_text : ℕ → List ℕ
committed_text ts = codes "OK commit at " ++ decimal ts

abbrev pub marked_text : Marked → List ℕ
marked_text m = codes "OK now " ++ decimal m.clock ++ codes " mark " ++ decimal m.mark

abbrev pub stats_text : Stats → List ℕ
stats_text s =
    codes "OK chain " ++ decimal s.chain ++ codes " history " ++ decimal s.history
    ++ codes " blocks " ++ decimal s.blocks

abbrev pub swept_text : Swept → List ℕ
swept_text s =
    codes "OK swept mark " ++ decimal s.mark ++ codes " moved " ++ decimal s.moved
    ++ codes " stale " ++ decimal s.stale

-- a line for each row, and then how many there are, and when: at the transaction's start, or at its commit
abbrev pub rows_text : List (List Shown) → ℕ → List ℕ
rows_text rows at = (row_lines rows ++ (codes "OK " ++ decimal (length rows) ++ codes " at ")) ++ decimal at

-- why a span is refused whose first instant is the greater one
abbrev pub range_text : ℕ → ℕ → List ℕ
range_text first last = codes "ERR 11 bad range " ++ decimal first ++ codes " " ++ decimal last

-- Why no transaction begins. The other refusals are none of a begin.
abbrev pub not_begun_text : Refused → List ℕ
not_begun_text refused.AlreadyOpen = codes "ERR 13 already open"
not_begun_text refused.ClockEnd = codes "ERR 15 clock end"
not_begun_text refused.TooMany = codes "ERR 18 too many transactions"
not_begun_text refused.NoTxn = no_memory_text
not_begun_text (refused.Missing x) = no_memory_text
not_begun_text (refused.Conflict x rival) = no_memory_text
not_begun_text (refused.HasEdges v) = no_memory_text
not_begun_text (refused.TimeAhead t start) = no_memory_text
not_begun_text (refused.Stale cut) = no_memory_text
not_begun_text refused.IdEnd = no_memory_text
not_begun_text refused.NoMemory = no_memory_text

-- behind a refusal that ends a transaction that BEGIN has opened
abbrev pub aborted_text : Option ℕ → List ℕ
aborted_text None = []
aborted_text (Some start) = codes " (aborted)"
