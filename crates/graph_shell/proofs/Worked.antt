-- The definitions, computed on lines whose answers are known.
use Rattle.std.proofs.Common.{◌≡◌, ℕ, pos, List, [], ◌∷◌, ◌++◌, Bool, true, false, not, cond, codes, refl, ap, ◌∙◌}
use Rattle.std.specs.Fmt.{digits}
use Rattle.std.specs.Str.{is_utf8, chars}
use Rattle.serde_json.proofs.OnLiterals.{serde_json_on_literals}
use Rattle.graph_value.specs.Value.{same_value}
use Rattle.graph_value.specs.declared.id.VertexId.{VertexId}
use Rattle.graph_value.specs.declared.value.Value as values
use Rattle.graph_value.specs.declared.value.Value.TheVariants.{Null, Int}
use Rattle.graph_value.proofs.Levels.{null_apart}
use Rattle.undo_delta.specs.declared.op.Op.{Op}
use Rattle.undo_delta.specs.declared.op.Op.TheVariants as op
use Rattle.world_model.specs.declared.event.Asked.TheVariants as asked
use Rattle.undo_delta.specs.declared.ask.Ask.{Ask}
use Rattle.undo_delta.specs.declared.ask.Ask.TheVariants.{SetVertexProp}
use Rattle.world_model.specs.History.{is_no_memory}
use Rattle.world_model.specs.Op.{apply_all, are_touching}
use Rattle.world_model.specs.Step.{with_op, effect_step}
use Rattle.world_model.specs.World.{World, find_txn, other_writer, newest_touch, ops_of, before}
use Rattle.wire_line.specs.Lines.{lines_of}
use Rattle.event_lines.specs.Reply.{reply_text}
use Rattle.event_lines.specs.Words.{number_below, name_of, oid_of}
use Rattle.event_lines.specs.Values.{json_value}
use Rattle.event_lines.specs.Request.{request_of, words_event, plain_event, worded_event, read_event, when_of, set_event, property_event}
use Rattle.graph_shell.specs.Pieces.{no_pieces}
use Rattle.graph_shell.specs.Events.{Kept, Answered, nothing_kept, answer_line, events_text, lines_text, pieces_after}

-- each line with its line end
lines : List (List ℕ) → List ℕ
lines [] = []
lines (line ∷ rest) = line ++ 10 ∷ lines rest

-- a note and a blank line are not answered
nothing_asked : events_text 1 [] (codes "# note" ++ 10 ∷ 32 ∷ 10 ∷ []) ≡ []
unfolding lines_text
nothing_asked = refl

-- a carriage return is no part of a line, and the last line may lack its end
begun_once : events_text 1 [] (codes "1 begin" ++ 13 ∷ 10 ∷ codes "1 begin") ≡ codes "1 begin 1" ++ 10 ∷ codes "1 refused 2 already open" ++ 10 ∷ []
unfolding lines_text request_of number_below words_event plain_event digits
begun_once = refl

-- ---- what a transaction wrote is seen by itself, and by no other that began before its commit

abbrev first_vertex : VertexId
first_vertex = record { 0 = 0 }

abbrev set_k : Ask
set_k = SetVertexProp first_vertex (codes "k") (Int (pos 1))

abbrev k_is_set : Op
k_is_set = op.SetVertexProp first_vertex (codes "k") (Int (pos 1))

-- the world after the transaction made a vertex, and set its property
abbrev made : World
made = record { clock = 2; vertices = 1; edges = 0; commits = []; running = record { caller = 1; start = 1; ops = op.CreateVertex first_vertex ∷ [] } ∷ []; interval = 1; installs = [] }

abbrev set : World
set = record made { running = record { caller = 1; start = 1; ops = op.CreateVertex first_vertex ∷ op.SetVertexProp first_vertex (codes "k") (Int (pos 1)) ∷ [] } ∷ [] }

-- and nobody keeps a piece
abbrev alone : World → Kept
alone w = record { world = w; pieces = no_pieces }

-- the lines behind that of the set property
abbrev later : List (List ℕ)
later = codes "1 read v0 own" ∷ codes "2 begin" ∷ codes "2 set v0 k 2" ∷ codes "1 commit" ∷ []

a_vertex_is_made : (rest : List (List ℕ)) → lines_text [] (nothing_kept 1) (codes "1 begin" ∷ codes "1 vertex" ∷ rest) ≡ codes "1 begin 1" ++ 10 ∷ codes "1 v0" ++ 10 ∷ lines_text [] (alone made) rest
unfolding lines_text request_of number_below words_event plain_event find_txn other_writer newest_touch ops_of before with_op apply_all are_touching digits
a_vertex_is_made rest = refl

-- the answer, where the write changes the graph or doesn't
abbrev set_answered : Bool → Answered
set_answered changed = record {
  text = reply_text 1 asked.Nothing (effect_step made 1 set_k k_is_set changed).reply;
  after = record {
    world = cond (is_no_memory (effect_step made 1 set_k k_is_set changed).reply) made (effect_step made 1 set_k k_is_set changed).world;
    pieces = pieces_after 1 (effect_step made 1 set_k k_is_set changed).reply no_pieces;
  };
}

it_changes : not (same_value Null (Int (pos 1))) ≡ true
it_changes = ap not (null_apart (pos 1))

its_property_is_set : answer_line false (alone made) (codes "1 set v0 k 1") ≡ record { text = codes "1 done" ++ 10 ∷ []; after = alone set }
unfolding request_of number_below set_event property_event json_value is_utf8 chars name_of oid_of serde_json_on_literals
    find_txn other_writer newest_touch ops_of before with_op apply_all are_touching digits
    values.out-Value values.roll-Value denote.Hole.Carrier.out denote.Hole.Carrier.roll
its_property_is_set =
    let as_decided : answer_line false (alone made) (codes "1 set v0 k 1") ≡ set_answered (not (same_value Null (Int (pos 1)))) = refl in
    as_decided ∙ ap set_answered it_changes

it_is_read : lines_text [] (alone set) later
    ≡ lines (codes "1 {\"id\":0,\"ins\":[],\"labels\":[],\"outs\":[],\"properties\":{\"k\":1}}" ∷ codes "2 begin 2" ∷ codes "2 refused 3 missing v0" ∷ codes "1 commit 3" ∷ [])
unfolding lines lines_text request_of number_below words_event plain_event worded_event read_event when_of set_event property_event json_value is_utf8 chars name_of oid_of
    find_txn other_writer newest_touch ops_of before with_op apply_all are_touching digits serde_json_on_literals
    values.out-Value values.roll-Value denote.Hole.Carrier.out denote.Hole.Carrier.roll
it_is_read = refl

own_writes_are_seen : events_text 1 [] (lines (codes "1 begin" ∷ codes "1 vertex" ∷ codes "1 set v0 k 1" ∷ later))
    ≡ lines (codes "1 begin 1" ∷ codes "1 v0" ∷ codes "1 done" ∷ codes "1 {\"id\":0,\"ins\":[],\"labels\":[],\"outs\":[],\"properties\":{\"k\":1}}" ∷ codes "2 begin 2" ∷ codes "2 refused 3 missing v0" ∷ codes "1 commit 3" ∷ [])
unfolding lines lines_text
own_writes_are_seen =
    let are_lines : lines_of (lines (codes "1 begin" ∷ codes "1 vertex" ∷ codes "1 set v0 k 1" ∷ later)) ≡ codes "1 begin" ∷ codes "1 vertex" ∷ codes "1 set v0 k 1" ∷ later = refl in
    ap (lines_text [] (nothing_kept 1)) are_lines
    ∙ a_vertex_is_made (codes "1 set v0 k 1" ∷ later)
    ∙ ap (λ (a : Answered). codes "1 begin 1" ++ 10 ∷ codes "1 v0" ++ 10 ∷ (a.text ++ lines_text [] a.after later)) its_property_is_set
    ∙ ap (λ text. codes "1 begin 1" ++ 10 ∷ codes "1 v0" ++ 10 ∷ codes "1 done" ++ 10 ∷ text) it_is_read

-- without a transaction nothing is committed, and what is no request is answered as none
nothing_to_commit : events_text 1 [] (lines (codes "3 commit" ∷ codes "3 jump" ∷ []))
    ≡ lines (codes "3 refused 1 no transaction" ∷ codes "- refused 12 bad line" ∷ [])
unfolding lines lines_text request_of number_below words_event plain_event worded_event read_event when_of set_event property_event json_value is_utf8 chars name_of oid_of
    find_txn other_writer newest_touch ops_of before with_op apply_all are_touching digits serde_json_on_literals
nothing_to_commit = refl
