-- The line that answers a request.
use Rattle.std.specs.Prelude.{ℕ, List, [], ◌∷◌, ◌++◌, codes, length, Option, Some, None}
use Rattle.std.specs.Fmt.{decimal}
use Rattle.graph_value.specs.Id.{oid_text}
use Rattle.graph_value.specs.declared.id.Oid.{Oid}
use Rattle.graph_value.specs.declared.id.Oid.TheVariants as oid
use Rattle.graph_record.specs.declared.object.Object.{Object}
use Rattle.graph_record.specs.declared.object.Object.TheVariants.{Dead}
use Rattle.graph_reader.specs.Json.{object_text}
use Rattle.txn_manager.specs.declared.rivals.Rival.{Rival}
use Rattle.txn_manager.specs.declared.rivals.Rival.TheVariants as rival
use Rattle.world_model.specs.declared.answer.Wrote.{Wrote}
use Rattle.world_model.specs.declared.answer.Wrote.TheVariants as wrote
use Rattle.world_model.specs.declared.answer.Refused.{Refused}
use Rattle.world_model.specs.declared.answer.Refused.TheVariants as refused
use Rattle.world_model.specs.declared.answer.Marked.{Marked}
use Rattle.world_model.specs.declared.answer.Stats.{Stats}
use Rattle.world_model.specs.Pieces.{PieceParts}
use Rattle.world_model.specs.Reply.{Reply}
use Rattle.world_model.specs.Reply as reply
use Rattle.world_model.specs.declared.event.Asked.{Asked}
use Rattle.world_model.specs.declared.event.Asked.TheVariants.{Nothing, Version, Number}
use Rattle.world_model.specs.declared.event.Kind.{Kind}
use Rattle.world_model.specs.declared.event.Kind.TheVariants as kind

-- the start of a transaction that is open, or the time of a commit
abbrev pub rival_text : Rival → List ℕ
rival_text (rival.Running start) = codes "open " ++ decimal start
rival_text (rival.Committed ts) = codes "committed " ++ decimal ts

-- each refusal under its number
abbrev pub refused_text : Refused → List ℕ
refused_text refused.NoTxn = codes "refused 1 no transaction"
refused_text refused.AlreadyOpen = codes "refused 2 already open"
refused_text (refused.Missing x) = codes "refused 3 missing " ++ oid_text x
refused_text (refused.Conflict x rival) = codes "refused 4 conflict " ++ oid_text x ++ codes " " ++ rival_text rival
refused_text (refused.HasEdges id) = codes "refused 5 has edges " ++ oid_text (oid.Vertex id)
refused_text (refused.TimeAhead t start) = codes "refused 6 time ahead " ++ decimal t ++ codes " start " ++ decimal start
refused_text refused.ClockEnd = codes "refused 7 clock end"
refused_text (refused.Stale cut) = codes "refused 8 stale cut " ++ decimal cut
refused_text refused.TooMany = codes "refused 9 too many"
refused_text refused.IdEnd = codes "refused 10 id end"
refused_text refused.NoMemory = codes "refused 11 no memory"

abbrev pub wrote_text : Wrote → List ℕ
wrote_text wrote.Done = codes "done"
wrote_text wrote.Unchanged = codes "unchanged"
wrote_text (wrote.Vertex id) = oid_text (oid.Vertex id)
wrote_text (wrote.Edge id) = oid_text (oid.Edge id)

-- An object is printed under the id that was asked for. Nothing is printed of one that nobody asked for.
abbrev pub version_text : Asked → Object → List ℕ
version_text asked Dead = codes "dead"
version_text (Version x) object = object_text x object
version_text asked object = []

-- the object of this kind under a number
abbrev pub numbered : Kind → ℕ → Oid
numbered kind.Vertex n = oid.Vertex (record { 0 = n })
numbered kind.Edge n = oid.Edge (record { 0 = n })

-- A number is printed as the id of an object of the kind that was searched. Nothing is printed of one that nobody asked for.
abbrev pub found_text : Asked → Option ℕ → List ℕ
found_text asked None = codes "none"
found_text (Number kind) (Some n) = oid_text (numbered kind n)
found_text asked (Some n) = []

-- the two ids that come next are not told
abbrev pub marked_text : Marked → List ℕ
marked_text marked = codes "mark " ++ decimal marked.mark ++ codes " clock " ++ decimal marked.clock

-- an object's deltas from its cut up to the mark are at hand
abbrev pub lifted_text : Oid → ℕ → ℕ → ℕ → List ℕ
lifted_text x cut mark deltas = codes "lifted " ++ oid_text x ++ codes " cut " ++ decimal cut ++ codes " mark " ++ decimal mark ++ codes " deltas " ++ decimal deltas

-- the object's cut is now this one
abbrev pub installed_text : Oid → ℕ → List ℕ
installed_text x cut = codes "installed " ++ oid_text x ++ codes " cut " ++ decimal cut

abbrev pub stats_text : Stats → List ℕ
stats_text stats = codes "chain " ++ decimal stats.chain ++ codes " history " ++ decimal stats.history ++ codes " blocks " ++ decimal stats.blocks

-- Of an installation only its piece can say more.
abbrev pub answer_text : Asked → Reply → List ℕ
answer_text asked (reply.Begun start) = codes "begin " ++ decimal start
answer_text asked (reply.Id id) = found_text asked id
answer_text asked (reply.Version object) = version_text asked object
answer_text asked (reply.Wrote what) = wrote_text what
answer_text asked (reply.Committed ts) = codes "commit " ++ decimal ts
answer_text asked reply.Aborted = codes "abort"
answer_text asked (reply.Marked marked) = marked_text marked
answer_text asked (reply.Lifted lifted) = lifted_text lifted.x lifted.cut lifted.mark (length lifted.deltas)
answer_text asked reply.Installed = codes "installed"
answer_text asked (reply.Stats stats) = stats_text stats
answer_text asked (reply.Refused why) = refused_text why

-- the installation of a piece of an object
abbrev pub piece_text : Oid → PieceParts → Reply → List ℕ
piece_text x piece reply.Installed = installed_text x piece.mark
piece_text x piece r = answer_text Nothing r

abbrev pub line_end : List ℕ
line_end = 10 ∷ []

-- the caller, and what it is answered
abbrev pub caller_text : ℕ → List ℕ → List ℕ
caller_text caller text = decimal caller ++ codes " " ++ text ++ line_end

abbrev pub reply_text : ℕ → Asked → Reply → List ℕ
reply_text caller asked r = caller_text caller (answer_text asked r)

-- the answer to an installation where the caller keeps no piece of the object
abbrev pub no_piece : List ℕ
no_piece = codes "refused 13 no piece"

-- the reply to a line that is no request
abbrev pub bad_line : List ℕ
bad_line = codes "- refused 12 bad line" ++ line_end
