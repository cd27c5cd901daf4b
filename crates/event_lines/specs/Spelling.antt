-- The line that spells a request. Only a value may be written in other ways too.
use Rattle.std.specs.Prelude.{◌≡◌, ℕ, ◌^◌, ◌<◌, List, [], ◌∷◌, true, codes, Option, Some, None, FitsSigned}
use Rattle.std.specs.Int.{w64}
use Rattle.std.specs.List.{join_with_byte}
use Rattle.std.specs.Fmt.{decimal}
use Rattle.std.specs.Str.{IsUtf8}
use Rattle.serde_json.specs.Written.{compact_text}
use Rattle.graph_value.specs.Id.{vertex_text, edge_text, oid_text}
use Rattle.graph_value.specs.declared.id.VertexId.{VertexId}
use Rattle.graph_value.specs.declared.id.EdgeId.{EdgeId}
use Rattle.graph_value.specs.declared.id.Oid.{Oid}
use Rattle.graph_value.specs.declared.id.Oid.TheVariants as oid
use Rattle.graph_value.specs.declared.value.Value.{Value, out-Value}
use Rattle.graph_value.specs.declared.value.Value.TheOpen.{Value-F}
use Rattle.graph_reader.specs.Json.{value_data}
use Rattle.undo_delta.specs.declared.ask.Ask.{Ask}
use Rattle.undo_delta.specs.declared.ask.Ask.TheVariants.{CreateVertex, DeleteVertex, AddLabel, RemoveLabel, SetVertexProp, CreateEdge, DeleteEdge, SetEdgeProp}
use Rattle.world_model.specs.declared.event.Event.{Event}
use Rattle.world_model.specs.declared.event.Event.TheVariants.{Begin, Next, Read, Write, Commit, Abort, Mark, Lift, Install, Stats}
use Rattle.world_model.specs.declared.event.When.{When}
use Rattle.world_model.specs.declared.event.When.TheVariants.{Own, At}
use Rattle.world_model.specs.declared.event.Kind.{Kind}
use Rattle.world_model.specs.declared.event.Kind.TheVariants as kind
use Rattle.event_lines.specs.declared.request.Request.{Request}
use Rattle.event_lines.specs.declared.request.Wish.{Wish}
use Rattle.event_lines.specs.declared.request.Wish.TheVariants as wish
use Rattle.event_lines.specs.Words.{is_name}
use Rattle.event_lines.specs.Values.{json_value}
use Rattle.event_lines.specs.Request.{request_of}

abbrev pub when_words : When → List (List ℕ)
when_words Own = codes "own" ∷ []
when_words (At t) = codes "at" ∷ decimal t ∷ []

abbrev pub kind_word : Kind → List ℕ
kind_word kind.Vertex = codes "vertex"
kind_word kind.Edge = codes "edge"

-- a search: where it begins, and in which graph it is
abbrev pub search_words : Option ℕ → When → List (List ℕ)
search_words None when = codes "first" ∷ when_words when
search_words (Some n) when = codes "after" ∷ decimal n ∷ when_words when

abbrev pub set_words : Oid → List ℕ → List ℕ → List (List ℕ)
set_words x name text = codes "set" ∷ oid_text x ∷ name ∷ text ∷ []

-- the value as JSON, with no white space between its parts
abbrev pub value_text : Value → List ℕ
value_text value = compact_text (value_data value)

abbrev pub ask_words : Ask → List (List ℕ)
ask_words CreateVertex = codes "vertex" ∷ []
ask_words (DeleteVertex id) = codes "delete" ∷ vertex_text id ∷ []
ask_words (AddLabel id name) = codes "label" ∷ vertex_text id ∷ name ∷ []
ask_words (RemoveLabel id name) = codes "unlabel" ∷ vertex_text id ∷ name ∷ []
ask_words (SetVertexProp id name value) = set_words (oid.Vertex id) name (value_text value)
ask_words (CreateEdge from kind to) = codes "edge" ∷ vertex_text from ∷ kind ∷ vertex_text to ∷ []
ask_words (DeleteEdge id) = codes "delete" ∷ edge_text id ∷ []
ask_words (SetEdgeProp id name value) = set_words (oid.Edge id) name (value_text value)

-- no line says the blocks of a piece
abbrev pub event_words : Event → List (List ℕ)
event_words Begin = codes "begin" ∷ []
event_words (Next kind after when) = codes "next" ∷ kind_word kind ∷ search_words after when
event_words (Read x when) = codes "read" ∷ oid_text x ∷ when_words when
event_words (Write ask) = ask_words ask
event_words Commit = codes "commit" ∷ []
event_words Abort = codes "abort" ∷ []
event_words Mark = codes "mark" ∷ []
event_words (Lift x) = codes "lift" ∷ oid_text x ∷ []
event_words (Install piece) = []
event_words Stats = codes "stats" ∷ []

abbrev pub install_words : Oid → List (List ℕ)
install_words x = codes "install" ∷ oid_text x ∷ []

abbrev pub wish_words : Wish → List (List ℕ)
wish_words (wish.Event event) = event_words event
wish_words (wish.Install x) = install_words x

-- the caller and the words, with a space between each two
abbrev pub line_of : ℕ → List (List ℕ) → List ℕ
line_of caller words = join_with_byte 32 (decimal caller ∷ words)

abbrev pub spelling : Request → List ℕ
spelling request = line_of request.caller (wish_words request.wish)

-- WHAT HAS A SPELLING

abbrev pub IsSpelledVertex : VertexId → Type 0
IsSpelledVertex id = id.0 < 2 ^ 63

abbrev pub IsSpelledEdge : EdgeId → Type 0
IsSpelledEdge id = id.0 < 2 ^ 63

abbrev pub IsSpelledOid : Oid → Type 0
IsSpelledOid (oid.Vertex id) = IsSpelledVertex id
IsSpelledOid (oid.Edge id) = IsSpelledEdge id

abbrev pub IsSpelledName : List ℕ → Type 0
IsSpelledName name = is_name name ≡ true

abbrev pub IsSpelledWhen : When → Type 0
IsSpelledWhen Own = Unit {0}
IsSpelledWhen (At t) = t < 2 ^ 63

abbrev pub IsSpelledSearch : Option ℕ → When → Type 0
IsSpelledSearch None when = IsSpelledWhen when
IsSpelledSearch (Some n) when = (n < 2 ^ 63) × IsSpelledWhen when

-- a truth value, an integer of 64 bits, or a text
abbrev pub IsSpelledSimple : {A : Type 0} → Value-F A → Type 0
IsSpelledSimple (Value-F.Bool b) = Unit {0}
IsSpelledSimple (Value-F.Int n) = FitsSigned w64 n
IsSpelledSimple (Value-F.Text t) = IsUtf8 t
IsSpelledSimple v = ⊥

abbrev pub AreSpelled : List Value → Type 0
AreSpelled [] = Unit {0}
AreSpelled (v ∷ vs) = IsSpelledSimple (out-Value v) × AreSpelled vs

-- one of these, a list of them, or null
abbrev pub IsSpelledLevel : Value-F Value → Type 0
IsSpelledLevel Value-F.Null = Unit {0}
IsSpelledLevel (Value-F.List vs) = AreSpelled vs
IsSpelledLevel v = IsSpelledSimple v

abbrev pub IsSpelledValue : Value → Type 0
IsSpelledValue value = IsSpelledLevel (out-Value value)

abbrev pub IsSpelledAsk : Ask → Type 0
IsSpelledAsk CreateVertex = Unit {0}
IsSpelledAsk (DeleteVertex id) = IsSpelledVertex id
IsSpelledAsk (AddLabel id name) = IsSpelledVertex id × IsSpelledName name
IsSpelledAsk (RemoveLabel id name) = IsSpelledVertex id × IsSpelledName name
IsSpelledAsk (SetVertexProp id name value) = IsSpelledVertex id × IsSpelledName name × IsSpelledValue value
IsSpelledAsk (CreateEdge from kind to) = IsSpelledVertex from × IsSpelledName kind × IsSpelledVertex to
IsSpelledAsk (DeleteEdge id) = IsSpelledEdge id
IsSpelledAsk (SetEdgeProp id name value) = IsSpelledEdge id × IsSpelledName name × IsSpelledValue value

abbrev pub IsSpelledEvent : Event → Type 0
IsSpelledEvent Begin = Unit {0}
IsSpelledEvent (Next kind after when) = IsSpelledSearch after when
IsSpelledEvent (Read x when) = IsSpelledOid x × IsSpelledWhen when
IsSpelledEvent (Write ask) = IsSpelledAsk ask
IsSpelledEvent Commit = Unit {0}
IsSpelledEvent Abort = Unit {0}
IsSpelledEvent Mark = Unit {0}
IsSpelledEvent (Lift x) = IsSpelledOid x
IsSpelledEvent (Install piece) = ⊥
IsSpelledEvent Stats = Unit {0}

abbrev pub IsSpelledWish : Wish → Type 0
IsSpelledWish (wish.Event event) = IsSpelledEvent event
IsSpelledWish (wish.Install x) = IsSpelledOid x

-- Its numbers are in range, its names and its value can be written.
abbrev pub HasSpelling : Request → Type 0
HasSpelling request = (request.caller < 2 ^ 32) × IsSpelledWish request.wish

-- WHAT A LINE IS THAT WAS READ

-- The object and the name are spelled, and behind them stands a text that is the value.
abbrev pub IsSetLine : List ℕ → ℕ → Oid → List ℕ → Value → Type 0
IsSetLine line caller x name value =
    IsSpelledOid x × IsSpelledName name × (text : List ℕ) × (json_value text ≡ Some value) × (line ≡ line_of caller (set_words x name text))

abbrev pub IsAskLine : List ℕ → ℕ → Ask → Type 0
IsAskLine line caller (SetVertexProp id name value) = IsSetLine line caller (oid.Vertex id) name value
IsAskLine line caller (SetEdgeProp id name value) = IsSetLine line caller (oid.Edge id) name value
IsAskLine line caller ask = IsSpelledAsk ask × (line ≡ line_of caller (ask_words ask))

abbrev pub IsEventLine : List ℕ → ℕ → Event → Type 0
IsEventLine line caller (Write ask) = IsAskLine line caller ask
IsEventLine line caller event = IsSpelledEvent event × (line ≡ line_of caller (event_words event))

abbrev pub IsWishLine : List ℕ → ℕ → Wish → Type 0
IsWishLine line caller (wish.Event event) = IsEventLine line caller event
IsWishLine line caller (wish.Install x) = IsSpelledOid x × (line ≡ line_of caller (install_words x))

-- the line is the request's spelling, but that a value may be written in another way
abbrev pub IsLineOf : List ℕ → Request → Type 0
IsLineOf line request = (request.caller < 2 ^ 32) × IsWishLine line request.caller request.wish

-- THE LAWS

-- The line that spells a request is read as that request.
abbrev pub SpellingIsRead : Type 0
SpellingIsRead = (request : Request) → HasSpelling request → request_of (spelling request) ≡ Some request

-- What is read as a request spells it, byte by byte: but for the text of a value, a request has no other line.
abbrev pub ReadIsSpelling : Type 0
ReadIsSpelling = (line : List ℕ) (request : Request) → request_of line ≡ Some request → IsLineOf line request
