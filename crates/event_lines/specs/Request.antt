-- One line of the input as a request: a caller, and what it asks for, in words parted by single spaces. Behind `set` the rest
-- of the line is a value, whatever spaces it has.
use Rattle.std.specs.Prelude.{ℕ, ◌^◌, ◌==◌, Bool, true, ◌||◌, if◌then◌else◌, List, [], ◌∷◌, codes, Option, Some, None, option_map}
use Rattle.std.specs.List.{list_all}
use Rattle.std.specs.Str.{bytes_eq}
use Rattle.graph_value.specs.declared.id.Oid.{Oid}
use Rattle.graph_value.specs.declared.id.Oid.TheVariants as oid
use Rattle.graph_value.specs.declared.value.Value.{Value}
use Rattle.undo_delta.specs.declared.ask.Ask.{Ask}
use Rattle.undo_delta.specs.declared.ask.Ask.TheVariants.{CreateVertex, DeleteVertex, AddLabel, RemoveLabel, SetVertexProp, CreateEdge, DeleteEdge, SetEdgeProp}
use Rattle.world_model.specs.declared.event.Event.{Event}
use Rattle.world_model.specs.declared.event.Event.TheVariants.{Begin, Next, Read, Write, Commit, Abort, Mark, Lift, Stats}
use Rattle.world_model.specs.declared.event.When.{When}
use Rattle.world_model.specs.declared.event.When.TheVariants.{Own, At}
use Rattle.world_model.specs.declared.event.Kind.{Kind}
use Rattle.world_model.specs.declared.event.Kind.TheVariants as kind
use Rattle.event_lines.specs.declared.request.Request.{Request}
use Rattle.event_lines.specs.declared.request.Wish.{Wish}
use Rattle.event_lines.specs.declared.request.Wish.TheVariants as wish
use Rattle.event_lines.specs.Words.{◌>>=◌, words_of, cut, number_below, name_of, oid_of, vertex_of}
use Rattle.event_lines.specs.Values.{json_value}

-- ONE WORD

unfoldable pub plain_event : List ℕ → Option Event
plain_event verb =
    if bytes_eq verb (codes "begin") then Some Begin
    else if bytes_eq verb (codes "vertex") then Some (Write CreateVertex)
    else if bytes_eq verb (codes "commit") then Some Commit
    else if bytes_eq verb (codes "abort") then Some Abort
    else if bytes_eq verb (codes "mark") then Some Mark
    else if bytes_eq verb (codes "stats") then Some Stats
    else None

-- READS

-- `own`, or `at` and an instant
unfoldable pub when_of : List (List ℕ) → Option When
when_of (word ∷ []) = if bytes_eq word (codes "own") then Some Own else None
when_of (word ∷ instant ∷ []) = if bytes_eq word (codes "at") then option_map At (number_below (2 ^ 63) instant) else None
when_of words = None

-- the words behind `read`
unfoldable pub read_event : List (List ℕ) → Option Event
read_event [] = None
read_event (object ∷ words) = do
  x ← oid_of object
  option_map (Read x) (when_of words)

unfoldable pub kind_of : List ℕ → Option Kind
kind_of word =
    if bytes_eq word (codes "vertex") then Some kind.Vertex
    else if bytes_eq word (codes "edge") then Some kind.Edge
    else None

-- the words behind `after`
unfoldable pub next_after : Kind → List (List ℕ) → Option Event
next_after kind [] = None
next_after kind (number ∷ words) = do
  n ← number_below (2 ^ 63) number
  option_map (Next kind (Some n)) (when_of words)

-- the words behind the kind
unfoldable pub next_of : Kind → List (List ℕ) → Option Event
next_of kind [] = None
next_of kind (word ∷ words) =
    if bytes_eq word (codes "first") then option_map (Next kind None) (when_of words)
    else if bytes_eq word (codes "after") then next_after kind words
    else None

-- the words behind `next`
unfoldable pub next_event : List (List ℕ) → Option Event
next_event [] = None
next_event (word ∷ words) = do
  kind ← kind_of word
  next_of kind words

-- the words behind `lift`
unfoldable pub lift_event : List (List ℕ) → Option Event
lift_event (object ∷ []) = option_map Lift (oid_of object)
lift_event words = None

-- WRITES

abbrev pub delete_ask : Oid → Ask
delete_ask (oid.Vertex id) = DeleteVertex id
delete_ask (oid.Edge id) = DeleteEdge id

-- the words behind `delete`
unfoldable pub delete_event : List (List ℕ) → Option Event
delete_event (object ∷ []) = option_map (λ x. Write (delete_ask x)) (oid_of object)
delete_event words = None

-- the words behind `label`
unfoldable pub label_event : List (List ℕ) → Option Event
label_event (vertex ∷ label ∷ []) = do
  id ← vertex_of vertex
  name ← name_of label
  Some (Write (AddLabel id name))
label_event words = None

-- the words behind `unlabel`
unfoldable pub unlabel_event : List (List ℕ) → Option Event
unlabel_event (vertex ∷ label ∷ []) = do
  id ← vertex_of vertex
  name ← name_of label
  Some (Write (RemoveLabel id name))
unlabel_event words = None

-- the words behind `edge`
unfoldable pub edge_event : List (List ℕ) → Option Event
edge_event (source ∷ kind ∷ target ∷ []) = do
  from ← vertex_of source
  to ← vertex_of target
  name ← name_of kind
  Some (Write (CreateEdge from name to))
edge_event words = None

abbrev pub set_ask : Oid → List ℕ → Value → Ask
set_ask (oid.Vertex id) name v = SetVertexProp id name v
set_ask (oid.Edge id) name v = SetEdgeProp id name v

-- the name and the value behind an object
unfoldable pub property_event : Oid → List ℕ → List ℕ → Option Event
property_event x property text = do
  name ← name_of property
  v ← json_value text
  Some (Write (set_ask x name v))

-- the rest of the line behind `set`: an object, a name and a value
unfoldable pub set_event : List ℕ → Option Event
set_event text = do
  first ← cut text
  x ← oid_of first.0
  second ← cut first.1
  property_event x second.0 second.1

-- EVENTS

-- the event of two words and more
unfoldable pub worded_event : List ℕ → List (List ℕ) → Option Event
worded_event verb words =
    if bytes_eq verb (codes "read") then read_event words
    else if bytes_eq verb (codes "next") then next_event words
    else if bytes_eq verb (codes "delete") then delete_event words
    else if bytes_eq verb (codes "label") then label_event words
    else if bytes_eq verb (codes "unlabel") then unlabel_event words
    else if bytes_eq verb (codes "edge") then edge_event words
    else if bytes_eq verb (codes "lift") then lift_event words
    else None

unfoldable pub words_event : List (List ℕ) → Option Event
words_event [] = None
words_event (verb ∷ []) = plain_event verb
words_event (verb ∷ word ∷ words) = worded_event verb (word ∷ words)

-- what a text asks for whose first word and the rest behind it are these
abbrev pub parted_event : List ℕ → Option (List ℕ × List ℕ) → Option Event
parted_event text None = words_event (words_of text)
parted_event text (Some parts) = if bytes_eq parts.0 (codes "set") then set_event parts.1 else words_event (words_of text)

abbrev pub event_of : List ℕ → Option Event
event_of text = parted_event text (cut text)

abbrev pub event_wish : List ℕ → Option Wish
event_wish text = option_map wish.Event (event_of text)

-- the installation that a text behind `install` asks for
abbrev pub install_wish : List ℕ → Option Wish
install_wish text = option_map wish.Install (oid_of text)

abbrev pub parted_wish : List ℕ → Option (List ℕ × List ℕ) → Option Wish
parted_wish text None = event_wish text
parted_wish text (Some parts) = if bytes_eq parts.0 (codes "install") then install_wish parts.1 else event_wish text

-- what the text behind the caller asks for
abbrev pub wish_of : List ℕ → Option Wish
wish_of text = parted_wish text (cut text)

unfoldable pub request_of : List ℕ → Option Request
request_of line = do
  parts ← cut line
  caller ← number_below (2 ^ 32) parts.0
  wish ← wish_of parts.1
  Some (record { caller = caller; wish = wish })

-- SKIPPED LINES

abbrev pub is_blank : ℕ → Bool
is_blank b = b == 32 || b == 9

-- a comment, from `#` in front, or nothing but spaces and tabs
abbrev pub is_skipped : List ℕ → Bool
is_skipped [] = true
is_skipped (b ∷ bs) = b == 35 || list_all is_blank (b ∷ bs)
