-- A request's spelling is read as that request.
use Rattle.std.proofs.Common.{◌≡◌, ℕ, ◌<◌, ◌^◌, true, List, [], ◌∷◌, ◌++◌, length, Option, Some, None, option_map, codes, refl, ap, ◌∙◌, arith}
use Rattle.std.specs.List.{list_all, join_with_byte}
use Rattle.std.specs.Fmt.{decimal}
use Rattle.graph_value.specs.Id.{oid_text}
use Rattle.graph_value.specs.declared.id.Oid.{Oid}
use Rattle.graph_value.specs.declared.id.Oid.TheVariants as oid
use Rattle.graph_value.specs.declared.value.Value.{Value}
use Rattle.undo_delta.specs.declared.ask.Ask.{Ask}
use Rattle.undo_delta.specs.declared.ask.Ask.TheVariants.{CreateVertex, DeleteVertex, AddLabel, RemoveLabel, SetVertexProp, CreateEdge, DeleteEdge, SetEdgeProp}
use Rattle.world_model.specs.declared.event.Event.{Event}
use Rattle.world_model.specs.declared.event.Event.TheVariants.{Begin, Next, Read, Write, Commit, Abort, Mark, Lift, Install, Stats}
use Rattle.world_model.specs.declared.event.When.{When}
use Rattle.world_model.specs.declared.event.Kind.{Kind}
use Rattle.event_lines.specs.declared.request.Wish.{Wish}
use Rattle.event_lines.specs.declared.request.Wish.TheVariants as wish
use Rattle.event_lines.specs.Request.{plain_event, read_event, next_after, next_of, next_event, delete_event, label_event, unlabel_event, edge_event, set_ask, property_event, set_event, lift_event, worded_event, words_event, event_of, event_wish, wish_of, request_of}
use Rattle.event_lines.specs.Spelling.{when_words, kind_word, search_words, set_words, value_text, event_words, wish_words, IsSpelledOid, IsSpelledName, IsSpelledWhen, IsSpelledSearch, IsSpelledValue, IsSpelledAsk, IsSpelledEvent, IsSpelledWish, SpellingIsRead}
use Rattle.event_lines.proofs.WordsAgain.{no_space, words_again, cut_word, decimal_no_space, number_again, name_no_space, name_again, oid_again, oid_no_space, vertex_again, vertex_no_space, when_again, when_no_space, kind_again, kind_no_space}
use Rattle.event_lines.proofs.JsonAgain.{value_again}

-- the text behind the caller
abbrev text_of : Event → List ℕ
text_of event = join_with_byte 32 (event_words event)

-- READS

read_again : (x : Oid) (when : When) → IsSpelledOid x × IsSpelledWhen when → event_of (text_of (Read x when)) ≡ Some (Read x when)
unfolding words_event worded_event read_event
read_again x when h =
    let apart : list_all no_space (oid_text x ∷ when_words when) ≡ true = rw (oid_no_space x h.0, when_no_space when h.1) refl in
    ap words_event (words_again (codes "read") (oid_text x ∷ when_words when) refl apart) ∙ rw (oid_again x h.0, when_again when h.1) refl

search_again : (kind : Kind) (after : Option ℕ) (when : When) → IsSpelledSearch after when → next_of kind (search_words after when) ≡ Some (Next kind after when)
unfolding next_of next_after
search_again kind None when h = rw (when_again when h) refl
search_again kind (Some n) when h = rw (number_again (2 ^ 63) n h.0 (omega arith), when_again when h.1) refl

search_no_space : (after : Option ℕ) (when : When) → IsSpelledSearch after when → list_all no_space (search_words after when) ≡ true
search_no_space None when h = rw (when_no_space when h) refl
search_no_space (Some n) when h = rw (decimal_no_space n (omega (arith, h.0)), when_no_space when h.1) refl

next_again : (kind : Kind) (after : Option ℕ) (when : When) → IsSpelledSearch after when → event_of (text_of (Next kind after when)) ≡ Some (Next kind after when)
unfolding words_event worded_event next_event
next_again kind after when h =
    let apart : list_all no_space (kind_word kind ∷ search_words after when) ≡ true = rw (kind_no_space kind, search_no_space after when h) refl in
    ap words_event (words_again (codes "next") (kind_word kind ∷ search_words after when) refl apart) ∙ rw (kind_again kind) (search_again kind after when h)

-- WRITES

set_again : (x : Oid) (name : List ℕ) (value : Value) → IsSpelledOid x → IsSpelledName name → IsSpelledValue value → event_of (join_with_byte 32 (set_words x name (value_text value))) ≡ Some (Write (set_ask x name value))
unfolding set_event property_event
set_again x name value o n v =
    rw (cut_word (oid_text x) (name ++ 32 ∷ value_text value) (oid_no_space x o), oid_again x o, cut_word name (value_text value) (name_no_space name n), name_again name n, value_again value v) refl

delete_again : (x : Oid) → IsSpelledOid x → event_of (join_with_byte 32 (codes "delete" ∷ oid_text x ∷ [])) ≡ words_event (codes "delete" ∷ oid_text x ∷ [])
delete_again x h =
    let apart : list_all no_space (oid_text x ∷ []) ≡ true = rw (oid_no_space x h) refl in
    ap words_event (words_again (codes "delete") (oid_text x ∷ []) refl apart)

ask_again : (ask : Ask) → IsSpelledAsk ask → event_of (text_of (Write ask)) ≡ Some (Write ask)
unfolding words_event worded_event plain_event delete_event label_event unlabel_event edge_event
ask_again CreateVertex h = refl
ask_again (DeleteVertex id) h = delete_again (oid.Vertex id) h ∙ rw (oid_again (oid.Vertex id) h) refl
ask_again (DeleteEdge id) h = delete_again (oid.Edge id) h ∙ rw (oid_again (oid.Edge id) h) refl
ask_again (AddLabel id name) h =
    let apart : list_all no_space (oid_text (oid.Vertex id) ∷ name ∷ []) ≡ true = rw (vertex_no_space id h.0, name_no_space name h.1) refl in
    ap words_event (words_again (codes "label") (oid_text (oid.Vertex id) ∷ name ∷ []) refl apart) ∙ rw (vertex_again id h.0, name_again name h.1) refl
ask_again (RemoveLabel id name) h =
    let apart : list_all no_space (oid_text (oid.Vertex id) ∷ name ∷ []) ≡ true = rw (vertex_no_space id h.0, name_no_space name h.1) refl in
    ap words_event (words_again (codes "unlabel") (oid_text (oid.Vertex id) ∷ name ∷ []) refl apart) ∙ rw (vertex_again id h.0, name_again name h.1) refl
ask_again (CreateEdge from kind to) h =
    let apart : list_all no_space (oid_text (oid.Vertex from) ∷ kind ∷ oid_text (oid.Vertex to) ∷ []) ≡ true = rw (vertex_no_space from h.0, name_no_space kind h.1, vertex_no_space to h.2) refl in
    ap words_event (words_again (codes "edge") (oid_text (oid.Vertex from) ∷ kind ∷ oid_text (oid.Vertex to) ∷ []) refl apart) ∙ rw (vertex_again from h.0, vertex_again to h.2, name_again kind h.1) refl
ask_again (SetVertexProp id name value) h = set_again (oid.Vertex id) name value h.0 h.1 h.2
ask_again (SetEdgeProp id name value) h = set_again (oid.Edge id) name value h.0 h.1 h.2

-- EVENTS

lift_again : (x : Oid) → IsSpelledOid x → event_of (text_of (Lift x)) ≡ Some (Lift x)
unfolding words_event worded_event lift_event
lift_again x h =
    let apart : list_all no_space (oid_text x ∷ []) ≡ true = rw (oid_no_space x h) refl in
    ap words_event (words_again (codes "lift") (oid_text x ∷ []) refl apart) ∙ rw (oid_again x h) refl

event_again : (event : Event) → IsSpelledEvent event → event_of (text_of event) ≡ Some event
unfolding words_event plain_event
event_again Begin h = refl
event_again (Next kind after when) h = next_again kind after when h
event_again (Read x when) h = read_again x when h
event_again (Write ask) h = ask_again ask h
event_again Commit h = refl
event_again Abort h = refl
event_again Mark h = refl
event_again (Lift x) h = lift_again x h
event_again (Install piece) h = absurd h
event_again Stats h = refl

-- no event begins as an installation
no_install : (event : Event) → IsSpelledEvent event → wish_of (text_of event) ≡ event_wish (text_of event)
no_install Begin h = refl
no_install (Next kind after when) h = refl
no_install (Read x when) h = refl
no_install (Write CreateVertex) h = refl
no_install (Write (DeleteVertex id)) h = refl
no_install (Write (AddLabel id name)) h = refl
no_install (Write (RemoveLabel id name)) h = refl
no_install (Write (SetVertexProp id name value)) h = refl
no_install (Write (CreateEdge from kind to)) h = refl
no_install (Write (DeleteEdge id)) h = refl
no_install (Write (SetEdgeProp id name value)) h = refl
no_install Commit h = refl
no_install Abort h = refl
no_install Mark h = refl
no_install (Lift x) h = refl
no_install (Install piece) h = absurd h
no_install Stats h = refl

-- the text behind the caller
abbrev wish_text : Wish → List ℕ
wish_text w = join_with_byte 32 (wish_words w)

wish_again : (w : Wish) → IsSpelledWish w → wish_of (wish_text w) ≡ Some w
wish_again (wish.Event event) h = no_install event h ∙ ap (λ (e : Option Event). option_map wish.Event e) (event_again event h)
wish_again (wish.Install x) h = rw (oid_again x h) refl

some_words : (event : Event) → IsSpelledEvent event → 0 < length (event_words event)
some_words Begin h = omega arith
some_words (Next kind after when) h = omega arith
some_words (Read x when) h = omega arith
some_words (Write CreateVertex) h = omega arith
some_words (Write (DeleteVertex id)) h = omega arith
some_words (Write (AddLabel id name)) h = omega arith
some_words (Write (RemoveLabel id name)) h = omega arith
some_words (Write (SetVertexProp id name value)) h = omega arith
some_words (Write (CreateEdge from kind to)) h = omega arith
some_words (Write (DeleteEdge id)) h = omega arith
some_words (Write (SetEdgeProp id name value)) h = omega arith
some_words Commit h = omega arith
some_words Abort h = omega arith
some_words Mark h = omega arith
some_words (Lift x) h = omega arith
some_words (Install piece) h = absurd h
some_words Stats h = omega arith

some_wish_words : (w : Wish) → IsSpelledWish w → 0 < length (wish_words w)
some_wish_words (wish.Event event) h = some_words event h
some_wish_words (wish.Install x) h = omega arith

joined : (word : List ℕ) (words : List (List ℕ)) → 0 < length words → join_with_byte 32 (word ∷ words) ≡ word ++ 32 ∷ join_with_byte 32 words
joined word [] some = absurd (omega (arith, some))
joined word (first ∷ words) some = refl

pub spelling_is_read : SpellingIsRead
unfolding request_of
spelling_is_read request h =
    let line = joined (decimal request.caller) (wish_words request.wish) (some_wish_words request.wish h.1) in
    rw (line, cut_word (decimal request.caller) (wish_text request.wish) (decimal_no_space request.caller (omega (arith, h.0))), number_again (2 ^ 32) request.caller h.0 (omega arith), wish_again request.wish h.1) refl
