-- What is read as a request spells it.
use Rattle.std.proofs.Common.{◌≡◌, ℕ, ◌^◌, ◌==◌, Bool, true, false, cond, List, [], ◌∷◌, ◌++◌, Option, Some, None, option_map, option_and_then, codes, inl, inr, refl, sym, ap, ◌∙◌, subst, arith}
use Rattle.std.specs.List.{join_with_byte}
use Rattle.std.specs.Str.{bytes_eq}
use Rattle.std.specs.Fmt.{decimal}
use Rattle.std.proofs.lemmas.Bool.Decides.{nat_tests}
use Rattle.std.proofs.lemmas.Option.{same_Some, none-some}
use Rattle.std.proofs.lemmas.List.Splits.{join_with_byte-slice_split}
use Rattle.graph_value.specs.Id.{oid_text}
use Rattle.graph_value.specs.declared.id.Oid.{Oid}
use Rattle.graph_value.specs.declared.id.Oid.TheVariants as oid
use Rattle.graph_value.specs.declared.value.Value.{Value}
use Rattle.undo_delta.specs.declared.ask.Ask.TheVariants.{CreateVertex, AddLabel, RemoveLabel, CreateEdge}
use Rattle.world_model.specs.declared.event.Event.{Event}
use Rattle.world_model.specs.declared.event.Event.TheVariants.{Begin, Next, Read, Write, Commit, Abort, Mark, Lift, Install, Stats}
use Rattle.world_model.specs.declared.event.When.{When}
use Rattle.world_model.specs.declared.event.Kind.{Kind}
use Rattle.event_lines.specs.declared.request.Request.{Request}
use Rattle.event_lines.specs.declared.request.Wish.{Wish}
use Rattle.event_lines.specs.declared.request.Wish.TheVariants as wish
use Rattle.event_lines.specs.Words.{words_of, in_front, cut, number_below, name_of, oid_of, vertex_of}
use Rattle.event_lines.specs.Values.{json_value}
use Rattle.event_lines.specs.Request.{plain_event, when_of, read_event, kind_of, next_after, next_of, next_event, delete_ask, delete_event, label_event, unlabel_event, edge_event, set_ask, property_event, set_event, lift_event, worded_event, words_event, parted_event, event_of, event_wish, install_wish, parted_wish, wish_of, request_of}
use Rattle.event_lines.specs.Spelling.{line_of, search_words, IsSpelledOid, IsSpelledName, IsSpelledSearch, IsEventLine, IsWishLine, IsLineOf, ReadIsSpelling}
use Rattle.event_lines.specs.Told.{IsSayable, IsWithoutPiece}
use Rattle.event_lines.proofs.Options.{bind_some, map_some, kept, chosen}
use Rattle.event_lines.proofs.ReadWords.{same_words, same_text, number_reads, name_reads, oid_reads, vertex_reads, when_reads, kind_reads}

-- the words are those of an event: a line that has them is one of its lines
abbrev AreWordsOf : List (List ℕ) → Event → Type 0
AreWordsOf words event = (line : List ℕ) (caller : ℕ) → line ≡ line_of caller words → IsEventLine line caller event

-- ONE WORD

line_by : (line : List ℕ) (caller : ℕ) (words words' : List (List ℕ)) → words ≡ words' → line ≡ line_of caller words → line ≡ line_of caller words'
line_by line caller words words' same is = is ∙ ap (line_of caller) same

plain_reads : (verb : List ℕ) (event : Event) → plain_event verb ≡ Some event → AreWordsOf (verb ∷ []) event
unfolding plain_event
plain_reads verb event h = elim (chosen (bytes_eq verb (codes "begin")) (Some Begin) _ event h) [
  | inl a ↦ subst (AreWordsOf (verb ∷ [])) (same_Some _ _ a.1) (λ line caller is. (tt, line_by line caller _ _ (ap (λ w. w ∷ []) (same_text verb _ a.0)) is))
  | inr more ↦ elim (chosen (bytes_eq verb (codes "vertex")) (Some (Write CreateVertex)) _ event more.1) [
    | inl a ↦ subst (AreWordsOf (verb ∷ [])) (same_Some _ _ a.1) (λ line caller is. (tt, line_by line caller _ _ (ap (λ w. w ∷ []) (same_text verb _ a.0)) is))
    | inr more ↦ elim (chosen (bytes_eq verb (codes "commit")) (Some Commit) _ event more.1) [
      | inl a ↦ subst (AreWordsOf (verb ∷ [])) (same_Some _ _ a.1) (λ line caller is. (tt, line_by line caller _ _ (ap (λ w. w ∷ []) (same_text verb _ a.0)) is))
      | inr more ↦ elim (chosen (bytes_eq verb (codes "abort")) (Some Abort) _ event more.1) [
        | inl a ↦ subst (AreWordsOf (verb ∷ [])) (same_Some _ _ a.1) (λ line caller is. (tt, line_by line caller _ _ (ap (λ w. w ∷ []) (same_text verb _ a.0)) is))
        | inr more ↦ elim (chosen (bytes_eq verb (codes "mark")) (Some Mark) _ event more.1) [
          | inl a ↦ subst (AreWordsOf (verb ∷ [])) (same_Some _ _ a.1) (λ line caller is. (tt, line_by line caller _ _ (ap (λ w. w ∷ []) (same_text verb _ a.0)) is))
          | inr more ↦ (let a = kept (bytes_eq verb (codes "stats")) (Some Stats) event more.1 in
              subst (AreWordsOf (verb ∷ [])) (same_Some _ _ a.1) (λ line caller is. (tt, line_by line caller _ _ (ap (λ w. w ∷ []) (same_text verb _ a.0)) is)))
        ]
      ]
    ]
  ]
]

-- READS

read_reads : (verb : List ℕ) (words : List (List ℕ)) (event : Event) → verb ≡ codes "read" → read_event words ≡ Some event → AreWordsOf (verb ∷ words) event
unfolding read_event
read_reads verb [] event v h = absurd (none-some _ h)
read_reads verb (object ∷ words) event v h =
    let first = bind_some (oid_of object) (λ x. option_map (Read x) (when_of words)) event h in
    let second = map_some (when_of words) (Read first.0) event first.2 in
    let x = oid_reads object first.0 first.1 in
    let when = when_reads words second.0 second.1 in
    subst (AreWordsOf (verb ∷ object ∷ words)) second.2 (λ line caller is. ((x.0, when.0), line_by line caller _ _ (same_words _ _ _ _ v (same_words _ _ _ _ x.1 when.1)) is))

-- the words behind the kind
abbrev AreSearchOf : Kind → List (List ℕ) → Event → Type 0
AreSearchOf kind words event = (after : Option ℕ) × (when : When) × IsSpelledSearch after when × (words ≡ search_words after when) × (Next kind after when ≡ event)

after_reads : (kind : Kind) (word : List ℕ) (words : List (List ℕ)) (event : Event) → word ≡ codes "after" → next_after kind words ≡ Some event → AreSearchOf kind (word ∷ words) event
unfolding next_after
after_reads kind word [] event v h = absurd (none-some _ h)
after_reads kind word (number ∷ words) event v h =
    let first = bind_some (number_below (2 ^ 63) number) (λ n. option_map (Next kind (Some n)) (when_of words)) event h in
    let second = map_some (when_of words) (Next kind (Some first.0)) event first.2 in
    let n = number_reads (2 ^ 63) number first.0 (omega arith) first.1 in
    let when = when_reads words second.0 second.1 in
    (Some first.0, second.0, (n.0, when.0), same_words _ _ _ _ v (same_words _ _ _ _ n.1 when.1), second.2)

search_reads : (kind : Kind) (words : List (List ℕ)) (event : Event) → next_of kind words ≡ Some event → AreSearchOf kind words event
unfolding next_of
search_reads kind [] event h = absurd (none-some _ h)
search_reads kind (word ∷ words) event h = elim (chosen (bytes_eq word (codes "first")) (option_map (Next kind None) (when_of words)) _ event h) [
  | inl a ↦ (
      let some = map_some (when_of words) (Next kind None) event a.1 in
      let when = when_reads words some.0 some.1 in
      (None, some.0, when.0, same_words _ _ _ _ (same_text word _ a.0) when.1, some.2))
  | inr more ↦ (
      let a = kept (bytes_eq word (codes "after")) (next_after kind words) event more.1 in
      after_reads kind word words event (same_text word _ a.0) a.1)
]

next_reads : (verb : List ℕ) (words : List (List ℕ)) (event : Event) → verb ≡ codes "next" → next_event words ≡ Some event → AreWordsOf (verb ∷ words) event
unfolding next_event
next_reads verb [] event v h = absurd (none-some _ h)
next_reads verb (word ∷ words) event v h =
    let first = bind_some (kind_of word) (λ kind. next_of kind words) event h in
    let search = search_reads first.0 words event first.2 in
    let kind = kind_reads word first.0 first.1 in
    subst (AreWordsOf (verb ∷ word ∷ words)) search.4 (λ line caller is. (search.2, line_by line caller _ _ (same_words _ _ _ _ v (same_words _ _ _ _ kind search.3)) is))

lift_reads : (verb : List ℕ) (words : List (List ℕ)) (event : Event) → verb ≡ codes "lift" → lift_event words ≡ Some event → AreWordsOf (verb ∷ words) event
unfolding lift_event
lift_reads verb [] event v h = absurd (none-some _ h)
lift_reads verb (object ∷ []) event v h =
    let some = map_some (oid_of object) Lift event h in
    let x = oid_reads object some.0 some.1 in
    subst (AreWordsOf (verb ∷ object ∷ [])) some.2 (λ line caller is. (x.0, line_by line caller _ _ (same_words _ _ _ _ v (ap (λ w. w ∷ []) x.1)) is))
lift_reads verb (a ∷ b ∷ words) event v h = absurd (none-some _ h)

-- WRITES

deleted : (x : Oid) (verb object : List ℕ) → verb ≡ codes "delete" → IsSpelledOid x × (object ≡ oid_text x) → AreWordsOf (verb ∷ object ∷ []) (Write (delete_ask x))
deleted (oid.Vertex id) verb object v x line caller is = (x.0, line_by line caller _ _ (same_words _ _ _ _ v (ap (λ w. w ∷ []) x.1)) is)
deleted (oid.Edge id) verb object v x line caller is = (x.0, line_by line caller _ _ (same_words _ _ _ _ v (ap (λ w. w ∷ []) x.1)) is)

delete_reads : (verb : List ℕ) (words : List (List ℕ)) (event : Event) → verb ≡ codes "delete" → delete_event words ≡ Some event → AreWordsOf (verb ∷ words) event
unfolding delete_event
delete_reads verb [] event v h = absurd (none-some _ h)
delete_reads verb (object ∷ []) event v h =
    let some = map_some (oid_of object) (λ x. Write (delete_ask x)) event h in
    subst (AreWordsOf (verb ∷ object ∷ [])) some.2 (deleted some.0 verb object v (oid_reads object some.0 some.1))
delete_reads verb (a ∷ b ∷ words) event v h = absurd (none-some _ h)

label_reads : (verb : List ℕ) (words : List (List ℕ)) (event : Event) → verb ≡ codes "label" → label_event words ≡ Some event → AreWordsOf (verb ∷ words) event
unfolding label_event
label_reads verb [] event v h = absurd (none-some _ h)
label_reads verb (a ∷ []) event v h = absurd (none-some _ h)
label_reads verb (vertex ∷ label ∷ []) event v h =
    let first = bind_some (vertex_of vertex) (λ id. option_and_then (λ name. Some (Write (AddLabel id name))) (name_of label)) event h in
    let second = bind_some (name_of label) (λ name. Some (Write (AddLabel first.0 name))) event first.2 in
    let id = vertex_reads vertex first.0 first.1 in
    let name = name_reads label second.0 second.1 in
    subst (AreWordsOf (verb ∷ vertex ∷ label ∷ [])) (same_Some _ _ second.2) (λ line caller is. ((id.0, name.0), line_by line caller _ _ (same_words _ _ _ _ v (same_words _ _ _ _ id.1 (ap (λ w. w ∷ []) name.1))) is))
label_reads verb (a ∷ b ∷ d ∷ words) event v h = absurd (none-some _ h)

unlabel_reads : (verb : List ℕ) (words : List (List ℕ)) (event : Event) → verb ≡ codes "unlabel" → unlabel_event words ≡ Some event → AreWordsOf (verb ∷ words) event
unfolding unlabel_event
unlabel_reads verb [] event v h = absurd (none-some _ h)
unlabel_reads verb (a ∷ []) event v h = absurd (none-some _ h)
unlabel_reads verb (vertex ∷ label ∷ []) event v h =
    let first = bind_some (vertex_of vertex) (λ id. option_and_then (λ name. Some (Write (RemoveLabel id name))) (name_of label)) event h in
    let second = bind_some (name_of label) (λ name. Some (Write (RemoveLabel first.0 name))) event first.2 in
    let id = vertex_reads vertex first.0 first.1 in
    let name = name_reads label second.0 second.1 in
    subst (AreWordsOf (verb ∷ vertex ∷ label ∷ [])) (same_Some _ _ second.2) (λ line caller is. ((id.0, name.0), line_by line caller _ _ (same_words _ _ _ _ v (same_words _ _ _ _ id.1 (ap (λ w. w ∷ []) name.1))) is))
unlabel_reads verb (a ∷ b ∷ d ∷ words) event v h = absurd (none-some _ h)

edge_reads : (verb : List ℕ) (words : List (List ℕ)) (event : Event) → verb ≡ codes "edge" → edge_event words ≡ Some event → AreWordsOf (verb ∷ words) event
unfolding edge_event
edge_reads verb [] event v h = absurd (none-some _ h)
edge_reads verb (a ∷ []) event v h = absurd (none-some _ h)
edge_reads verb (a ∷ b ∷ []) event v h = absurd (none-some _ h)
edge_reads verb (source ∷ kind ∷ target ∷ []) event v h =
    let first = bind_some (vertex_of source) (λ from. option_and_then (λ to. option_and_then (λ name. Some (Write (CreateEdge from name to))) (name_of kind)) (vertex_of target)) event h in
    let second = bind_some (vertex_of target) (λ to. option_and_then (λ name. Some (Write (CreateEdge first.0 name to))) (name_of kind)) event first.2 in
    let third = bind_some (name_of kind) (λ name. Some (Write (CreateEdge first.0 name second.0))) event second.2 in
    let from = vertex_reads source first.0 first.1 in
    let to = vertex_reads target second.0 second.1 in
    let name = name_reads kind third.0 third.1 in
    subst (AreWordsOf (verb ∷ source ∷ kind ∷ target ∷ [])) (same_Some _ _ third.2) (λ line caller is. ((from.0, name.0, to.0), line_by line caller _ _ (same_words _ _ _ _ v (same_words _ _ _ _ from.1 (same_words _ _ _ _ name.1 (ap (λ w. w ∷ []) to.1)))) is))
edge_reads verb (a ∷ b ∷ d ∷ e ∷ words) event v h = absurd (none-some _ h)

-- EVENTS WITHOUT A VALUE

worded_reads : (verb : List ℕ) (words : List (List ℕ)) (event : Event) → worded_event verb words ≡ Some event → AreWordsOf (verb ∷ words) event
unfolding worded_event
worded_reads verb words event h = elim (chosen (bytes_eq verb (codes "read")) (read_event words) _ event h) [
  | inl a ↦ read_reads verb words event (same_text verb _ a.0) a.1
  | inr more ↦ elim (chosen (bytes_eq verb (codes "next")) (next_event words) _ event more.1) [
    | inl a ↦ next_reads verb words event (same_text verb _ a.0) a.1
    | inr more ↦ elim (chosen (bytes_eq verb (codes "delete")) (delete_event words) _ event more.1) [
      | inl a ↦ delete_reads verb words event (same_text verb _ a.0) a.1
      | inr more ↦ elim (chosen (bytes_eq verb (codes "label")) (label_event words) _ event more.1) [
        | inl a ↦ label_reads verb words event (same_text verb _ a.0) a.1
        | inr more ↦ elim (chosen (bytes_eq verb (codes "unlabel")) (unlabel_event words) _ event more.1) [
          | inl a ↦ unlabel_reads verb words event (same_text verb _ a.0) a.1
          | inr more ↦ elim (chosen (bytes_eq verb (codes "edge")) (edge_event words) _ event more.1) [
            | inl a ↦ edge_reads verb words event (same_text verb _ a.0) a.1
            | inr more ↦ (let a = kept (bytes_eq verb (codes "lift")) (lift_event words) event more.1 in lift_reads verb words event (same_text verb _ a.0) a.1)
          ]
        ]
      ]
    ]
  ]
]

words_read : (words : List (List ℕ)) (event : Event) → words_event words ≡ Some event → AreWordsOf words event
unfolding words_event
words_read [] event h = absurd (none-some _ h)
words_read (verb ∷ []) event h = plain_reads verb event h
words_read (verb ∷ word ∷ words) event h = worded_reads verb (word ∷ words) event h

-- LINES

cut_by : (space : Bool) (b : ℕ) (bytes : List ℕ) (parts : List ℕ × List ℕ) → (b == 32) ≡ space → ((rest : List ℕ × List ℕ) → cut bytes ≡ Some rest → bytes ≡ rest.0 ++ 32 ∷ rest.1)
    → cond space (Some ([], bytes)) (option_map (in_front b) (cut bytes)) ≡ Some parts → (b ∷ bytes) ≡ parts.0 ++ 32 ∷ parts.1
cut_by true b bytes parts is more h =
    let space : b ≡ 32 = grind (arith, nat_tests) in
    subst (λ (p : List ℕ × List ℕ). (b ∷ bytes) ≡ p.0 ++ 32 ∷ p.1) (same_Some _ _ h) (ap (λ c. c ∷ bytes) space)
cut_by false b bytes parts is more h =
    let some = map_some (cut bytes) (in_front b) parts h in
    subst (λ (p : List ℕ × List ℕ). (b ∷ bytes) ≡ p.0 ++ 32 ∷ p.1) some.2 (ap (λ bs. b ∷ bs) (more some.0 some.1))

cut_reads : (text : List ℕ) (parts : List ℕ × List ℕ) → cut text ≡ Some parts → text ≡ parts.0 ++ 32 ∷ parts.1
cut_reads [] parts h = absurd (none-some _ h)
cut_reads (b ∷ bytes) parts h = cut_by (b == 32) b bytes parts refl (cut_reads bytes) h

-- words that say something are there
joined : (word text : List ℕ) (words : List (List ℕ)) (event : Event) → words_event words ≡ Some event → join_with_byte 32 words ≡ text → word ++ 32 ∷ text ≡ join_with_byte 32 (word ∷ words)
unfolding words_event
joined word text [] event h is = absurd (none-some _ h)
joined word text (first ∷ words) event h is = ap (λ t. word ++ 32 ∷ t) (sym is)

abbrev IsLineBehind : ℕ → List ℕ → Event → Type 0
IsLineBehind caller text event = IsEventLine (decimal caller ++ 32 ∷ text) caller event

split_reads : (caller : ℕ) (text : List ℕ) (event : Event) → words_event (words_of text) ≡ Some event → IsLineBehind caller text event
split_reads caller text event h =
    words_read (words_of text) event h (decimal caller ++ 32 ∷ text) caller (joined (decimal caller) text (words_of text) event h (join_with_byte-slice_split 32 text))

set_line : (caller : ℕ) (text : List ℕ) (x : Oid) (name json : List ℕ) (value : Value) → text ≡ codes "set" ++ 32 ∷ (oid_text x ++ 32 ∷ (name ++ 32 ∷ json)) → IsSpelledOid x → IsSpelledName name → json_value json ≡ Some value → IsLineBehind caller text (Write (set_ask x name value))
set_line caller text (oid.Vertex id) name json value is x n v = (x, n, json, v, ap (λ t. decimal caller ++ 32 ∷ t) is)
set_line caller text (oid.Edge id) name json value is x n v = (x, n, json, v, ap (λ t. decimal caller ++ 32 ∷ t) is)

property_reads : (caller : ℕ) (text : List ℕ) (x : Oid) (property json : List ℕ) (event : Event) → text ≡ codes "set" ++ 32 ∷ (oid_text x ++ 32 ∷ (property ++ 32 ∷ json)) → IsSpelledOid x → property_event x property json ≡ Some event → IsLineBehind caller text event
unfolding property_event
property_reads caller text x property json event is spelled h =
    let first = bind_some (name_of property) (λ name. option_and_then (λ v. Some (Write (set_ask x name v))) (json_value json)) event h in
    let second = bind_some (json_value json) (λ v. Some (Write (set_ask x first.0 v))) event first.2 in
    let name = name_reads property first.0 first.1 in
    let named = is ∙ ap (λ w. codes "set" ++ 32 ∷ (oid_text x ++ 32 ∷ (w ++ 32 ∷ json))) name.1 in
    subst (IsLineBehind caller text) (same_Some _ _ second.2) (set_line caller text x first.0 json second.0 named spelled name.0 second.1)

set_text : (text behind : List ℕ) (first second : List ℕ × List ℕ) (x : Oid) → text ≡ codes "set" ++ 32 ∷ behind → cut behind ≡ Some first → first.0 ≡ oid_text x → cut first.1 ≡ Some second
    → text ≡ codes "set" ++ 32 ∷ (oid_text x ++ 32 ∷ (second.0 ++ 32 ∷ second.1))
set_text text behind first second x is one object two =
    is ∙ ap (λ t. codes "set" ++ 32 ∷ t) (cut_reads behind first one ∙ ap (λ w. w ++ 32 ∷ first.1) object ∙ ap (λ t. oid_text x ++ 32 ∷ t) (cut_reads first.1 second two))

set_reads : (caller : ℕ) (text behind : List ℕ) (event : Event) → text ≡ codes "set" ++ 32 ∷ behind → set_event behind ≡ Some event → IsLineBehind caller text event
unfolding set_event
set_reads caller text behind event is h =
    let first = bind_some (cut behind) (λ p. option_and_then (λ x. option_and_then (λ q. property_event x q.0 q.1) (cut p.1)) (oid_of p.0)) event h in
    let second = bind_some (oid_of first.0.0) (λ x. option_and_then (λ q. property_event x q.0 q.1) (cut first.0.1)) event first.2 in
    let third = bind_some (cut first.0.1) (λ q. property_event second.0 q.0 q.1) event second.2 in
    let x = oid_reads first.0.0 second.0 second.1 in
    let whole = set_text text behind first.0 third.0 second.0 is first.1 x.1 third.1 in
    property_reads caller text second.0 third.0.0 third.0.1 event whole x.0 third.2

parted_reads : (caller : ℕ) (text : List ℕ) (parts : Option (List ℕ × List ℕ)) (event : Event) → cut text ≡ parts → parted_event text parts ≡ Some event → IsLineBehind caller text event
parted_reads caller text None event is h = split_reads caller text event h
parted_reads caller text (Some parts) event is h = elim (chosen (bytes_eq parts.0 (codes "set")) (set_event parts.1) (words_event (words_of text)) event h) [
  | inl a ↦ set_reads caller text parts.1 event (cut_reads text parts is ∙ ap (λ w. w ++ 32 ∷ parts.1) (same_text parts.0 _ a.0)) a.1
  | inr more ↦ split_reads caller text event more.1
]

event_reads : (caller : ℕ) (text : List ℕ) (w : Wish) → event_wish text ≡ Some w → IsWishLine (decimal caller ++ 32 ∷ text) caller w
event_reads caller text w h =
    let some = map_some (event_of text) wish.Event w h in
    subst (IsWishLine (decimal caller ++ 32 ∷ text) caller) some.2 (parted_reads caller text (cut text) some.0 refl some.1)

install_reads : (caller : ℕ) (text behind : List ℕ) (w : Wish) → text ≡ codes "install" ++ 32 ∷ behind → install_wish behind ≡ Some w → IsWishLine (decimal caller ++ 32 ∷ text) caller w
install_reads caller text behind w is h =
    let some = map_some (oid_of behind) wish.Install w h in
    let x = oid_reads behind some.0 some.1 in
    subst (IsWishLine (decimal caller ++ 32 ∷ text) caller) some.2 (x.0, ap (λ t. decimal caller ++ 32 ∷ t) (is ∙ ap (λ t. codes "install" ++ 32 ∷ t) x.1))

wish_reads : (caller : ℕ) (text : List ℕ) (parts : Option (List ℕ × List ℕ)) (w : Wish) → cut text ≡ parts → parted_wish text parts ≡ Some w → IsWishLine (decimal caller ++ 32 ∷ text) caller w
wish_reads caller text None w is h = event_reads caller text w h
wish_reads caller text (Some parts) w is h = elim (chosen (bytes_eq parts.0 (codes "install")) (install_wish parts.1) (event_wish text) w h) [
  | inl a ↦ install_reads caller text parts.1 w (cut_reads text parts is ∙ ap (λ t. t ++ 32 ∷ parts.1) (same_text parts.0 _ a.0)) a.1
  | inr more ↦ event_reads caller text w more.1
]

pub read_is_spelling : ReadIsSpelling
unfolding request_of
read_is_spelling line request h =
    let first = bind_some (cut line) (λ p. option_and_then (λ n. option_and_then (λ w. Some (record { caller = n; wish = w })) (wish_of p.1)) (number_below (2 ^ 32) p.0)) request h in
    let second = bind_some (number_below (2 ^ 32) first.0.0) (λ n. option_and_then (λ w. Some (record { caller = n; wish = w })) (wish_of first.0.1)) request first.2 in
    let third = bind_some (wish_of first.0.1) (λ w. Some (record { caller = second.0; wish = w })) request second.2 in
    let caller = number_reads (2 ^ 32) first.0.0 second.0 (omega arith) second.1 in
    let whole = cut_reads line first.0 first.1 ∙ ap (λ w. w ++ 32 ∷ first.0.1) caller.1 in
    let behind = wish_reads second.0 first.0.1 (cut first.0.1) third.0 refl third.1 in
    subst (IsLineOf line) (same_Some _ _ third.2) (caller.0, subst (λ (l : List ℕ). IsWishLine l second.0 third.0) (sym whole) behind)

event_sayable : (line : List ℕ) (caller : ℕ) (event : Event) → IsEventLine line caller event → IsWithoutPiece event
event_sayable line caller Begin h = tt
event_sayable line caller (Next kind after when) h = tt
event_sayable line caller (Read x when) h = tt
event_sayable line caller (Write ask) h = tt
event_sayable line caller Commit h = tt
event_sayable line caller Abort h = tt
event_sayable line caller Mark h = tt
event_sayable line caller (Lift x) h = tt
event_sayable line caller (Install piece) h = absurd h.0
event_sayable line caller Stats h = tt

wish_sayable : (line : List ℕ) (caller : ℕ) (w : Wish) → IsWishLine line caller w → IsSayable w
wish_sayable line caller (wish.Event event) h = event_sayable line caller event h
wish_sayable line caller (wish.Install x) h = tt

-- no line is read as an event that carries a piece
pub read_is_sayable : (line : List ℕ) (request : Request) → request_of line ≡ Some request → IsSayable request.wish
read_is_sayable line request h = wish_sayable line request.caller request.wish (read_is_spelling line request h).1
