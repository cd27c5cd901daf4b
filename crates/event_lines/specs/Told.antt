-- What a caller is told, as text.
use Rattle.std.specs.Prelude.{◌≡◌, ◌⊎◌, ℕ, List}
use Rattle.graph_record.specs.declared.object.Object.{Object}
use Rattle.world_model.specs.Reply.{reply_of}
use Rattle.world_model.specs.Replies.{asked_by, IsAnswerTo, IsVersionOf}
use Rattle.world_model.specs.declared.answer.Answer.{Answer}
use Rattle.world_model.specs.declared.answer.Answer.TheVariants as answer
use Rattle.world_model.specs.declared.answer.Refused.TheVariants.{NoMemory}
use Rattle.world_model.specs.declared.event.Asked.{Asked}
use Rattle.world_model.specs.declared.event.Asked.TheVariants as asked
use Rattle.world_model.specs.declared.event.Event.{Event}
use Rattle.world_model.specs.declared.event.Event.TheVariants as event
use Rattle.event_lines.specs.declared.request.Wish.{Wish}
use Rattle.event_lines.specs.declared.request.Wish.TheVariants as wish
use Rattle.event_lines.specs.declared.told.Told.{Told}
use Rattle.event_lines.specs.declared.told.Told.TheVariants as told
use Rattle.event_lines.specs.Reply.{answer_text, version_text, lifted_text, installed_text, no_piece}

-- what a wish asks to be told
abbrev pub wished : Wish → Asked
wished (wish.Event event) = asked_by event
wished (wish.Install x) = asked.Nothing

abbrev pub told_text : Asked → Told → List ℕ
told_text asked (told.Answer answer) = answer_text asked (reply_of answer)
told_text asked (told.Version object) = version_text asked object
told_text asked (told.Lifted x cut mark deltas) = lifted_text x cut mark deltas
told_text asked (told.Installed x mark) = installed_text x mark
told_text asked told.NoPiece = no_piece

-- A version is told as an object, and no other way.
abbrev pub IsPlain : Asked → Answer → Type 0
IsPlain asked (answer.Version found) = ⊥
IsPlain asked a = IsAnswerTo asked (reply_of a)

-- what may be told where this was asked
abbrev pub IsToldTo : Asked → Told → Type 0
IsToldTo asked (told.Answer answer) = IsPlain asked answer
IsToldTo asked (told.Version object) = IsVersionOf asked object
IsToldTo asked (told.Lifted x cut mark deltas) = Unit {0}
IsToldTo asked (told.Installed x mark) = Unit {0}
IsToldTo asked told.NoPiece = Unit {0}

-- memory was wanting
abbrev pub wanting : Told
wanting = told.Answer (answer.Refused NoMemory)

-- the object is told, or memory was wanting
abbrev pub VersionIsTold : Object → Told → Type 0
VersionIsTold object t = (t ≡ told.Version object) ⊎ (t ≡ wanting)

-- no line says the blocks of a piece
abbrev pub IsWithoutPiece : Event → Type 0
IsWithoutPiece (event.Install piece) = ⊥
IsWithoutPiece e = Unit {0}

abbrev pub IsSayable : Wish → Type 0
IsSayable (wish.Event e) = IsWithoutPiece e
IsSayable (wish.Install x) = Unit {0}
