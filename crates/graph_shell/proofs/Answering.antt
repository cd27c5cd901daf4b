-- A wish that was done is a line of the text.
use Rattle.std.proofs.Common.{◌≡◌, ℕ, List, [], ◌∷◌, ◌++◌, Option, Some, None, Bool, true, false, ◌&&◌, cond, refl, sym, ap, subst, ◌∙◌, inl, inr, arith, append_assoc}
use Rattle.std.specs.Prelude.{◌≢◌, nat_eq}
use Rattle.std.proofs.lemmas.Bool.Decides.{nat_tests}
use Rattle.std.proofs.Math.Path.{fun_ext}
use Rattle.std.proofs.lemmas.Option.{same_Some}
use Rattle.graph_value.specs.declared.id.Oid.{Oid}
use Rattle.graph_record.specs.declared.object.Object.{Object}
use Rattle.undo_delta.specs.Touch.{same_oid}
use Rattle.world_model.specs.declared.answer.Answer.{Answer}
use Rattle.world_model.specs.declared.answer.Answer.TheVariants as answer
use Rattle.world_model.specs.declared.answer.Refused.{Refused}
use Rattle.world_model.specs.declared.answer.Refused.TheVariants as refused
use Rattle.world_model.specs.declared.event.Asked.{Asked}
use Rattle.world_model.specs.declared.event.Asked.TheVariants as asked
use Rattle.world_model.specs.declared.event.Event.{Event}
use Rattle.world_model.specs.declared.event.Event.TheVariants as event
use Rattle.world_model.specs.Pieces.{LiftedParts, PieceParts}
use Rattle.world_model.specs.Placement.{piece_of}
use Rattle.world_model.specs.Reply.{Reply, reply_of}
use Rattle.world_model.specs.Reply as reply
use Rattle.world_model.specs.World.{World, Start, start_world}
use Rattle.world_model.specs.Step.{step}
use Rattle.world_model.specs.History.{Entry, IsAnswered, IsPieceOf, MayStand, run, world_after, no_memory, is_no_memory, may_want}
use Rattle.world_model.specs.Replies.{asked_by, IsAnswerTo, IsHandedBack}
use Rattle.world_model.proofs.Copies.{IsCopy, is_copied, copied}
use Rattle.world_model.proofs.Folds.{and_left_true, and_right_true, same_id}
use Rattle.world_model.proofs.Histories.{run-append}
use Rattle.front_core.specs.Keeps.{IsOfSome, MayAsk, StandsFor}
use Rattle.front_core.specs.declared.state.State.{State}
use Rattle.event_lines.specs.declared.request.Request.{Request}
use Rattle.event_lines.specs.declared.request.Wish.{Wish}
use Rattle.event_lines.specs.declared.request.Wish.TheVariants as wish
use Rattle.event_lines.specs.Request.{request_of, is_skipped}
use Rattle.event_lines.specs.Reply.{answer_text, caller_text, reply_text, piece_text, no_piece}
use Rattle.event_lines.specs.declared.told.Told.{Told}
use Rattle.event_lines.specs.declared.told.Told.TheVariants as told
use Rattle.event_lines.specs.Told.{IsPlain, IsWithoutPiece, VersionIsTold, told_text}
use Rattle.graph_shell.specs.Kept.{pieces_in}
use Rattle.graph_shell.specs.Pieces.{LiftIsTold, Pieces, keeping}
use Rattle.graph_shell.specs.Events.{Kept, Answered, answer_short, answer_request, answer_wish, answer_piece, answer_install, reply_to, entry_of, pieces_after}
use Rattle.graph_shell.specs.Stands.{AnswersLine, Past, ShellParts, Stands, left_by}

-- ---- lines

-- what was answered to a wish is answered to the line that is read as it
pub answers_request : (Stands : Past → Type 0) (line : List ℕ) (r : Request) (text printed : List ℕ) (past : Past) →
    AnswersLine (λ wanting k. answer_wish wanting k r.caller r.wish) Stands text past →
    is_skipped line ≡ false → request_of line ≡ Some r → printed ≡ text →
    AnswersLine (λ wanting k. answer_short wanting k line) Stands printed past
answers_request Stands line r text printed past a kept is same =
    let k : Kept = left_by past in
    let whole : answer_short a.wanting k line ≡ answer_wish a.wanting k r.caller r.wish =
    ap (λ b. cond b (record { text = []; after = k }) (answer_request a.wanting k (request_of line))) kept ∙ ap (answer_request a.wanting k) is in
    record {
      wanting = a.wanting;
      after = a.after;
      stands = a.stands;
      text_is = same ∙ a.text_is ∙ sym (ap (λ (x : Answered). x.text) whole);
      left = a.left ∙ sym (ap (λ (x : Answered). x.after) whole);
    }

-- ---- replies

-- which reply it is
pub record Chosen (w : World) (caller : ℕ) (e : Event) (r : Reply) : Type 0 where
  pub wanting : Bool
  pub same : r ≡ reply_to wanting w caller e

pub chosen : (w : World) (caller : ℕ) (e : Event) (r : Reply) → IsAnswered w (entry_of caller e r) → Chosen w caller e r
chosen w caller e r (inl same) = record { wanting = false; same = same }
chosen w caller e r (inr none) = record {
  wanting = true;
  same = none.0 ∙ ap (λ b. cond b no_memory (step w caller e).reply) (sym none.1);
}

pub no_memory_chosen : (w : World) (caller : ℕ) (e : Event) → may_want w caller e ≡ true → Chosen w caller e no_memory
no_memory_chosen w caller e may = chosen w caller e no_memory (inr (refl, may))

-- ---- the past

abbrev kept_of : World → Pieces → Kept
kept_of w pieces = record { world = w; pieces = pieces }

kept_same : (v w : World) (p q : Pieces) → v ≡ w → p ≡ q → kept_of v p ≡ kept_of w q
kept_same v w p q a b = ap (λ u. kept_of u p) a ∙ ap (kept_of w) b

abbrev pub now : Past → World
now past = run (start_world past.start) past.es

-- one more entry, and these pieces
abbrev pub more : Past → Entry → Pieces → Past
more past e pieces = record { start = past.start; es = past.es ++ e ∷ []; pieces = pieces }

-- a piece of a history is one of a longer one
later_piece : (es : List Entry) (e : Entry) (piece : PieceParts) → IsPieceOf es piece → IsPieceOf (es ++ e ∷ []) piece
later_piece es e piece p = record {
  early = p.early;
  entry = p.entry;
  late = p.late ++ e ∷ [];
  lifted = p.lifted;
  parts = ap (λ ds. ds ++ e ∷ []) p.parts ∙ append_assoc p.early (p.entry ∷ p.late) (e ∷ []);
  answered = p.answered;
  built = p.built;
}

-- what was lifted last is a piece
pub last_piece : (es : List Entry) (caller : ℕ) (e : Event) (l : LiftedParts) → IsPieceOf (es ++ entry_of caller e (reply.Lifted l) ∷ []) (piece_of l)
last_piece es caller e l = record { early = es; entry = entry_of caller e (reply.Lifted l); late = []; lifted = l; parts = refl; answered = refl; built = refl }

-- the pieces stay
pub stands_more : (s t : ShellParts) (past : Past) (e : Entry) → Stands s past → StandsFor past.start t.core (past.es ++ e ∷ []) → pieces_in t.places ≡ pieces_in s.places → Stands t (more past e past.pieces)
stands_more s t past e st store same = record { store = store; same = same ∙ st.same; pieces = λ caller x piece h. later_piece past.es e piece (st.pieces caller x piece h) }

-- or one place has another content
pub stands_with : (s t : ShellParts) (past : Past) (e : Entry) (caller : ℕ) (x : Oid) (place : Option PieceParts) → Stands s past → StandsFor past.start t.core (past.es ++ e ∷ []) →
    pieces_in t.places ≡ keeping caller x place (pieces_in s.places) → ((piece : PieceParts) → place ≡ Some piece → IsPieceOf (past.es ++ e ∷ []) piece) → Stands t (more past e (keeping caller x place past.pieces))
stands_with s t past e caller x place st store same own = record {
  store = store;
  same = same ∙ ap (keeping caller x place) st.same;
  pieces = λ c y piece h. elim (nat_eq c caller && same_oid y x) as (λ b. cond b place (past.pieces c y) ≡ Some piece → IsPieceOf (past.es ++ e ∷ []) piece) [
    | true ↦ λ is. own piece is
    | false ↦ λ is. later_piece past.es e piece (st.pieces c y piece is)
  ] h;
}

-- a piece that was taken out and put back
pub put_back : (caller : ℕ) (x : Oid) (piece : PieceParts) (pieces : Pieces) → pieces caller x ≡ Some piece → keeping caller x (Some piece) (keeping caller x None pieces) ≡ pieces
put_back caller x piece pieces is = fun_ext (λ c. fun_ext (λ y. by_test c y (nat_eq c caller && same_oid y x) refl))
  where
    caller_is : (c : ℕ) → nat_eq c caller ≡ true → c ≡ caller
    caller_is c h = grind (arith, nat_tests)

    by_test : (c : ℕ) (y : Oid) (b : Bool) → (nat_eq c caller && same_oid y x) ≡ b → cond b (Some piece) (cond b None (pieces c y)) ≡ pieces c y
    by_test c y true h = sym (ap (λ d. pieces d y) (caller_is c (and_left_true _ _ h)) ∙ ap (pieces caller) (same_id y x (and_right_true (nat_eq c caller) _ h)) ∙ is)
    by_test c y false h = refl

-- ---- events

abbrev pub AnswersEvent : ℕ → Event → (Past → Type 0) → List ℕ → Past → Type 0
AnswersEvent caller e After text past = AnswersLine (λ wanting k. answer_wish wanting k caller (wish.Event e)) After text past

pub answers_event : (After : Past → Type 0) (caller : ℕ) (e : Event) (r : Reply) (past : Past) → IsAnswered (now past) (entry_of caller e r) →
    After (more past (entry_of caller e r) (pieces_after caller r past.pieces)) → AnswersEvent caller e After (reply_text caller (asked_by e) r) past
answers_event After caller e r past answered after =
    let w : World = now past in
    let choice : Chosen w caller e r = chosen w caller e r answered in
    record {
      wanting = choice.wanting;
      after = more past (entry_of caller e r) (pieces_after caller r past.pieces);
      stands = after;
      text_is = ap (reply_text caller (asked_by e)) choice.same;
      left = kept_same _ _ _ _ (run-append (start_world past.start) past.es (entry_of caller e r) ∙ ap (λ q. world_after w (entry_of caller e q)) choice.same) (ap (λ q. pieces_after caller q past.pieces) choice.same);
    }

-- memory was wanting for what the store had copied out
pub answers_wanting : (After : Past → Type 0) (caller : ℕ) (e : Event) (r : Reply) (past : Past) → IsAnswered (now past) (entry_of caller e r) → is_copied r ≡ true →
    After (more past (entry_of caller e r) past.pieces) → AnswersEvent caller e After (reply_text caller (asked_by e) no_memory) past
answers_wanting After caller e r past answered is after =
    let w : World = now past in
    let copy : IsCopy w caller e = copied w caller e r answered is in
    let choice : Chosen w caller e no_memory = no_memory_chosen w caller e copy.may in
    record {
      wanting = choice.wanting;
      after = more past (entry_of caller e r) past.pieces;
      stands = after;
      text_is = ap (reply_text caller (asked_by e)) choice.same;
      left = kept_same _ _ _ _ (run-append (start_world past.start) past.es (entry_of caller e r) ∙ either_way (is_no_memory r) w (step w caller e).world copy.still ∙ ap (λ q. world_after w (entry_of caller e q)) choice.same) (ap (λ q. pieces_after caller q past.pieces) choice.same);
    }
  where
    either_way : (b : Bool) (v w : World) → w ≡ v → cond b v w ≡ v
    either_way true v w h = refl
    either_way false v w h = h

-- ---- installations

abbrev pub AnswersInstall : ℕ → Oid → (Past → Type 0) → List ℕ → Past → Type 0
AnswersInstall caller x After text past = AnswersLine (λ wanting k. answer_wish wanting k caller (wish.Install x)) After text past

pub answers_install : (After : Past → Type 0) (caller : ℕ) (x : Oid) (piece : PieceParts) (r : Reply) (text : List ℕ) (past : Past) → past.pieces caller x ≡ Some piece →
    IsAnswered (now past) (entry_of caller (event.Install piece) r) → text ≡ caller_text caller (piece_text x piece r) →
    After (more past (entry_of caller (event.Install piece) r) (cond (is_no_memory r) past.pieces (keeping caller x None past.pieces))) → AnswersInstall caller x After text past
answers_install After caller x piece r text past found answered printed after =
    let w : World = now past in
    let e : Event = event.Install piece in
    let choice : Chosen w caller e r = chosen w caller e r answered in
    let pieces : Reply → Pieces = λ q. cond (is_no_memory q) past.pieces (keeping caller x None past.pieces) in
    let whole : answer_wish choice.wanting (left_by past) caller (wish.Install x) ≡ answer_piece (left_by past) caller x piece (reply_to choice.wanting w caller e) =
    ap (answer_install choice.wanting (left_by past) caller x) found in
    record {
      wanting = choice.wanting;
      after = more past (entry_of caller e r) (pieces r);
      stands = after;
      text_is = printed ∙ ap (λ q. caller_text caller (piece_text x piece q)) choice.same ∙ sym (ap (λ (a : Answered). a.text) whole);
      left = kept_same _ _ _ _ (run-append (start_world past.start) past.es (entry_of caller e r) ∙ ap (λ q. world_after w (entry_of caller e q)) choice.same) (ap pieces choice.same)
          ∙ sym (ap (λ (a : Answered). a.after) whole);
    }

pub answers_none : (After : Past → Type 0) (caller : ℕ) (x : Oid) (past : Past) → past.pieces caller x ≡ None → After past → AnswersInstall caller x After (caller_text caller no_piece) past
answers_none After caller x past none after =
    let whole : answer_wish false (left_by past) caller (wish.Install x) ≡ record { text = caller_text caller no_piece; after = left_by past } =
    ap (answer_install false (left_by past) caller x) none in
    record {
      wanting = false;
      after = past;
      stands = after;
      text_is = sym (ap (λ (a : Answered). a.text) whole);
      left = sym (ap (λ (a : Answered). a.after) whole);
    }

-- ---- what the shell tells

-- an event that carries no piece may always stand
pub may_stand : (es : List Entry) (e : Event) → IsWithoutPiece e → MayStand es e
may_stand es event.Begin h = tt
may_stand es (event.Next kind after when) h = tt
may_stand es (event.Read x when) h = tt
may_stand es (event.Write ask) h = tt
may_stand es event.Commit h = tt
may_stand es event.Abort h = tt
may_stand es event.Mark h = tt
may_stand es (event.Lift x) h = tt
may_stand es (event.Install piece) h = absurd h
may_stand es event.Stats h = tt

abbrev pub TellsEvent : ShellParts → ℕ → Event → Past → Told → Type 0
TellsEvent t caller e past tell = AnswersEvent caller e (Stands t) (caller_text caller (told_text (asked_by e) tell)) past

pub tells_lifted : (s t : ShellParts) (caller : ℕ) (e : Event) (l : LiftedParts) (tell : Told) (past : Past) → Stands s past → IsAnswered (now past) (entry_of caller e (reply.Lifted l)) →
    StandsFor past.start t.core (past.es ++ entry_of caller e (reply.Lifted l) ∷ []) → LiftIsTold caller l (pieces_in s.places) (pieces_in t.places) tell → TellsEvent t caller e past tell
tells_lifted s t caller e l tell past st answered store (inl kept) =
    subst (TellsEvent t caller e past) (sym kept.0)
    (answers_event (Stands t) caller e (reply.Lifted l) past answered
    (stands_with s t past (entry_of caller e (reply.Lifted l)) caller l.x (Some (piece_of l)) st store kept.1 (λ piece is. subst (IsPieceOf (past.es ++ entry_of caller e (reply.Lifted l) ∷ [])) (same_Some _ _ is) (last_piece past.es caller e l))))
tells_lifted s t caller e l tell past st answered store (inr none) =
    subst (TellsEvent t caller e past) (sym none.0)
    (answers_wanting (Stands t) caller e (reply.Lifted l) past answered refl (stands_more s t past (entry_of caller e (reply.Lifted l)) st store none.1))

pub tells_version : (s t : ShellParts) (caller : ℕ) (e : Event) (o : Object) (tell : Told) (past : Past) → Stands s past → IsAnswered (now past) (entry_of caller e (reply.Version o)) →
    StandsFor past.start t.core (past.es ++ entry_of caller e (reply.Version o) ∷ []) → pieces_in t.places ≡ pieces_in s.places → VersionIsTold o tell → TellsEvent t caller e past tell
tells_version s t caller e o tell past st answered store kept (inl is) =
    subst (TellsEvent t caller e past) (sym is)
    (answers_event (Stands t) caller e (reply.Version o) past answered (stands_more s t past (entry_of caller e (reply.Version o)) st store kept))
tells_version s t caller e o tell past st answered store kept (inr none) =
    subst (TellsEvent t caller e past) (sym none)
    (answers_wanting (Stands t) caller e (reply.Version o) past answered refl (stands_more s t past (entry_of caller e (reply.Version o)) st store kept))

-- any other answer is told as it is
abbrev pub IsOther : Answer → Type 0
IsOther (answer.Lifted l) = ⊥
IsOther a = Unit {0}

same_pieces : (caller : ℕ) (a : Answer) (pieces : Pieces) → IsOther a → pieces_after caller (reply_of a) pieces ≡ pieces
same_pieces caller (answer.Begun start) pieces h = refl
same_pieces caller (answer.Id id) pieces h = refl
same_pieces caller (answer.Version found) pieces h = refl
same_pieces caller (answer.Wrote wrote) pieces h = refl
same_pieces caller (answer.Committed ts) pieces h = refl
same_pieces caller answer.Aborted pieces h = refl
same_pieces caller (answer.Marked marked) pieces h = refl
same_pieces caller (answer.Lifted l) pieces h = absurd h
same_pieces caller answer.Installed pieces h = refl
same_pieces caller (answer.NotInstalled piece) pieces h = refl
same_pieces caller (answer.Stats stats) pieces h = refl
same_pieces caller (answer.Refused why) pieces h = refl

pub tells_other : (s t : ShellParts) (caller : ℕ) (e : Event) (a : Answer) (past : Past) → IsOther a → Stands s past → IsAnswered (now past) (entry_of caller e (reply_of a)) →
    StandsFor past.start t.core (past.es ++ entry_of caller e (reply_of a) ∷ []) → pieces_in t.places ≡ pieces_in s.places → TellsEvent t caller e past (told.Answer a)
tells_other s t caller e a past other st answered store kept =
    answers_event (Stands t) caller e (reply_of a) past answered
    (subst (λ (p : Pieces). Stands t (more past (entry_of caller e (reply_of a)) p)) (sym (same_pieces caller a past.pieces other))
    (stands_more s t past (entry_of caller e (reply_of a)) st store kept))

-- a piece was sent
abbrev pub TellsInstall : ShellParts → ℕ → Oid → Past → Told → Type 0
TellsInstall t caller x past tell = AnswersInstall caller x (Stands t) (caller_text caller (told_text asked.Nothing tell)) past

pub tells_sent : (s t : ShellParts) (caller : ℕ) (x : Oid) (piece : PieceParts) (r : Reply) (tell : Told) (past : Past) → Stands s past → past.pieces caller x ≡ Some piece → IsAnswered (now past) (entry_of caller (event.Install piece) r) →
    StandsFor past.start t.core (past.es ++ entry_of caller (event.Install piece) r ∷ []) → told_text asked.Nothing tell ≡ piece_text x piece r →
    pieces_in t.places ≡ cond (is_no_memory r) (pieces_in s.places) (keeping caller x None (pieces_in s.places)) → TellsInstall t caller x past tell
tells_sent s t caller x piece r tell past st found answered store said kept =
    answers_install (Stands t) caller x piece r _ past found answered (ap (caller_text caller) said) (by_test (is_no_memory r) kept)
  where
    by_test : (b : Bool) → pieces_in t.places ≡ cond b (pieces_in s.places) (keeping caller x None (pieces_in s.places)) → Stands t (more past (entry_of caller (event.Install piece) r) (cond b past.pieces (keeping caller x None past.pieces)))
    by_test true same = stands_more s t past (entry_of caller (event.Install piece) r) st store same
    by_test false same = stands_with s t past (entry_of caller (event.Install piece) r) caller x None st store same (λ p is. absurd cc)

-- what is neither installed nor handed back
abbrev pub IsLeft : Answer → Type 0
IsLeft answer.Installed = ⊥
IsLeft (answer.NotInstalled piece) = ⊥
IsLeft a = Unit {0}

pub left_text : (x : Oid) (piece : PieceParts) (a : Answer) → IsLeft a → answer_text asked.Nothing (reply_of a) ≡ piece_text x piece (reply_of a)
left_text x piece (answer.Begun start) h = refl
left_text x piece (answer.Id id) h = refl
left_text x piece (answer.Version found) h = refl
left_text x piece (answer.Wrote wrote) h = refl
left_text x piece (answer.Committed ts) h = refl
left_text x piece answer.Aborted h = refl
left_text x piece (answer.Marked marked) h = refl
left_text x piece (answer.Lifted l) h = refl
left_text x piece answer.Installed h = absurd h
left_text x piece (answer.NotInstalled back) h = absurd h
left_text x piece (answer.Stats stats) h = refl
left_text x piece (answer.Refused why) h = refl

with_memory : (why : Refused) → why ≢ refused.NoMemory → is_no_memory (reply.Refused why) ≡ false
with_memory refused.NoMemory h = absurd (h refl)
with_memory refused.NoTxn h = refl
with_memory refused.AlreadyOpen h = refl
with_memory (refused.Missing x) h = refl
with_memory (refused.Conflict x rival) h = refl
with_memory (refused.HasEdges v) h = refl
with_memory (refused.TimeAhead t start) h = refl
with_memory refused.ClockEnd h = refl
with_memory refused.TooMany h = refl
with_memory refused.IdEnd h = refl
with_memory (refused.Stale cut) h = refl

pub left_memory : (piece : PieceParts) (a : Answer) → IsLeft a → IsHandedBack piece a → is_no_memory (reply_of a) ≡ false
left_memory piece (answer.Begun start) h back = refl
left_memory piece (answer.Id id) h back = refl
left_memory piece (answer.Version found) h back = refl
left_memory piece (answer.Wrote wrote) h back = refl
left_memory piece (answer.Committed ts) h back = refl
left_memory piece answer.Aborted h back = refl
left_memory piece (answer.Marked marked) h back = refl
left_memory piece (answer.Lifted l) h back = refl
left_memory piece answer.Installed h back = absurd h
left_memory piece (answer.NotInstalled p) h back = absurd h
left_memory piece (answer.Stats stats) h back = refl
left_memory piece (answer.Refused why) h back = with_memory why back

-- the piece that was taken out is sent
pub tells_taken : (s t : ShellParts) (caller : ℕ) (x : Oid) (piece : PieceParts) (r : Reply) (tell : Told) → pieces_in s.places caller x ≡ Some piece →
    ((b : Start) (es : List Entry) → StandsFor b s.core es → MayStand es (event.Install piece) → IsAnswered (run (start_world b) es) (entry_of caller (event.Install piece) r)) →
    ((b : Start) (es : List Entry) → StandsFor b s.core es → MayStand es (event.Install piece) → StandsFor b t.core (es ++ entry_of caller (event.Install piece) r ∷ [])) →
    told_text asked.Nothing tell ≡ piece_text x piece r → pieces_in t.places ≡ cond (is_no_memory r) (pieces_in s.places) (keeping caller x None (pieces_in s.places)) →
    (past : Past) → Stands s past → TellsInstall t caller x past tell
tells_taken s t caller x piece r tell took answered stands said kept past st =
    let found : past.pieces caller x ≡ Some piece = ap (λ (p : Pieces). p caller x) (sym st.same) ∙ took in
    let may = st.pieces caller x piece found in
    tells_sent s t caller x piece r tell past st found (answered past.start past.es st.store may) (stands past.start past.es st.store may) said kept

-- there is none
pub tells_none : (s t : ShellParts) (caller : ℕ) (x : Oid) → pieces_in s.places caller x ≡ None → t.core ≡ s.core → pieces_in t.places ≡ keeping caller x None (pieces_in s.places) → (past : Past) → Stands s past → TellsInstall t caller x past told.NoPiece
tells_none s t caller x none core kept past st =
    let found : past.pieces caller x ≡ None = ap (λ (p : Pieces). p caller x) (sym st.same) ∙ none in
    answers_none (Stands t) caller x past found (record {
      store = subst (λ k. StandsFor past.start k past.es) (sym core) st.store;
      same = kept ∙ nothing_taken caller x (pieces_in s.places) none ∙ st.same;
      pieces = st.pieces;
    })
  where
    nothing_taken : (caller : ℕ) (x : Oid) (pieces : Pieces) → pieces caller x ≡ None → keeping caller x None pieces ≡ pieces
    nothing_taken caller x pieces is = fun_ext (λ c. fun_ext (λ y. by_test c y (nat_eq c caller && same_oid y x) refl))
      where
        caller_is : (c : ℕ) → nat_eq c caller ≡ true → c ≡ caller
        caller_is c h = grind (arith, nat_tests)

        by_test : (c : ℕ) (y : Oid) (b : Bool) → (nat_eq c caller && same_oid y x) ≡ b → cond b None (pieces c y) ≡ pieces c y
        by_test c y true h = sym (ap (λ d. pieces d y) (caller_is c (and_left_true _ _ h)) ∙ ap (pieces caller) (same_id y x (and_right_true (nat_eq c caller) _ h)) ∙ is)
        by_test c y false h = refl

-- some past is stood for after any line that was answered
pub some_past : {answer : Bool → Kept → Answered} {After : Past → Type 0} {text : List ℕ} {past : Past} → AnswersLine answer After text past → (p : Past) × After p
some_past a = (a.after, a.stands)

pub is_left : (a : Answer) → (a ≡ answer.Installed → ⊥) → ((piece : PieceParts) → a ≡ answer.NotInstalled piece → ⊥) → IsLeft a
is_left (answer.Begun start) i n = tt
is_left (answer.Id id) i n = tt
is_left (answer.Version found) i n = tt
is_left (answer.Wrote wrote) i n = tt
is_left (answer.Committed ts) i n = tt
is_left answer.Aborted i n = tt
is_left (answer.Marked marked) i n = tt
is_left (answer.Lifted l) i n = tt
is_left answer.Installed i n = absurd (i refl)
is_left (answer.NotInstalled piece) i n = absurd (n piece refl)
is_left (answer.Stats stats) i n = tt
is_left (answer.Refused why) i n = tt

pub is_other : (a : Answer) → ((l : LiftedParts) → a ≡ answer.Lifted l → ⊥) → IsOther a
is_other (answer.Begun start) n = tt
is_other (answer.Id id) n = tt
is_other (answer.Version found) n = tt
is_other (answer.Wrote wrote) n = tt
is_other (answer.Committed ts) n = tt
is_other answer.Aborted n = tt
is_other (answer.Marked marked) n = tt
is_other (answer.Lifted l) n = absurd (n l refl)
is_other answer.Installed n = tt
is_other (answer.NotInstalled piece) n = tt
is_other (answer.Stats stats) n = tt
is_other (answer.Refused why) n = tt

-- where nothing is asked, no version is told
pub plain_nothing : (a : Answer) → IsAnswerTo asked.Nothing (reply_of a) → IsPlain asked.Nothing a
plain_nothing (answer.Begun start) h = h
plain_nothing (answer.Id id) h = h
plain_nothing (answer.Version found) h = h
plain_nothing (answer.Wrote wrote) h = h
plain_nothing (answer.Committed ts) h = h
plain_nothing answer.Aborted h = h
plain_nothing (answer.Marked marked) h = h
plain_nothing (answer.Lifted l) h = h
plain_nothing answer.Installed h = h
plain_nothing (answer.NotInstalled piece) h = h
plain_nothing (answer.Stats stats) h = h
plain_nothing (answer.Refused why) h = h

pub plain_other : (which : Asked) (a : Answer) → ((found : _) → a ≡ answer.Version found → ⊥) → IsAnswerTo which (reply_of a) → IsPlain which a
plain_other which (answer.Begun start) n h = h
plain_other which (answer.Id id) n h = h
plain_other which (answer.Version found) n h = absurd (n found refl)
plain_other which (answer.Wrote wrote) n h = h
plain_other which (answer.Committed ts) n h = h
plain_other which answer.Aborted n h = h
plain_other which (answer.Marked marked) n h = h
plain_other which (answer.Lifted l) n h = h
plain_other which answer.Installed n h = h
plain_other which (answer.NotInstalled piece) n h = h
plain_other which (answer.Stats stats) n h = h
plain_other which (answer.Refused why) n h = h

-- what has no piece may be asked at all times
pub may_ask : (k : State) (e : Event) → IsWithoutPiece e → MayAsk k e
may_ask k event.Begin h = tt
may_ask k (event.Next kind after when) h = tt
may_ask k (event.Read x when) h = tt
may_ask k (event.Write ask) h = tt
may_ask k event.Commit h = tt
may_ask k event.Abort h = tt
may_ask k event.Mark h = tt
may_ask k (event.Lift x) h = tt
may_ask k (event.Install piece) h = absurd h
may_ask k event.Stats h = tt

-- and of what the shell stands for each piece that is kept
pub is_of_some : (s : ShellParts) (past : Past) (caller : ℕ) (x : Oid) (piece : PieceParts) → Stands s past → pieces_in s.places caller x ≡ Some piece → IsOfSome s.core piece
is_of_some s past caller x piece st took = record {
  start = past.start;
  entries = past.es;
  stood = st.store;
  of = st.pieces caller x piece (ap (λ (p : Pieces). p caller x) (sym st.same) ∙ took);
}
