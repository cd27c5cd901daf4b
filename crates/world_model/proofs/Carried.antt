-- Each piece of a legal history is right for the world that the history comes to.
use Rattle.std.proofs.Common.{◌≡◌, ℕ, ◌≤◌, List, [], ◌∷◌, ◌++◌, Option, Some, None, Bool, true, false, cond, refl, sym, ap, subst, ◌∙◌, arith, inl, inr}
use Rattle.std.specs.Prelude.{nat_eq}
use Rattle.std.proofs.lemmas.List.{append_assoc, append-nil}
use Rattle.anchor_store.specs.Blocks.{older_deltas}
use Rattle.anchor_store.specs.Groups.{AreDescending}
use Rattle.graph_value.specs.declared.id.Oid.{Oid}
use Rattle.txn_manager.specs.declared.refusals.BeginRefused.{BeginRefused}
use Rattle.txn_manager.specs.Transactions.{begin_refusal}
use Rattle.undo_delta.specs.Touch.{same_oid}
use Rattle.undo_delta.specs.declared.ask.Ask.{Ask}
use Rattle.undo_delta.specs.declared.op.Op.{Op}
use Rattle.world_model.specs.declared.answer.Refused.{Refused}
use Rattle.world_model.specs.declared.answer.Refused.TheVariants.{Missing, Stale}
use Rattle.world_model.specs.declared.event.Event.{Event}
use Rattle.world_model.specs.declared.event.Event.TheVariants as event
use Rattle.world_model.specs.declared.event.Kind.{Kind}
use Rattle.world_model.specs.declared.event.When.{When}
use Rattle.world_model.specs.Op.{changes, is_given}
use Rattle.world_model.specs.World.{World, Txn, Start, InOrder, start_world, txn_of, transactions_of, view_of, cut_of, cut_in, mark}
use Rattle.world_model.specs.Asked.{op_of}
use Rattle.world_model.specs.Refusals.{write_refusal}
use Rattle.world_model.specs.Views.{time_ahead}
use Rattle.world_model.specs.Pieces.{LiftedParts, PieceParts}
use Rattle.world_model.specs.Placement.{lifted_of, piece_of, IsRight}
use Rattle.world_model.specs.Reply.{Reply}
use Rattle.world_model.specs.Reply as reply
use Rattle.world_model.specs.Step.{Outcome, step, begin_step, seen_step, next_step, read_step, write_step, allowed_write_step, effect_step, commit_step, committed, abort_step, answered, refused, installed_world}
use Rattle.world_model.specs.History.{Entry, IsStart, IsLegal, IsAnswered, AreAnswered, IsPieceOf, MayStand, MayAllStand, is_no_memory, no_memory, run, world_after}
use Rattle.world_model.proofs.Histories.{run_keeps_order, start_in_order, run-append, answered-append}
use Rattle.world_model.proofs.Marks.{mark_below, run-more, run_mark, step_mark}
use Rattle.world_model.proofs.Growing.{Grown, run_grown}
use Rattle.world_model.proofs.Pieced.{piece_right, lifted_descends}

-- ---- what a reply of lifted deltas tells

-- only a lift is answered so, and by what it copies
pub record IsLift (w : World) (l : LiftedParts) : Type 0 where
  pub x : Oid
  pub given : is_given w.vertices w.edges x ≡ true
  pub same : l ≡ lifted_of w x

abbrev Tells : World → Reply → Type 0
Tells w r = (l : LiftedParts) → r ≡ reply.Lifted l → IsLift w l

begins : (w : World) (c : ℕ) (r : Option BeginRefused) → Tells w (begin_step w c r).reply
begins w c None = λ l e. absurd cc
begins w c (Some why) = λ l e. absurd cc

found : (w : World) (x : Option Refused) (o : Rattle.graph_record.specs.declared.object.Object.Object) → Tells w (seen_step w x (reply.Version o)).reply
found w None o = λ l e. absurd cc
found w (Some why) o = λ l e. absurd cc

counted : (w : World) (x : Option Refused) (n : Option ℕ) → Tells w (seen_step w x (reply.Id n)).reply
counted w None n = λ l e. absurd cc
counted w (Some why) n = λ l e. absurd cc

searches : (w : World) (kind : Kind) (after : Option ℕ) (when : When) (p : Option Txn) → Tells w (next_step w kind after when p).reply
searches w kind after when None = λ l e. absurd cc
searches w kind after when (Some p) = counted w (time_ahead p when) _

reads : (w : World) (x : Oid) (when : When) (p : Option Txn) → Tells w (read_step w x when p).reply
reads w x when None = λ l e. absurd cc
reads w x when (Some p) = found w (time_ahead p when) _

effects : (w : World) (c : ℕ) (ask : Ask) (op : Op) (b : Bool) → Tells w (effect_step w c ask op b).reply
effects w c ask op true = λ l e. absurd cc
effects w c ask op false = λ l e. absurd cc

allowed : (w : World) (p : Txn) (c : ℕ) (ask : Ask) (r : Option Refused) → Tells w (allowed_write_step w p c ask r).reply
allowed w p c ask None = effects w c ask (op_of w (view_of w p) ask) (changes (op_of w (view_of w p) ask) (view_of w p))
allowed w p c ask (Some why) = λ l e. absurd cc

writes : (w : World) (c : ℕ) (ask : Ask) (p : Option Txn) → Tells w (write_step w c ask p).reply
writes w c ask None = λ l e. absurd cc
writes w c ask (Some p) = allowed w p c ask (write_refusal w p ask)

ends : (w : World) (c start : ℕ) (ops : List Op) → Tells w (committed w c start ops).reply
ends w c start [] = λ l e. absurd cc
ends w c start (op ∷ ops) = λ l e. absurd cc

commits : (w : World) (c : ℕ) (p : Option Txn) → Tells w (commit_step w c p).reply
commits w c None = λ l e. absurd cc
commits w c (Some p) = ends w c p.start p.ops

aborts : (w : World) (c : ℕ) (p : Option Txn) → Tells w (abort_step w c p).reply
aborts w c None = λ l e. absurd cc
aborts w c (Some p) = λ l e. absurd cc

lifts : (w : World) (x : Oid) (given : Bool) → is_given w.vertices w.edges x ≡ given → Tells w (cond given (answered w (reply.Lifted (lifted_of w x))) (refused w (Missing x))).reply
lifts w x true h = λ l e. let same : lifted_of w x ≡ l = cc in record { x = x; given = h; same = sym same }
lifts w x false h = λ l e. absurd cc

installs : (w : World) (piece : PieceParts) (fresh : Bool) → Tells w (cond fresh (record { reply = reply.Installed; world = installed_world w piece }) (refused w (Stale (cut_of w piece.x)))).reply
installs w piece true = λ l e. absurd cc
installs w piece false = λ l e. absurd cc

step_tells : (w : World) (c : ℕ) (e : Event) → Tells w (step w c e).reply
step_tells w c event.Begin = begins w c (begin_refusal (transactions_of w) c)
step_tells w c (event.Next kind after when) = searches w kind after when (txn_of w c)
step_tells w c (event.Read x when) = reads w x when (txn_of w c)
step_tells w c (event.Write ask) = writes w c ask (txn_of w c)
step_tells w c event.Commit = commits w c (txn_of w c)
step_tells w c event.Abort = aborts w c (txn_of w c)
step_tells w c event.Mark = λ l e. absurd cc
step_tells w c (event.Lift x) = lifts w x (is_given w.vertices w.edges x) refl
step_tells w c (event.Install piece) = installs w piece (nat_eq piece.cut (cut_of w piece.x))
step_tells w c event.Stats = λ l e. absurd cc

entry_tells : (w : World) (e : Entry) → IsAnswered w e → Tells w e.reply
entry_tells w e (inl same) l lifted = step_tells w e.caller e.event l (sym same ∙ lifted)
entry_tells w e (inr wanting) l lifted = let clash : no_memory ≡ reply.Lifted l = sym wanting.0 ∙ lifted in absurd cc

-- ---- parts of histories

answered_at : (w : World) (early late : List Entry) (e : Entry) → AreAnswered w (early ++ e ∷ late) → IsAnswered (run w early) e
unfolding run AreAnswered
answered_at w [] late e h = h.0
answered_at w (d ∷ early) late e h = answered_at (world_after w d) early late e h.1

-- a piece was built of what was lifted from an earlier world
record IsOf (s : Start) (es : List Entry) (piece : PieceParts) : Type 0 where
  pub early : List Entry
  pub rest : List Entry
  pub parts : es ≡ early ++ rest
  pub x : Oid
  pub given : is_given (run (start_world s) early).vertices (run (start_world s) early).edges x ≡ true
  pub piece_is : piece ≡ piece_of (lifted_of (run (start_world s) early) x)

piece_of_early : (s : Start) (es : List Entry) (piece : PieceParts) → AreAnswered (start_world s) es → IsPieceOf es piece → IsOf s es piece
piece_of_early s es piece h of =
    let before : World = run (start_world s) of.early in
    let tells = entry_tells before of.entry (answered_at (start_world s) of.early of.late of.entry (subst (AreAnswered (start_world s)) of.parts h)) of.lifted of.answered in
    record { early = of.early; rest = of.entry ∷ of.late; parts = of.parts; x = tells.x; given = tells.given; piece_is = of.built ∙ ap piece_of tells.same }

-- the world that a history comes to is later than that of its front
record IsLater (w v : World) : Type 0 where
  pub order : InOrder w
  pub later : InOrder v
  pub grown : Grown w v
  pub rises : mark w ≤ mark v

front_later : (s : Start) (es early rest : List Entry) → IsStart s → es ≡ early ++ rest → IsLater (run (start_world s) early) (run (start_world s) es)
front_later s es early rest h parts =
    let w : World = run (start_world s) early in
    let o : InOrder w = run_keeps_order (start_world s) early (start_in_order s h) in
    let same : run w rest ≡ run (start_world s) es = sym (ap (run (start_world s)) parts ∙ run-more (start_world s) early rest) in
    record {
      order = o;
      later = run_keeps_order (start_world s) es (start_in_order s h);
      grown = subst (Grown w) same (run_grown w rest);
      rises = subst (λ (v : World). mark w ≤ mark v) same (run_mark w rest o);
    }

-- ---- no cut is above the mark

abbrev CutsLow : World → Type 0
CutsLow w = (x : Oid) → cut_of w x ≤ mark w

same_installs : (w v : World) → v.installs ≡ w.installs → mark w ≤ mark v → CutsLow w → CutsLow v
same_installs w v same rises low x =
    let before : cut_of w x ≤ mark w = low x in
    subst (λ is. cut_in is x ≤ mark v) (sym same) (omega (arith, before, rises))

-- the piece's mark is at most that of the world which its history comes to
piece_low : (s : Start) (es : List Entry) (piece : PieceParts) → IsStart s → AreAnswered (start_world s) es → IsPieceOf es piece → piece.mark ≤ mark (run (start_world s) es)
piece_low s es piece h answers of =
    let from = piece_of_early s es piece answers of in
    subst (λ (p : PieceParts). p.mark ≤ mark (run (start_world s) es)) (sym from.piece_is) (front_later s es from.early from.rest h from.parts).rises

install_low : (w : World) (piece : PieceParts) → piece.mark ≤ mark w → CutsLow w → CutsLow (installed_world w piece)
install_low w piece h low x =
    elim (same_oid piece.x x) as (λ b. cond b piece.mark (cut_of w x) ≤ mark w) [
      | true ↦ h
      | false ↦ low x
    ]

installs_low : (w : World) (piece : PieceParts) → piece.mark ≤ mark w → CutsLow w → (fresh : Bool) → CutsLow (cond fresh (record { reply = reply.Installed; world = installed_world w piece }) (refused w (Stale (cut_of w piece.x)))).world
installs_low w piece h low true = install_low w piece h low
installs_low w piece h low false = low

-- ---- nothing but an install moves anything into history

abbrev Keeps : World → Outcome → Type 0
Keeps w o = o.world.installs ≡ w.installs

begun_keeps : (w : World) (c : ℕ) (r : Option BeginRefused) → Keeps w (begin_step w c r)
begun_keeps w c None = refl
begun_keeps w c (Some why) = refl

seen_keeps : (w : World) (why : Option Refused) (r : Reply) → Keeps w (seen_step w why r)
seen_keeps w None r = refl
seen_keeps w (Some why) r = refl

search_keeps : (w : World) (kind : Kind) (after : Option ℕ) (when : When) (p : Option Txn) → Keeps w (next_step w kind after when p)
search_keeps w kind after when None = refl
search_keeps w kind after when (Some p) = seen_keeps w (time_ahead p when) _

read_keeps : (w : World) (x : Oid) (when : When) (p : Option Txn) → Keeps w (read_step w x when p)
read_keeps w x when None = refl
read_keeps w x when (Some p) = seen_keeps w (time_ahead p when) _

effect_keeps : (w : World) (c : ℕ) (ask : Ask) (op : Op) (b : Bool) → Keeps w (effect_step w c ask op b)
effect_keeps w c ask op true = refl
effect_keeps w c ask op false = refl

allowed_keeps : (w : World) (p : Txn) (c : ℕ) (ask : Ask) (r : Option Refused) → Keeps w (allowed_write_step w p c ask r)
allowed_keeps w p c ask None = effect_keeps w c ask (op_of w (view_of w p) ask) (changes (op_of w (view_of w p) ask) (view_of w p))
allowed_keeps w p c ask (Some why) = refl

write_keeps : (w : World) (c : ℕ) (ask : Ask) (p : Option Txn) → Keeps w (write_step w c ask p)
write_keeps w c ask None = refl
write_keeps w c ask (Some p) = allowed_keeps w p c ask (write_refusal w p ask)

end_keeps : (w : World) (c start : ℕ) (ops : List Op) → Keeps w (committed w c start ops)
end_keeps w c start [] = refl
end_keeps w c start (op ∷ ops) = refl

commit_keeps : (w : World) (c : ℕ) (p : Option Txn) → Keeps w (commit_step w c p)
commit_keeps w c None = refl
commit_keeps w c (Some p) = end_keeps w c p.start p.ops

abort_keeps : (w : World) (c : ℕ) (p : Option Txn) → Keeps w (abort_step w c p)
abort_keeps w c None = refl
abort_keeps w c (Some p) = refl

lift_keeps : (w : World) (x : Oid) (given : Bool) → Keeps w (cond given (answered w (reply.Lifted (lifted_of w x))) (refused w (Missing x)))
lift_keeps w x true = refl
lift_keeps w x false = refl

-- an event, that may stand behind a history, leaves no cut above the mark
step_low : (s : Start) (es : List Entry) (c : ℕ) (e : Event) → IsStart s → AreAnswered (start_world s) es → MayStand es e → CutsLow (run (start_world s) es) → CutsLow (step (run (start_world s) es) c e).world
step_low s es c e h answers may low = by_event e may
  where
    kept : (d : Event) → Keeps (run (start_world s) es) (step (run (start_world s) es) c d) → CutsLow (step (run (start_world s) es) c d).world
    kept d same = same_installs (run (start_world s) es) (step (run (start_world s) es) c d).world same (step_mark (run (start_world s) es) c d (run_keeps_order (start_world s) es (start_in_order s h))) low

    by_event : (d : Event) → MayStand es d → CutsLow (step (run (start_world s) es) c d).world
    by_event event.Begin m = kept event.Begin (begun_keeps (run (start_world s) es) c (begin_refusal (transactions_of (run (start_world s) es)) c))
    by_event (event.Next kind after when) m = kept (event.Next kind after when) (search_keeps (run (start_world s) es) kind after when (txn_of (run (start_world s) es) c))
    by_event (event.Read x when) m = kept (event.Read x when) (read_keeps (run (start_world s) es) x when (txn_of (run (start_world s) es) c))
    by_event (event.Write ask) m = kept (event.Write ask) (write_keeps (run (start_world s) es) c ask (txn_of (run (start_world s) es) c))
    by_event event.Commit m = kept event.Commit (commit_keeps (run (start_world s) es) c (txn_of (run (start_world s) es) c))
    by_event event.Abort m = kept event.Abort (abort_keeps (run (start_world s) es) c (txn_of (run (start_world s) es) c))
    by_event event.Mark m = low
    by_event (event.Lift x) m = kept (event.Lift x) (lift_keeps (run (start_world s) es) x (is_given (run (start_world s) es).vertices (run (start_world s) es).edges x))
    by_event (event.Install piece) m = installs_low (run (start_world s) es) piece (piece_low s es piece h answers m) low (nat_eq piece.cut (cut_of (run (start_world s) es) piece.x))
    by_event event.Stats m = low

entry_low : (s : Start) (es : List Entry) (e : Entry) → IsStart s → AreAnswered (start_world s) es → MayStand es e.event → CutsLow (run (start_world s) es) → CutsLow (world_after (run (start_world s) es) e)
entry_low s es e h answers may low = pick (is_no_memory e.reply)
  where
    pick : (b : Bool) → CutsLow (cond b (run (start_world s) es) (step (run (start_world s) es) e.caller e.event).world)
    pick true = low
    pick false = step_low s es e.caller e.event h answers may low

run_low : (s : Start) (before es : List Entry) → IsStart s → AreAnswered (start_world s) before → AreAnswered (run (start_world s) before) es → MayAllStand before es → CutsLow (run (start_world s) before) → CutsLow (run (run (start_world s) before) es)
unfolding run AreAnswered MayAllStand
run_low s before [] h answers more may low = low
run_low s before (e ∷ es) h answers more may low =
    let next = run-append (start_world s) before e in
    subst (λ (w : World). CutsLow (run w es)) next
    (run_low s (before ++ e ∷ []) es h
    (answered-append (start_world s) before e answers more.0)
    (subst (λ (w : World). AreAnswered w es) (sym next) more.1)
    may.1
    (subst CutsLow (sym next) (entry_low s before e h answers may.0 low)))

-- no legal history comes to a cut above the mark
pub cuts_low : (s : Start) (es : List Entry) → IsStart s → IsLegal s es → (x : Oid) → cut_of (run (start_world s) es) x ≤ mark (run (start_world s) es)
unfolding run AreAnswered
cuts_low s es h legal = run_low s [] es h tt legal.answered legal.carried (λ x. omega arith)

-- ---- pieces are right

front_legal : (before early rest : List Entry) → MayAllStand before (early ++ rest) → MayAllStand before early
unfolding MayAllStand
front_legal before [] rest may = tt
front_legal before (e ∷ early) rest may = (may.0, front_legal (before ++ e ∷ []) early rest may.1)

front_answered : (w : World) (early rest : List Entry) → AreAnswered w (early ++ rest) → AreAnswered w early
unfolding AreAnswered
front_answered w [] rest h = tt
front_answered w (e ∷ early) rest h = (h.0, front_answered (world_after w e) early rest h.1)

-- one more entry that may stand behind a history
pub carried-append : (before es : List Entry) (e : Entry) → MayAllStand before es → MayStand (before ++ es) e.event → MayAllStand before (es ++ e ∷ [])
unfolding MayAllStand
carried-append before [] e may next = (subst (λ ds. MayStand ds e.event) (append-nil before) next, tt)
carried-append before (d ∷ es) e may next = (may.0, carried-append (before ++ d ∷ []) es e may.1 (subst (λ ds. MayStand ds e.event) (sym (append_assoc before (d ∷ []) es)) next))

-- the front of a legal history is legal
pub front_is_legal : (s : Start) (es early rest : List Entry) → es ≡ early ++ rest → IsLegal s es → IsLegal s early
front_is_legal s es early rest parts legal = record {
  answered = front_answered (start_world s) early rest (subst (AreAnswered (start_world s)) parts legal.answered);
  carried = front_legal [] early rest (subst (MayAllStand []) parts legal.carried);
}

pub pieces_right : (s : Start) (es : List Entry) (piece : PieceParts) → IsStart s → IsLegal s es → IsPieceOf es piece → IsRight (run (start_world s) es) piece
pieces_right s es piece h legal of =
    let from = piece_of_early s es piece legal.answered of in
    let w : World = run (start_world s) from.early in
    let later = front_later s es from.early from.rest h from.parts in
    subst (IsRight (run (start_world s) es)) (sym from.piece_is)
    (piece_right w (run (start_world s) es) from.x later.order later.later later.grown later.rises (mark_below w later.order)
    (cuts_low s from.early h (front_is_legal s es from.early from.rest from.parts legal) from.x) from.given)

-- whatever a lift of a legal history told can be built into a piece
pub lifted_builds : (s : Start) (es : List Entry) (c : ℕ) (e : Event) (l : LiftedParts) → IsStart s → IsLegal s es → IsAnswered (run (start_world s) es) (record { caller = c; event = e; reply = reply.Lifted l }) →
    AreDescending (l.deltas ++ older_deltas l.older)
lifted_builds s es c e l h legal answered_so =
    let w : World = run (start_world s) es in
    let lift : IsLift w l = entry_tells w (record { caller = c; event = e; reply = reply.Lifted l }) answered_so l refl in
    subst (λ (k : LiftedParts). AreDescending (k.deltas ++ older_deltas k.older)) (sym lift.same)
    (lifted_descends w lift.x (run_keeps_order (start_world s) es (start_in_order s h)) (cuts_low s es h legal lift.x))
