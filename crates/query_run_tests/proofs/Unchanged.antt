-- Want of memory may stand in the place of a write that changes nothing: both leave the world as it is.
use Rattle.std.proofs.Common.{◌≡◌, ℕ, List, [], ◌∷◌, ◌++◌, Option, Some, None, Bool, true, false, refl, sym, ap, subst, ◌∙◌, inl, inr}
use Rattle.std.specs.Prelude.{not}
use Rattle.undo_delta.specs.declared.ask.Ask.{Ask}
use Rattle.undo_delta.specs.declared.ask.Ask.TheVariants.{CreateVertex, DeleteVertex, AddLabel, RemoveLabel, SetVertexProp, CreateEdge, DeleteEdge, SetEdgeProp}
use Rattle.undo_delta.specs.declared.op.Op.{Op}
use Rattle.world_model.specs.declared.answer.Refused.{Refused}
use Rattle.world_model.specs.declared.event.Event.TheVariants as event
use Rattle.world_model.specs.Asked.{op_of, wrote_of}
use Rattle.world_model.specs.History.{AreAnswered, Entry, IsAnswered, is_refused, may_want, no_memory, run, world_after}
use Rattle.world_model.specs.Op.{changes}
use Rattle.world_model.specs.Refusals.{write_refusal}
use Rattle.world_model.specs.Reply as reply
use Rattle.world_model.specs.Step.{Outcome, allowed_write_step, answered, effect_step, step, unchanged, write_step}
use Rattle.world_model.specs.World.{Start, Txn, World, start_world, txn_of, view_of}
use Rattle.world_model.proofs.Carried.{carried-append, front_is_legal}
use Rattle.world_model.proofs.Histories.{answered-append, run-append}
use Rattle.front_core.specs.Keeps.{Keeps, StandsFor}
use Rattle.front_core.specs.declared.state.State.{State}
use Rattle.store_pass.proofs.Alone.{entry}

-- a write that changes something isn't answered as one that doesn't
something_made : (w : World) (ask : Ask) → unchanged ≡ reply.Wrote (wrote_of w ask) → ⊥
something_made w CreateVertex e = cc
something_made w (DeleteVertex v) e = cc
something_made w (AddLabel v name) e = cc
something_made w (RemoveLabel v name) e = cc
something_made w (SetVertexProp v name value) e = cc
something_made w (CreateEdge from kind to) e = cc
something_made w (DeleteEdge e) same = cc
something_made w (SetEdgeProp e name value) same = cc

-- where a write is answered as one that changes nothing, the world stays
quiet_write : (w : World) (c : ℕ) (ask : Ask) → unchanged ≡ (step w c (event.Write ask)).reply → step w c (event.Write ask) ≡ answered w unchanged
quiet_write w c ask = by_txn (txn_of w c)
  where
    by_effect : (op : Op) (b : Bool) → unchanged ≡ (effect_step w c ask op b).reply → effect_step w c ask op b ≡ answered w unchanged
    by_effect op true e = absurd (something_made w ask e)
    by_effect op false e = refl

    by_refusal : (p : Txn) (r : Option Refused) → unchanged ≡ (allowed_write_step w p c ask r).reply → allowed_write_step w p c ask r ≡ answered w unchanged
    by_refusal p (Some why) e = absurd cc
    by_refusal p None e = by_effect (op_of w (view_of w p) ask) (changes (op_of w (view_of w p) ask) (view_of w p)) e

    by_txn : (o : Option Txn) → unchanged ≡ (write_step w c ask o).reply → write_step w c ask o ≡ answered w unchanged
    by_txn None e = absurd cc
    by_txn (Some p) e = by_refusal p (write_refusal w p ask) e

last_answered : (w : World) (es : List Entry) (e : Entry) → AreAnswered w (es ++ e ∷ []) → IsAnswered (run w es) e
unfolding run AreAnswered
last_answered w [] e h = h.0
last_answered w (d ∷ es) e h = last_answered (world_after w d) es e h.1

-- a core stands for the history in which that write found no memory
pub wants_instead : (s : Start) (k : State) (es : List Entry) (c : ℕ) (ask : Ask) →
    StandsFor s k (es ++ entry c (event.Write ask) unchanged ∷ []) → StandsFor s k (es ++ entry c (event.Write ask) no_memory ∷ [])
wants_instead s k es c ask st = by_answer (last_answered (start_world s) es told st.legal.answered)
  where
    told : Entry
    told = entry c (event.Write ask) unchanged

    wanting : Entry
    wanting = entry c (event.Write ask) no_memory

    by_quiet : step (run (start_world s) es) c (event.Write ask) ≡ answered (run (start_world s) es) unchanged → StandsFor s k (es ++ wanting ∷ [])
    by_quiet quiet =
        let front = front_is_legal s (es ++ told ∷ []) es (told ∷ []) refl st.legal in
        let may : may_want (run (start_world s) es) c (event.Write ask) ≡ true = ap (λ (o : Outcome). not (is_refused o.reply)) quiet in
        record {
          start = st.start;
          legal = record {
            answered = answered-append (start_world s) es wanting front.answered (inr (refl, may));
            carried = carried-append [] es wanting front.carried tt;
          };
          keeps = subst (Keeps k) (run-append (start_world s) es told ∙ ap (λ (o : Outcome). o.world) quiet ∙ sym (run-append (start_world s) es wanting)) st.keeps;
        }

    by_answer : IsAnswered (run (start_world s) es) told → StandsFor s k (es ++ wanting ∷ [])
    by_answer (inl e) = by_quiet (quiet_write (run (start_world s) es) c ask e)
    by_answer (inr e) = absurd (let same = e.0 in cc)
