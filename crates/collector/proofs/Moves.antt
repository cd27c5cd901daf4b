-- A whole sweep of a store that nobody else acts on moves what has expired of each object.
use Rattle.std.proofs.Common.{◌≡◌, ℕ, List, [], ◌∷◌, ◌++◌, None, Bool, true, sym, ap, subst, ◌∙◌, zero-add, arith}
use Rattle.std.specs.Prelude.{Ok, min}
use Rattle.std.specs.List.{sum_by}
use Rattle.world_model.specs.declared.event.Event.TheVariants as event
use Rattle.world_model.specs.History.{AreAnswered, Entry, IsLegal, IsStart, run, world_after}
use Rattle.world_model.specs.Reply.{Reply}
use Rattle.world_model.specs.Reply as reply
use Rattle.world_model.specs.World.{Start, World, mark, start_world}
use Rattle.collector.specs.Sweeping.{AreAsked, asks, count, fresh, nothing_yet, objects_below, stage_after, sum_after, turn}
use Rattle.collector.specs.Whole.{Sweeps, all_moved, own_of}
use Rattle.collector.specs.declared.progress.Swept.{Swept}
use Rattle.collector.specs.declared.progress.TheConstants.{MOST}
use Rattle.collector.proofs.Answered.{mark_leaves, mark_told, standing}
use Rattle.collector.proofs.Apart.{objects_apart}
use Rattle.collector.proofs.Undisturbed.{all_moves, expired_in, same_event, something_asked, unkept, unmoved}

-- the entries behind a history are answered in the world that it comes to
answered_behind : (w : World) (early late : List Entry) → AreAnswered w (early ++ late) → AreAnswered (run w early) late
unfolding run AreAnswered
answered_behind w [] late h = h
answered_behind w (e ∷ early) late h = answered_behind (world_after w e) early late h.1

abbrev none_moved : ℕ → Swept
none_moved n = record { mark = n; moved = 0; stale = 0 }

abbrev LeadsFrom : World → List Entry → Reply → Type 0
LeadsFrom w es r =
    AreAsked (turn fresh r).stage es → asks (stage_after (turn fresh r).stage es) ≡ None →
    sum_after (turn fresh r).stage (count nothing_yet (turn fresh r).progress) es ≡ all_moved w

behind_mark : (w : World) (es : List Entry) → AreAnswered w es → LeadsFrom w es (reply.Marked (standing w))
behind_mark w es answers next last =
    let all = objects_below w.vertices w.edges in
    all_moves w es (mark w) w.installs all None (none_moved (mark w)) (omega arith) (unmoved w all) (objects_apart w.vertices w.edges) (unkept w all) answers next last
    ∙ ap (λ n. record (none_moved (mark w)) { moved = min n MOST }) (zero-add (sum_by (expired_in w) all))

-- the entries of a whole sweep, and of no other
sweep_moves : (w : World) (own : List Entry) → AreAnswered w own → AreAsked fresh own → asks (stage_after fresh own) ≡ None → sum_after fresh nothing_yet own ≡ all_moved w
unfolding AreAnswered AreAsked stage_after sum_after
sweep_moves w [] answers asked end = absurd (something_asked event.Mark end)
sweep_moves w (e ∷ es) answers asked end =
    let is_mark : event.Mark ≡ e.event = same_event event.Mark e.event asked.0 in
    subst (LeadsFrom w es) (sym (mark_told w e is_mark answers.0)) (behind_mark w es (subst (λ (v : World). AreAnswered v es) (mark_leaves w e is_mark) answers.1)) asked.1 end

module _ {S : Type 0} (stands : S → Start → List Entry → Type 0) (caller : S → ℕ) (alone : S → Bool) (legal : (r : S) (s : Start) (es : List Entry) → stands r s es → IsStart s × IsLegal s es) where
  pub moves_all : (old new : S) (swept : Swept) → Sweeps stands caller alone old new (Ok swept) → alone old ≡ true → (s : Start) (es : List Entry) → stands old s es → swept ≡ all_moved (run (start_world s) es)
  moves_all old new swept sweeps nobody s es st =
      let on = sweeps.goes_on s es st in
      let later : List Entry = on.1.later in
      let own : own_of (caller old) later ≡ later = on.1.nobody nobody in
      let answers : AreAnswered (run (start_world s) es) later = answered_behind (start_world s) es later (subst (AreAnswered (start_world s)) on.1.parts (legal new s on.0 on.2).1.answered) in
      on.1.told.sums
      ∙ sweep_moves (run (start_world s) es) (own_of (caller old) later)
      (subst (AreAnswered (run (start_world s) es)) (sym own) answers) on.1.asked on.1.told.done
