-- Where a sweep tells its end, all was asked.
use Rattle.std.proofs.Common.{◌≡◌, ℕ, zero, suc, List, [], ◌∷◌, Option, Some, None, Bool, length, sym, ap, subst, ◌∙◌, inl, inr}
use Rattle.std.specs.Prelude.{Ok}
use Rattle.graph_value.specs.declared.id.Oid.{Oid}
use Rattle.world_model.specs.declared.answer.Refused.{Refused}
use Rattle.world_model.specs.declared.answer.Refused.TheVariants as refused
use Rattle.world_model.specs.History.{Entry}
use Rattle.world_model.specs.Pieces.{LiftedParts}
use Rattle.world_model.specs.Reply.{Reply}
use Rattle.world_model.specs.Reply as reply
use Rattle.world_model.specs.World.{Start}
use Rattle.collector.specs.Advancing.{Advances}
use Rattle.collector.specs.Sweeping.{Stage, asks, turn, turn_by, turn_installed, turn_kept, turn_lifted, turn_marked, turn_refused}
use Rattle.collector.specs.Whole.{Sweeps}
use Rattle.collector.specs.declared.progress.Progress.{Progress}
use Rattle.collector.specs.declared.progress.Progress.TheVariants as progress
use Rattle.collector.specs.declared.progress.Swept.{Swept}
use Rattle.collector.proofs.UnderWay.{UnderWay, told_progress}

-- no answer is told as the end
abbrev IsNoEnd : Option Progress → Type 0
IsNoEnd o = (mark : ℕ) → o ≡ Some (progress.End mark) → ⊥

marked_no_end : (s : Stage) (r : Reply) → IsNoEnd (turn_marked s r).progress
marked_no_end s (reply.Marked m) = λ mark h. absurd cc
marked_no_end s r = λ mark h. absurd cc

count_no_end : (mark : ℕ) (x : Oid) (xs : List Oid) (l : LiftedParts) (n : ℕ) → IsNoEnd (turn_kept mark x xs l n).progress
count_no_end mark x xs l zero = λ m h. absurd cc
count_no_end mark x xs l (suc n) = λ m h. absurd cc

lifted_no_end : (mark : ℕ) (x : Oid) (xs : List Oid) (r : Reply) → IsNoEnd (turn_lifted mark x xs r).progress
lifted_no_end mark x xs (reply.Lifted l) = count_no_end mark x xs l (length l.deltas)
lifted_no_end mark x xs r = λ m h. absurd cc

refused_no_end : (mark : ℕ) (x : Oid) (xs : List Oid) (why : Refused) → IsNoEnd (turn_refused mark x xs why).progress
refused_no_end mark x xs (refused.Stale cut) = λ m h. absurd cc
refused_no_end mark x xs why = λ m h. absurd cc

installed_no_end : (mark : ℕ) (x : Oid) (xs : List Oid) (n : ℕ) (r : Reply) → IsNoEnd (turn_installed mark x xs n r).progress
installed_no_end mark x xs n reply.Installed = λ m h. absurd cc
installed_no_end mark x xs n (reply.Refused why) = refused_no_end mark x xs why
installed_no_end mark x xs n r = λ m h. absurd cc

turn_no_end : (begun : Option ℕ) (left : List Oid) (kept : Option LiftedParts) (r : Reply) → IsNoEnd (turn_by begun left kept r).progress
turn_no_end None left kept r = marked_no_end (record { begun = None; left = left; kept = kept }) r
turn_no_end (Some mark) [] kept r = λ m h. absurd cc
turn_no_end (Some mark) (x ∷ xs) None r = lifted_no_end mark x xs r
turn_no_end (Some mark) (x ∷ xs) (Some l) r = installed_no_end mark x xs (length l.deltas) r

module _ {S : Type 0} (stands : S → Start → List Entry → Type 0) (caller : S → ℕ) (alone : S → Bool) where
  done : (old now : S) (stage : Stage) (sum : Swept) → asks stage ≡ None → UnderWay stands caller alone old now stage sum → Sweeps stands caller alone old now (Ok sum)
  done old now stage sum none way = record {
    goes_on = λ s es st.
        let on = way.goes_on s es st in (
          on.0,
          record {
            later = on.1.later;
            parts = on.1.parts;
            nobody = on.1.nobody;
            asked = on.1.asked;
            told = record { done = sym (ap asks on.1.stage_is) ∙ none; sums = on.1.sum_is };
          },
          on.2,
        );
    same_caller = way.same_caller;
    same_alone = way.same_alone;
  }

  pub ends : (old now after : S) (stage new : Stage) (sum : Swept) (mark : ℕ) → UnderWay stands caller alone old now stage sum → Advances stands caller alone stage new now after (Ok (progress.End mark)) →
      Sweeps stands caller alone old after (Ok sum)
  ends old now after stage new sum mark way (inl ended) = subst (λ (store : S). Sweeps stands caller alone old store (Ok sum)) (sym ended.same_store) (done old now stage sum ended.done way)
  ends old now after stage new sum mark way (inr (inl asked)) =
      absurd (turn_no_end stage.begun stage.left stage.kept asked.reply mark (told_progress (turn stage asked.reply).progress (progress.End mark) asked.told))
  ends old now after stage new sum mark way (inr (inr missed)) = absurd missed.told
