-- A sweep on its way: what it has asked of the histories of a store, and what it keeps.
use Rattle.std.proofs.Common.{◌≡◌, ℕ, zero, suc, List, [], ◌∷◌, ◌++◌, Option, Some, None, Bool, true, length, refl, sym, ap, subst, ◌∙◌, inl, inr}
use Rattle.std.specs.Prelude.{Ok, Err}
use Rattle.std.specs.declared.alloc.AllocError.{AllocError}
use Rattle.std.proofs.lemmas.List.{append_assoc, append-nil}
use Rattle.graph_value.specs.declared.id.Oid.{Oid}
use Rattle.world_model.specs.declared.answer.Refused.{Refused}
use Rattle.world_model.specs.declared.answer.Refused.TheVariants as refused
use Rattle.world_model.specs.declared.event.Event.{Event}
use Rattle.world_model.specs.declared.event.Event.TheVariants as event
use Rattle.world_model.specs.History.{Entry, MayStand}
use Rattle.world_model.specs.Pieces.{LiftedParts}
use Rattle.world_model.specs.Placement.{piece_of}
use Rattle.world_model.specs.Reply.{Reply}
use Rattle.world_model.specs.Reply as reply
use Rattle.world_model.specs.Sending.{GoesOn, Sends, are_of_others}
use Rattle.world_model.specs.World.{Start}
use Rattle.collector.specs.Advancing.{Advances, IsLiftedIn, Tells}
use Rattle.collector.specs.Sweeping.{AreAsked, Stage, asks, asks_by, count, fresh, nothing_yet, stage_after, sum_after, turn, turn_by, turn_installed, turn_kept, turn_lifted, turn_marked, turn_refused}
use Rattle.collector.specs.Whole.{Sweeps, own_of}
use Rattle.collector.specs.declared.progress.Progress.{Progress}
use Rattle.collector.specs.declared.progress.Progress.TheVariants as progress
use Rattle.collector.specs.declared.progress.Swept.{Swept}
use Rattle.collector.proofs.Asking.{asked-append, own_more, stage-append, sum-append}
use Rattle.collector.proofs.Kept.{lifted_later}

-- ---- what is kept was lifted in the same history

abbrev pub KeptIn : List Entry → Option LiftedParts → Type 0
KeptIn es None = Unit {0}
KeptIn es (Some l) = IsLiftedIn es l

kept_later : (es later more : List Entry) (k : Option LiftedParts) → more ≡ es ++ later → KeptIn es k → KeptIn more k
kept_later es later more None parts h = tt
kept_later es later more (Some l) parts h = lifted_later es later more l parts h

-- behind an answer nothing is kept, or what was kept before, or what the answer tells
module _ (P : Option LiftedParts → Type 0) (none : P None) where
  marked_keeps : (s : Stage) (r : Reply) → P s.kept → P (turn_marked s r).stage.kept
  marked_keeps s (reply.Marked m) same = none
  marked_keeps s r same = same

  count_keeps : (mark : ℕ) (x : Oid) (xs : List Oid) (l : LiftedParts) (n : ℕ) → P (Some l) → P (turn_kept mark x xs l n).stage.kept
  count_keeps mark x xs l zero h = none
  count_keeps mark x xs l (suc n) h = h

  lifted_keeps : (mark : ℕ) (x : Oid) (xs : List Oid) (r : Reply) → ((l : LiftedParts) → r ≡ reply.Lifted l → P (Some l)) → P (turn_lifted mark x xs r).stage.kept
  lifted_keeps mark x xs (reply.Lifted l) new = count_keeps mark x xs l (length l.deltas) (new l refl)
  lifted_keeps mark x xs r new = none

  refused_keeps : (mark : ℕ) (x : Oid) (xs : List Oid) (why : Refused) → P (turn_refused mark x xs why).stage.kept
  refused_keeps mark x xs (refused.Stale cut) = none
  refused_keeps mark x xs why = none

  installed_keeps : (mark : ℕ) (x : Oid) (xs : List Oid) (n : ℕ) (r : Reply) → P (turn_installed mark x xs n r).stage.kept
  installed_keeps mark x xs n reply.Installed = none
  installed_keeps mark x xs n (reply.Refused why) = refused_keeps mark x xs why
  installed_keeps mark x xs n r = none

  turn_keeps : (begun : Option ℕ) (left : List Oid) (kept : Option LiftedParts) (r : Reply) → P kept → ((l : LiftedParts) → r ≡ reply.Lifted l → P (Some l)) → P (turn_by begun left kept r).stage.kept
  turn_keeps None left kept r same new = marked_keeps (record { begun = None; left = left; kept = kept }) r same
  turn_keeps (Some mark) [] kept r same new = same
  turn_keeps (Some mark) (x ∷ xs) None r same new = lifted_keeps mark x xs r new
  turn_keeps (Some mark) (x ∷ xs) (Some l) r same new = installed_keeps mark x xs (length l.deltas) r

-- what a sweep asks may stand behind the history
may_ask : (begun : Option ℕ) (left : List Oid) (kept : Option LiftedParts) (e : Event) (es : List Entry) → KeptIn es kept → asks_by begun left kept ≡ Some e → MayStand es e
may_ask None left kept e es h next = let same : event.Mark ≡ e = cc in subst (MayStand es) same tt
may_ask (Some mark) [] kept e es h next = absurd cc
may_ask (Some mark) (x ∷ xs) None e es h next = let same : event.Lift x ≡ e = cc in subst (MayStand es) same tt
may_ask (Some mark) (x ∷ xs) (Some l) e es h next =
    let same : event.Install (piece_of l) ≡ e = cc in
    subst (MayStand es) same (record { early = h.early; entry = h.entry; late = h.late; lifted = l; parts = h.parts; answered = h.answered; built = refl })

-- ---- a history went on with a part of a sweep, which stands here and has added this up

pub record Went (alone : Bool) (caller : ℕ) (es more : List Entry) (stage : Stage) (sum : Swept) : Type 0 where
  pub later : List Entry
  pub parts : more ≡ es ++ later
  pub nobody : alone ≡ true → own_of caller later ≡ later
  pub asked : AreAsked fresh (own_of caller later)
  pub stage_is : stage ≡ stage_after fresh (own_of caller later)
  pub sum_is : sum ≡ sum_after fresh nothing_yet (own_of caller later)
  pub kept : KeptIn more stage.kept

went_nowhere : (alone : Bool) (c : ℕ) (es : List Entry) → Went alone c es es fresh nothing_yet
unfolding AreAsked own_of stage_after sum_after
went_nowhere alone c es = record {
  later = [];
  parts = sym (append-nil es);
  nobody = λ h. refl;
  asked = tt;
  stage_is = refl;
  sum_is = refl;
  kept = tt;
}

went_on : (alone : Bool) (c : ℕ) (es more most : List Entry) (stage : Stage) (sum : Swept) (e : Entry) → e.caller ≡ c → asks stage ≡ Some e.event → Went alone c es more stage sum → GoesOn alone e more most →
    Went alone c es most (turn stage e.reply).stage (count sum (turn stage e.reply).progress)
went_on alone c es more most stage sum e own next went on =
    let later : List Entry = went.later ++ (on.others ++ e ∷ []) in
    let before : List Entry = own_of c went.later in
    let more_own : own_of c later ≡ before ++ e ∷ [] = own_more c went.later on.others e own (subst (λ (n : ℕ). are_of_others n on.others ≡ true) own on.apart) in
    let now : Stage = stage_after fresh before in
    record {
      later = later;
      parts =
          on.parts ∙ append_assoc more on.others (e ∷ [])
          ∙ ap (λ ds. ds ++ (on.others ++ e ∷ [])) went.parts ∙ append_assoc es went.later (on.others ++ e ∷ []);
      nobody = λ h.
          more_own ∙ ap (λ ds. ds ++ e ∷ []) (went.nobody h)
          ∙ sym (ap (λ ds. went.later ++ (ds ++ e ∷ [])) (on.nobody h));
      asked = subst (AreAsked fresh) (sym more_own) (asked-append fresh before e went.asked (ap asks (sym went.stage_is) ∙ next));
      stage_is =
          ap (λ (s : Stage). (turn s e.reply).stage) went.stage_is
          ∙ sym (stage-append fresh before e) ∙ ap (stage_after fresh) (sym more_own);
      sum_is =
          ap (λ (s : Stage). count sum (turn s e.reply).progress) went.stage_is
          ∙ ap (λ (n : Swept). count n (turn now e.reply).progress) went.sum_is
          ∙ sym (sum-append fresh nothing_yet before e) ∙ ap (sum_after fresh nothing_yet) (sym more_own);
      kept = turn_keeps (KeptIn most) tt stage.begun stage.left stage.kept e.reply
          (kept_later more (on.others ++ e ∷ []) most stage.kept (on.parts ∙ append_assoc more on.others (e ∷ [])) went.kept)
          (λ l told. record { early = more ++ on.others; entry = e; late = []; parts = on.parts; answered = told });
    }

-- ---- and so did each history that a store stood for

pub told_progress : (o : Option Progress) (p : Progress) → Tells o (Ok p) → o ≡ Some p
told_progress None p h = absurd h
told_progress (Some q) p h = cc

module _ {S : Type 0} (stands : S → Start → List Entry → Type 0) (caller : S → ℕ) (alone : S → Bool) where
  pub record UnderWay (old now : S) (stage : Stage) (sum : Swept) : Type 0 where
    pub goes_on : (s : Start) (es : List Entry) → stands old s es →
        (more : List Entry) × Went (alone old) (caller old) es more stage sum × stands now s more
    pub same_caller : caller now ≡ caller old
    pub same_alone : alone now ≡ alone old

  pub not_begun : (store : S) (stage : Stage) (sum : Swept) → stage ≡ fresh → sum ≡ nothing_yet → UnderWay store store stage sum
  not_begun store stage sum first none =
      subst (λ (s : Stage). UnderWay store store s sum) (sym first)
      (subst (λ (n : Swept). UnderWay store store fresh n) (sym none)
      (record { goes_on = λ s es st. (es, went_nowhere (alone store) (caller store) es, st); same_caller = refl; same_alone = refl }))

  asked_on : (old now after : S) (stage : Stage) (sum : Swept) (e : Event) (r : Reply) → UnderWay old now stage sum → asks stage ≡ Some e → Sends stands caller alone e r now after →
      UnderWay old after (turn stage r).stage (count sum (turn stage r).progress)
  asked_on old now after stage sum e r way next sent = record {
    goes_on = λ s es st.
        let entry : Entry = record { caller = caller now; event = e; reply = r } in
        let before = way.goes_on s es st in
        let on = sent.goes_on s before.0 before.2 (may_ask stage.begun stage.left stage.kept e before.0 before.1.kept next) in
        (on.0, went_on (alone old) (caller old) es before.0 on.0 stage sum entry way.same_caller next before.1 (subst (λ b. GoesOn b entry before.0 on.0) way.same_alone on.1), on.2);
    same_caller = sent.same_caller ∙ way.same_caller;
    same_alone = sent.same_alone ∙ way.same_alone;
  }

  -- a step that tells something leads on
  pub steps_on : (old now after : S) (stage new : Stage) (sum : Swept) (p : Progress) → UnderWay old now stage sum → Advances stands caller alone stage new now after (Ok p) →
      UnderWay old after new (count sum (Some p))
  steps_on old now after stage new sum p way (inl ended) =
      let is_end : progress.End ended.mark ≡ p = cc in
      let same : sum ≡ count sum (Some p) = ap (λ (q : Progress). count sum (Some q)) is_end in
      subst (λ (n : Swept). UnderWay old after new n) same
      (subst (λ (s : Stage). UnderWay old after s sum) (sym ended.stage)
      (subst (λ (store : S). UnderWay old store stage sum) (sym ended.same_store) way))
  steps_on old now after stage new sum p way (inr (inl asked)) =
      let told : (turn stage asked.reply).progress ≡ Some p = told_progress (turn stage asked.reply).progress p asked.told in
      subst (λ (s : Stage). UnderWay old after s (count sum (Some p))) (sym asked.stage)
      (subst (λ (o : Option Progress). UnderWay old after (turn stage asked.reply).stage (count sum o)) told
      (asked_on old now after stage sum asked.event asked.reply way asked.asked asked.sent))
  steps_on old now after stage new sum p way (inr (inr missed)) = absurd missed.told

  -- a sweep that ends with an error has asked what it asked
  fails : (old now : S) (stage : Stage) (sum : Swept) (e : AllocError) → UnderWay old now stage sum → Sweeps stands caller alone old now (Err e)
  fails old now stage sum e way = record {
    goes_on = λ s es st.
        let on = way.goes_on s es st in
        (on.0, record { later = on.1.later; parts = on.1.parts; nobody = on.1.nobody; asked = on.1.asked; told = tt }, on.2);
    same_caller = way.same_caller;
    same_alone = way.same_alone;
  }

  pub steps_fail : (old now after : S) (stage new : Stage) (sum : Swept) (e d : AllocError) → UnderWay old now stage sum → Advances stands caller alone stage new now after (Err e) → Sweeps stands caller alone old after (Err d)
  steps_fail old now after stage new sum e d way (inl ended) = absurd (clash ended.told)
    where
      clash : Err e ≡ Ok (progress.End ended.mark) → ⊥
      clash h = cc
  steps_fail old now after stage new sum e d way (inr (inl asked)) = fails old after (turn stage asked.reply).stage (count sum (turn stage asked.reply).progress) d (asked_on old now after stage sum asked.event asked.reply way asked.asked asked.sent)
  steps_fail old now after stage new sum e d way (inr (inr missed)) = subst (λ (store : S). Sweeps stands caller alone old store (Err d)) (sym missed.same_store) (fails old now stage sum d way)
