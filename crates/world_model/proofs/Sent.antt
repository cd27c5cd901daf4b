-- What follows of a call on a store for the transaction of its caller, and for a view of it.
use Rattle.std.proofs.Common.{◌≡◌, ℕ, List, [], ◌∷◌, ◌++◌, Option, Some, None, Bool, true, false, not, cond, refl, sym, ap, subst, ◌∙◌, arith, inl, inr}
use Rattle.std.specs.Prelude.{nat_eq, option_map}
use Rattle.std.specs.List.{list_all}
use Rattle.std.proofs.lemmas.Bool.{false≢true}
use Rattle.std.proofs.lemmas.Bool.Decides.{nat_tests}
use Rattle.std.proofs.lemmas.List.{append_assoc, append-nil}
use Rattle.std.proofs.lemmas.List.Folds.{list_all-append}
use Rattle.graph_value.specs.declared.id.Oid.{Oid}
use Rattle.graph_record.specs.declared.object.Object.{Object}
use Rattle.graph_record.specs.Graph.{Graph, IsCoherent, object_at}
use Rattle.world_model.specs.Reply.{Reply}
use Rattle.world_model.specs.Reply as reply
use Rattle.world_model.specs.Views.{graph_of, next_id, time_ahead}
use Rattle.world_model.specs.Step.{next_step, read_step, seen_step}
use Rattle.world_model.specs.declared.answer.Refused.{Refused}
use Rattle.world_model.specs.declared.event.Event.TheVariants as event
use Rattle.world_model.specs.declared.event.Kind.{Kind}
use Rattle.world_model.specs.declared.event.When.{When}
use Rattle.world_model.specs.World.{Start, Txn, World, start_world, txn_of}
use Rattle.world_model.specs.declared.event.Event.{Event}
use Rattle.world_model.specs.History.{AreAnswered, Entry, IsAnswered, IsLegal, IsStart, MayStand, run, world_after}
use Rattle.world_model.specs.Sending.{GoesOn, IsSeen, OnlyReads, ReadsOn, Sees, Sends, are_beside, are_of_others, is_beside, is_reading, open_start}
use Rattle.world_model.proofs.Folds.{both_true, and_left_true, and_right_true}
use Rattle.world_model.proofs.Histories.{run-append, run_keeps_order, start_in_order}
use Rattle.world_model.proofs.Marks.{run-more}
use Rattle.world_model.proofs.Opened.{abort_ends, begun_opens, commit_ends, entry_keeps, keeps_open, refused_begin_leaves}
use Rattle.world_model.proofs.Staying.{others_leave, reading_leaves, seen_coherent, views_stay}

-- entries of others leave the caller's transaction
pub others_stay : (w : World) (es : List Entry) (c : ℕ) → are_of_others c es ≡ true → txn_of (run w es) c ≡ txn_of w c
unfolding run are_of_others
others_stay w [] c h = refl
others_stay w (e ∷ es) c h =
    others_stay (world_after w e) es c (and_right_true (not (nat_eq e.caller c)) _ h)
    ∙ others_leave w e c (other (nat_eq e.caller c) (and_left_true (not (nat_eq e.caller c)) _ h))
  where
    other : (b : Bool) → not b ≡ true → b ≡ false
    other true h = absurd (false≢true h)
    other false h = refl

-- the last entry of a history that is answered is answered
last_answered : (w : World) (es : List Entry) (e : Entry) → AreAnswered w (es ++ e ∷ []) → IsAnswered (run w es) e
unfolding run AreAnswered
last_answered w [] e h = h.0
last_answered w (d ∷ es) e h = last_answered (world_after w d) es e h.1

-- the world before the new entry, behind those of others
abbrev pub world_before : {alone : Bool} {e : Entry} {es more : List Entry} → Start → GoesOn alone e es more → World
world_before {es = es} s on = run (start_world s) (es ++ on.others)

pub world_on : {alone : Bool} {e : Entry} {es more : List Entry} (s : Start) (on : GoesOn alone e es more) → run (start_world s) more ≡ world_after (world_before s on) e
world_on {e = e} {es = es} s on = ap (run (start_world s)) on.parts ∙ run-append (start_world s) (es ++ on.others) e

pub txn_before : {alone : Bool} {e : Entry} {es more : List Entry} (s : Start) (on : GoesOn alone e es more) → txn_of (world_before s on) e.caller ≡ txn_of (run (start_world s) es) e.caller
txn_before {e = e} {es = es} s on =
    ap (λ (w : World). txn_of w e.caller) (run-more (start_world s) es on.others)
    ∙ others_stay (run (start_world s) es) on.others e.caller on.apart

pub open_before : {alone : Bool} {e : Entry} {es more : List Entry} (s : Start) (on : GoesOn alone e es more) → open_start (world_before s on) e.caller ≡ open_start (run (start_world s) es) e.caller
open_before s on = ap (option_map (λ (p : Txn). p.start)) (txn_before s on)

pub answered_on : {alone : Bool} {e : Entry} {es more : List Entry} (s : Start) (on : GoesOn alone e es more) → IsLegal s more → IsAnswered (world_before s on) e
answered_on {e = e} {es = es} s on legal = last_answered (start_world s) (es ++ on.others) e (subst (AreAnswered (start_world s)) on.parts legal.answered)

-- ---- a view of the store

other_beside : (c : ℕ) (es : List Entry) → are_of_others c es ≡ true → are_beside false c es ≡ true
unfolding are_of_others are_beside
other_beside c [] h = refl
other_beside c (e ∷ es) h =
    both_true (is_beside false c e) _
    (one (nat_eq e.caller c) (and_left_true (not (nat_eq e.caller c)) _ h))
    (other_beside c es (and_right_true (not (nat_eq e.caller c)) _ h))
  where
    one : (b : Bool) → not b ≡ true → cond b (is_reading e.event) true ≡ true
    one true h = absurd (false≢true h)
    one false h = refl

own_beside : (alone : Bool) (e : Entry) → is_reading e.event ≡ true → is_beside alone e.caller e ≡ true
own_beside alone e h = ap (λ b. cond b (is_reading e.event) (not alone)) (same_number e.caller) ∙ h
  where
    same_number : (n : ℕ) → nat_eq n n ≡ true
    same_number n = grind (arith, nat_tests)

reads_so : (alone : Bool) (e : Entry) (es more : List Entry) → is_reading e.event ≡ true → GoesOn alone e es more → ReadsOn alone e.caller es more
unfolding are_beside
reads_so alone e es more h on = record {
  later = on.others ++ e ∷ [];
  parts = on.parts ∙ append_assoc es on.others (e ∷ []);
  beside = list_all-append (is_beside alone e.caller) on.others (e ∷ []) ∙ both_true _ _ (by_alone alone on.nobody) (both_true _ _ (own_beside alone e h) refl);
}
  where
    by_alone : (b : Bool) → (b ≡ true → on.others ≡ []) → list_all (is_beside b e.caller) on.others ≡ true
    by_alone true nobody = subst (λ os. list_all (is_beside true e.caller) os ≡ true) (sym (nobody refl)) refl
    by_alone false nobody = other_beside e.caller on.others on.apart

reads_more : (alone : Bool) (c : ℕ) (es more most : List Entry) → ReadsOn alone c es more → ReadsOn alone c more most → ReadsOn alone c es most
unfolding are_beside
reads_more alone c es more most a b = record {
  later = a.later ++ b.later;
  parts = b.parts ∙ ap (λ os. os ++ b.later) a.parts ∙ append_assoc es a.later b.later;
  beside = list_all-append (is_beside alone c) a.later b.later ∙ both_true _ _ a.beside b.beside;
}

may_read : (es : List Entry) (e : Event) → is_reading e ≡ true → MayStand es e
may_read es event.Begin h = tt
may_read es (event.Next kind after when) h = tt
may_read es (event.Read x when) h = tt
may_read es (event.Write ask) h = tt
may_read es event.Commit h = tt
may_read es event.Abort h = tt
may_read es event.Mark h = tt
may_read es (event.Lift x) h = tt
may_read es (event.Install piece) h = absurd (false≢true h)
may_read es event.Stats h = tt

-- what a reading entry answers where the caller's transaction is this one
read_answer : (w : World) (c : ℕ) (x : Oid) (when : When) (p : Txn) (o : Object) → txn_of w c ≡ Some p → time_ahead p when ≡ None →
    IsAnswered w (record { caller = c; event = event.Read x when; reply = reply.Version o }) → o ≡ object_at (graph_of w p when) x
read_answer w c x when p o found there (inl is) = version (is ∙ ap (λ q. (read_step w x when q).reply) found ∙ ap (λ why. (seen_step w why (reply.Version (object_at (graph_of w p when) x))).reply) there)
  where
    version : reply.Version o ≡ reply.Version (object_at (graph_of w p when) x) → o ≡ object_at (graph_of w p when) x
    version h = cc
read_answer w c x when p o found there (inr want) = absurd cc

next_answer : (w : World) (c : ℕ) (kind : Kind) (after : Option ℕ) (when : When) (p : Txn) (id : Option ℕ) → txn_of w c ≡ Some p → time_ahead p when ≡ None →
    IsAnswered w (record { caller = c; event = event.Next kind after when; reply = reply.Id id }) → id ≡ next_id kind after (graph_of w p when)
next_answer w c kind after when p id found there (inl is) = number (is ∙ ap (λ q. (next_step w kind after when q).reply) found ∙ ap (λ why. (seen_step w why (reply.Id (next_id kind after (graph_of w p when)))).reply) there)
  where
    number : reply.Id id ≡ reply.Id (next_id kind after (graph_of w p when)) → id ≡ next_id kind after (graph_of w p when)
    number h = cc
next_answer w c kind after when p id found there (inr want) = absurd cc

-- the graph that a transaction means is the same behind entries of others
pub graph_before : {alone : Bool} {e : Entry} {es more : List Entry} (s : Start) (on : GoesOn alone e es more) (p : Txn) (when : When) → IsStart s →
    txn_of (run (start_world s) es) e.caller ≡ Some p → time_ahead p when ≡ None → graph_of (world_before s on) p when ≡ graph_of (run (start_world s) es) p when
graph_before {e = e} {es = es} s on p when h found there = (views_stay s es on.others false e.caller p when h found there (other_beside e.caller on.others on.apart)).1

module _ {S : Type 0} (stands : S → Start → List Entry → Type 0) (caller : S → ℕ) (alone : S → Bool) where
  pub only_reads_itself : (r : S) → OnlyReads stands caller alone r r
  unfolding are_beside
  only_reads_itself r = record {
    goes_on = λ s es st. (es, record { later = []; parts = sym (append-nil es); beside = refl }, st);
    same_caller = refl;
    same_alone = refl;
  }

  pub only_reads_onward : (a b c : S) → OnlyReads stands caller alone a b → OnlyReads stands caller alone b c → OnlyReads stands caller alone a c
  only_reads_onward a b c h k = record {
    goes_on = λ s es st.
        let x = h.goes_on s es st in
        let y = k.goes_on s x.0 x.2 in
        let later = subst (λ n. ReadsOn n (caller a) x.0 y.0) h.same_alone (subst (λ n. ReadsOn (alone b) n x.0 y.0) h.same_caller y.1) in
        (y.0, reads_more (alone a) (caller a) es x.0 y.0 x.1 later, y.2);
    same_caller = k.same_caller ∙ h.same_caller;
    same_alone = k.same_alone ∙ h.same_alone;
  }

  pub sent_reads : (e : Event) (r : Reply) (old new : S) → is_reading e ≡ true → Sends stands caller alone e r old new → OnlyReads stands caller alone old new
  sent_reads e r old new h sent = record {
    goes_on = λ s es st.
        let on = sent.goes_on s es st (may_read es e h) in
        (on.0, reads_so (alone old) (record { caller = caller old; event = e; reply = r }) es on.0 h on.1, on.2);
    same_caller = sent.same_caller;
    same_alone = sent.same_alone;
  }

  module _ (legal : (r : S) (s : Start) (es : List Entry) → stands r s es → IsStart s × IsLegal s es) where
    pub sees_on : (e : Event) (r : Reply) (old new : S) → is_reading e ≡ true → Sends stands caller alone e r old new →
        (start : ℕ) (when : When) (g : Graph) → Sees stands caller alone start when old g → Sees stands caller alone start when new g
    sees_on e r old new h sent start when g sees =
        let on = sent.goes_on sees.begin sees.entries sees.stood (may_read sees.entries e h) in
        let same : run (start_world sees.begin) on.0 ≡ world_before sees.begin on.1 = world_on sees.begin on.1 ∙ reading_leaves (world_before sees.begin on.1) (record { caller = caller old; event = e; reply = r }) h in
        record {
          begin = sees.begin;
          entries = on.0;
          stood = on.2;
          seen = subst (λ c. IsSeen (run (start_world sees.begin) on.0) c start when g) (sym sent.same_caller) (subst (λ (w : World). IsSeen w (caller old) start when g) (sym same) (record {
            txn = sees.seen.txn;
            found = txn_before sees.begin on.1 ∙ sees.seen.found;
            began = sees.seen.began;
            there = sees.seen.there;
            graph = sees.seen.graph ∙ sym (graph_before sees.begin on.1 sees.seen.txn when (legal old sees.begin sees.entries sees.stood).0 sees.seen.found sees.seen.there);
          }));
        }

    pub read_tells : (x : Oid) (when : When) (o : Object) (old new : S) → Sends stands caller alone (event.Read x when) (reply.Version o) old new →
        (start : ℕ) (g : Graph) → Sees stands caller alone start when old g → o ≡ object_at g x
    read_tells x when o old new sent start g sees =
        let on = sent.goes_on sees.begin sees.entries sees.stood tt in
        read_answer (world_before sees.begin on.1) (caller old) x when sees.seen.txn o (txn_before sees.begin on.1 ∙ sees.seen.found) sees.seen.there (answered_on sees.begin on.1 (legal new sees.begin on.0 on.2).1)
        ∙ ap (λ (g : Graph). object_at g x) (graph_before sees.begin on.1 sees.seen.txn when (legal old sees.begin sees.entries sees.stood).0 sees.seen.found sees.seen.there ∙ sym sees.seen.graph)

    pub next_tells : (kind : Kind) (after : Option ℕ) (when : When) (id : Option ℕ) (old new : S) → Sends stands caller alone (event.Next kind after when) (reply.Id id) old new →
        (start : ℕ) (g : Graph) → Sees stands caller alone start when old g → id ≡ next_id kind after g
    next_tells kind after when id old new sent start g sees =
        let on = sent.goes_on sees.begin sees.entries sees.stood tt in
        next_answer (world_before sees.begin on.1) (caller old) kind after when sees.seen.txn id (txn_before sees.begin on.1 ∙ sees.seen.found) sees.seen.there (answered_on sees.begin on.1 (legal new sees.begin on.0 on.2).1)
        ∙ ap (λ (g : Graph). next_id kind after g) (graph_before sees.begin on.1 sees.seen.txn when (legal old sees.begin sees.entries sees.stood).0 sees.seen.found sees.seen.there ∙ sym sees.seen.graph)

    pub sees_coherent : (start : ℕ) (when : When) (r : S) (g : Graph) → Sees stands caller alone start when r g → IsCoherent g
    sees_coherent start when r g sees =
        let h = (legal r sees.begin sees.entries sees.stood).0 in
        subst IsCoherent (sym sees.seen.graph) (seen_coherent (run (start_world sees.begin) sees.entries) (caller r) sees.seen.txn when (run_keeps_order (start_world sees.begin) sees.entries (start_in_order sees.begin h)) sees.seen.found)

-- ---- the caller's open transaction

module _ {S : Type 0} (stands : S → Start → List Entry → Type 0) (caller : S → ℕ) (alone : S → Bool) (running : S → Option ℕ)
    (legal : (r : S) (s : Start) (es : List Entry) → stands r s es → IsStart s × IsLegal s es)
    (runs : (r : S) (s : Start) (es : List Entry) → stands r s es → open_start (run (start_world s) es) (caller r) ≡ running r) where
  -- it is that of the world behind the new entry
  open_now : (e : Event) (r : Reply) (old new : S) → (sent : Sends stands caller alone e r old new) → MayStand sent.some.entries e →
      (w : World) × IsAnswered w (record { caller = caller old; event = e; reply = r }) × (open_start w (caller old) ≡ running old) × (running new ≡ open_start (world_after w (record { caller = caller old; event = e; reply = r })) (caller old))
  open_now e r old new sent may =
      let some = sent.some in
      let on = sent.goes_on some.start some.entries some.stood may in (
        world_before some.start on.1,
        answered_on some.start on.1 (legal new some.start on.0 on.2).1,
        open_before some.start on.1 ∙ runs old some.start some.entries some.stood,
        sym (runs new some.start on.0 on.2) ∙ ap (open_start (run (start_world some.start) on.0)) sent.same_caller ∙ ap (λ (w : World). open_start w (caller old)) (world_on some.start on.1),
      )

  pub open_stays : (e : Event) (r : Reply) (old new : S) → keeps_open e ≡ true → (sent : Sends stands caller alone e r old new) → MayStand sent.some.entries e → running new ≡ running old
  open_stays e r old new h sent may =
      let now = open_now e r old new sent may in
      now.3 ∙ entry_keeps now.0 (record { caller = caller old; event = e; reply = r }) h ∙ now.2

  pub open_begun : (start : ℕ) (old new : S) → Sends stands caller alone event.Begin (reply.Begun start) old new → running new ≡ Some start
  open_begun start old new sent =
      let now = open_now event.Begin (reply.Begun start) old new sent tt in
      now.3 ∙ begun_opens now.0 (caller old) start now.1

  pub open_refused : (why : Refused) (old new : S) → Sends stands caller alone event.Begin (reply.Refused why) old new → running new ≡ running old
  open_refused why old new sent =
      let now = open_now event.Begin (reply.Refused why) old new sent tt in
      now.3 ∙ ap (λ (w : World). open_start w (caller old)) (refused_begin_leaves now.0 (caller old) why now.1) ∙ now.2

  pub open_committed : (ts : ℕ) (old new : S) → Sends stands caller alone event.Commit (reply.Committed ts) old new → running new ≡ None
  open_committed ts old new sent =
      let now = open_now event.Commit (reply.Committed ts) old new sent tt in
      now.3 ∙ commit_ends now.0 (caller old) ts now.1

  pub open_aborted : (old new : S) → Sends stands caller alone event.Abort reply.Aborted old new → running new ≡ None
  open_aborted old new sent =
      let now = open_now event.Abort reply.Aborted old new sent tt in
      now.3 ∙ abort_ends now.0 (caller old) now.1
