-- How much a sweep has still to do: each step that tells something leaves less.
use Rattle.std.proofs.Common.{◌≡◌, ℕ, zero, suc, ◌+◌, ◌*◌, ◌<◌, ◌≤◌, List, [], ◌∷◌, ◌++◌, Option, Some, None, Bool, length, map, refl, sym, ap, subst, ◌∙◌, arith, inl, inr, length-append}
use Rattle.std.specs.Prelude.{Ok}
use Rattle.std.specs.List.{range_with_len}
use Rattle.std.proofs.lemmas.List.FromFn.{length-map-range_with_len}
use Rattle.graph_value.specs.declared.id.Oid.{Oid}
use Rattle.world_model.specs.declared.TheConstants.{ID_END}
use Rattle.world_model.specs.declared.answer.Marked.{Marked}
use Rattle.world_model.specs.declared.answer.Refused.{Refused}
use Rattle.world_model.specs.declared.answer.Refused.TheVariants as refused
use Rattle.world_model.specs.declared.event.Event.{Event}
use Rattle.world_model.specs.declared.event.Event.TheVariants as event
use Rattle.world_model.specs.declared.event.Kind.TheVariants.{Vertex, Edge}
use Rattle.world_model.specs.History.{Entry, IsLegal, IsStart, MayStand}
use Rattle.world_model.specs.Pieces.{LiftedParts}
use Rattle.world_model.specs.Reply.{Reply}
use Rattle.world_model.specs.Reply as reply
use Rattle.world_model.specs.Sending.{Sends}
use Rattle.world_model.specs.Views.{oid_of}
use Rattle.world_model.specs.World.{InOrder, Start, World, start_world}
use Rattle.world_model.proofs.Histories.{run_keeps_order, start_in_order}
use Rattle.world_model.proofs.Sent.{answered_on, world_before}
use Rattle.collector.specs.Advancing.{Advances}
use Rattle.collector.specs.Sweeping.{Stage, Turn, asks_by, objects_below, turn, turn_by, turn_installed, turn_kept, turn_lifted, turn_marked, turn_refused}
use Rattle.collector.specs.declared.progress.Progress.{Progress}
use Rattle.collector.specs.declared.progress.Progress.TheVariants as progress
use Rattle.collector.proofs.Answered.{mark_told, standing}
use Rattle.collector.proofs.UnderWay.{told_progress}

-- an object that was lifted has less to be done
abbrev to_lift : Option LiftedParts → ℕ
to_lift None = 1
to_lift (Some l) = 0

-- no store gives out more ids than this, of vertices or of edges
abbrev pub weight_by : Option ℕ → List Oid → Option LiftedParts → ℕ
weight_by None left kept = 2 * (ID_END + ID_END) + 2
weight_by (Some mark) left kept = 2 * length left + to_lift kept

abbrev pub weight : Stage → ℕ
weight s = weight_by s.begun s.left s.kept

abbrev Lessens : ℕ → Turn → Type 0
Lessens n t = (p : Progress) → t.progress ≡ Some p → weight t.stage < n

count_lessens : (mark : ℕ) (x : Oid) (xs : List Oid) (l : LiftedParts) (n : ℕ) → Lessens (2 * length (x ∷ xs) + 1) (turn_kept mark x xs l n)
count_lessens mark x xs l zero = λ p h. omega arith
count_lessens mark x xs l (suc n) = λ p h. omega arith

lifted_lessens : (mark : ℕ) (x : Oid) (xs : List Oid) (r : Reply) → Lessens (2 * length (x ∷ xs) + 1) (turn_lifted mark x xs r)
lifted_lessens mark x xs (reply.Lifted l) = count_lessens mark x xs l (length l.deltas)
lifted_lessens mark x xs r = λ p h. absurd cc

refused_lessens : (mark : ℕ) (x : Oid) (xs : List Oid) (why : Refused) → Lessens (2 * length (x ∷ xs) + 0) (turn_refused mark x xs why)
refused_lessens mark x xs (refused.Stale cut) = λ p h. omega arith
refused_lessens mark x xs why = λ p h. absurd cc

installed_lessens : (mark : ℕ) (x : Oid) (xs : List Oid) (n : ℕ) (r : Reply) → Lessens (2 * length (x ∷ xs) + 0) (turn_installed mark x xs n r)
installed_lessens mark x xs n reply.Installed = λ p h. omega arith
installed_lessens mark x xs n (reply.Refused why) = refused_lessens mark x xs why
installed_lessens mark x xs n r = λ p h. absurd cc

abbrev IsFew : Marked → Type 0
IsFew m = (m.vertices ≤ ID_END) × (m.edges ≤ ID_END)

objects_few : (vertices edges : ℕ) → vertices ≤ ID_END → edges ≤ ID_END → 2 * length (objects_below vertices edges) + 1 < 2 * (ID_END + ID_END) + 2
objects_few vertices edges low also =
    let n : length (objects_below vertices edges) ≡ vertices + edges =
    length-append (map (oid_of Vertex) (range_with_len 0 vertices)) (map (oid_of Edge) (range_with_len 0 edges))
    ∙ ap (λ n. n + length (map (oid_of Edge) (range_with_len 0 edges))) (length-map-range_with_len (oid_of Vertex) 0 vertices)
    ∙ ap (λ n. vertices + n) (length-map-range_with_len (oid_of Edge) 0 edges) in
    omega (arith, n, low, also)

marked_lessens : (s : Stage) (r : Reply) → ((m : Marked) → r ≡ reply.Marked m → IsFew m) → Lessens (2 * (ID_END + ID_END) + 2) (turn_marked s r)
marked_lessens s (reply.Marked m) few = λ p h. objects_few m.vertices m.edges (few m refl).0 (few m refl).1
marked_lessens s r few = λ p h. absurd cc

turn_lessens : (begun : Option ℕ) (left : List Oid) (kept : Option LiftedParts) (e : Event) (r : Reply) → asks_by begun left kept ≡ Some e → (event.Mark ≡ e → (m : Marked) → r ≡ reply.Marked m → IsFew m) → Lessens (weight_by begun left kept) (turn_by begun left kept r)
turn_lessens None left kept e r next few = let same : event.Mark ≡ e = cc in marked_lessens (record { begun = None; left = left; kept = kept }) r (few same)
turn_lessens (Some mark) [] kept e r next few = λ p h. absurd cc
turn_lessens (Some mark) (x ∷ xs) None e r next few = lifted_lessens mark x xs r
turn_lessens (Some mark) (x ∷ xs) (Some l) e r next few = installed_lessens mark x xs (length l.deltas) r

module _ {S : Type 0} (stands : S → Start → List Entry → Type 0) (caller : S → ℕ) (alone : S → Bool) (legal : (r : S) (s : Start) (es : List Entry) → stands r s es → IsStart s × IsLegal s es) where
  -- a mark tells the counters of a world in order
  mark_few : (now after : S) (e : Event) (r : Reply) → Sends stands caller alone e r now after → event.Mark ≡ e → (m : Marked) → r ≡ reply.Marked m → IsFew m
  mark_few now after e r sent is_mark m told =
      let entry : Entry = record { caller = caller now; event = e; reply = r } in
      let some = sent.some in
      let on = sent.goes_on some.start some.entries some.stood (subst (MayStand some.entries) is_mark tt) in
      let stood = legal after some.start on.0 on.2 in
      let w : World = world_before some.start on.1 in
      let order : InOrder w = run_keeps_order (start_world some.start) (some.entries ++ on.1.others) (start_in_order some.start stood.0) in
      let same : reply.Marked m ≡ reply.Marked (standing w) = sym told ∙ mark_told w entry is_mark (answered_on some.start on.1 stood.1) in
      let is : m ≡ standing w = cc in
      subst IsFew (sym is) order.counters

  pub steps_lessen : (now after : S) (stage new : Stage) (p : Progress) → ((mark : ℕ) → p ≡ progress.End mark → ⊥) → Advances stands caller alone stage new now after (Ok p) → weight new < weight stage
  steps_lessen now after stage new p no_end (inl ended) = absurd (no_end ended.mark cc)
  steps_lessen now after stage new p no_end (inr (inl asked)) =
      subst (λ (s : Stage). weight s < weight stage) (sym asked.stage)
      (turn_lessens stage.begun stage.left stage.kept asked.event asked.reply asked.asked (mark_few now after asked.event asked.reply asked.sent) p (told_progress (turn stage asked.reply).progress p asked.told))
  steps_lessen now after stage new p no_end (inr (inr missed)) = absurd missed.told
