-- What was lifted stays lifted while others are at work on the same store.
use Rattle.std.proofs.Common.{◌≡◌, ℕ, List, [], ◌∷◌, ◌++◌, Option, Some, None, Bool, refl, ◌∙◌}
use Rattle.std.specs.Prelude.{Result}
use Rattle.std.specs.declared.alloc.AllocError.{AllocError}
use Rattle.std.proofs.lemmas.List.{append_assoc}
use Rattle.graph_value.specs.declared.id.Oid.{Oid}
use Rattle.world_model.specs.declared.event.Event.TheVariants as event
use Rattle.world_model.specs.History.{Entry}
use Rattle.world_model.specs.Pieces.{LiftedParts, PieceParts}
use Rattle.world_model.specs.Placement.{piece_of}
use Rattle.world_model.specs.Reply.{Reply}
use Rattle.world_model.specs.Reply as reply
use Rattle.world_model.specs.Sending.{IsOfSome, Sends}
use Rattle.world_model.specs.World.{Start}
use Rattle.collector.specs.Advancing.{IsKept, IsLiftedIn, IsLiftedOf}
use Rattle.collector.specs.Whole.{Sweeps}
use Rattle.collector.specs.declared.progress.Swept.{Swept}
use Rattle.collector.proofs.Kept.{lifted_later}

module _ {S : Type 0} (stands : S → Start → List Entry → Type 0) (caller : S → ℕ) (alone : S → Bool) where
  -- what a sweep keeps is kept while another one sweeps
  pub kept_while_swept : (old new : S) (result : Result Swept AllocError) (k : Option LiftedParts) → Sweeps stands caller alone old new result → IsKept stands k old → IsKept stands k new
  kept_while_swept old new result None sweeps kept = tt
  kept_while_swept old new result (Some l) sweeps kept =
      let on = sweeps.goes_on kept.start kept.entries kept.stood in
      record { start = kept.start; entries = on.0; stood = on.2; of = lifted_later kept.entries on.1.later on.0 l on.1.parts kept.of }

  -- what a lift tells was lifted
  pub lifted_now : (x : Oid) (l : LiftedParts) (old new : S) → Sends stands caller alone (event.Lift x) (reply.Lifted l) old new → IsLiftedOf stands new l
  lifted_now x l old new sent =
      let some = sent.some in
      let on = sent.goes_on some.start some.entries some.stood tt in
      record {
        start = some.start;
        entries = on.0;
        stood = on.2;
        of = record { early = some.entries ++ on.1.others; entry = record { caller = caller old; event = event.Lift x; reply = reply.Lifted l }; late = []; parts = on.1.parts; answered = refl };
      }

  -- and a piece of it may be installed
  pub piece_of_lifted : (store : S) (l : LiftedParts) (piece : PieceParts) → piece ≡ piece_of l → IsLiftedOf stands store l → IsOfSome stands store piece
  piece_of_lifted store l piece built lifted = record {
    start = lifted.start;
    entries = lifted.entries;
    stood = lifted.stood;
    of = record { early = lifted.of.early; entry = lifted.of.entry; late = lifted.of.late; lifted = l; parts = lifted.of.parts; answered = lifted.of.answered; built = built };
  }

  -- one history has told what was lifted at two times
  pub record AreBothLifted (store : S) (older newer : LiftedParts) : Type 0 where
    pub start : Start
    pub entries : List Entry
    pub stood : stands store start entries
    pub first : IsLiftedIn entries older
    pub second : IsLiftedIn entries newer

  pub both_lifted : (x : Oid) (older newer : LiftedParts) (old new : S) → IsLiftedOf stands old older → Sends stands caller alone (event.Lift x) (reply.Lifted newer) old new → AreBothLifted new older newer
  both_lifted x older newer old new lifted sent =
      let entry : Entry = record { caller = caller old; event = event.Lift x; reply = reply.Lifted newer } in
      let on = sent.goes_on lifted.start lifted.entries lifted.stood tt in
      record {
        start = lifted.start;
        entries = on.0;
        stood = on.2;
        first = lifted_later lifted.entries (on.1.others ++ entry ∷ []) on.0 older (on.1.parts ∙ append_assoc lifted.entries on.1.others (entry ∷ [])) lifted.of;
        second = record { early = lifted.entries ++ on.1.others; entry = entry; late = []; parts = on.1.parts; answered = refl };
      }

  -- the older one stays lifted where the newer one's piece is sent
  pub older_stays : (older newer : LiftedParts) (piece : PieceParts) (r : Reply) (old new : S) → piece ≡ piece_of newer → AreBothLifted old older newer → Sends stands caller alone (event.Install piece) r old new → IsLiftedOf stands new older
  older_stays older newer piece r old new built both sent =
      let entry : Entry = record { caller = caller old; event = event.Install piece; reply = r } in
      let on = sent.goes_on both.start both.entries both.stood (record { early = both.second.early; entry = both.second.entry; late = both.second.late; lifted = newer; parts = both.second.parts; answered = both.second.answered; built = built }) in
      record {
        start = both.start;
        entries = on.0;
        stood = on.2;
        of = lifted_later both.entries (on.1.others ++ entry ∷ []) on.0 older (on.1.parts ∙ append_assoc both.entries on.1.others (entry ∷ [])) both.first;
      }
