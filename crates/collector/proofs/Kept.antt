-- What a sweep keeps was lifted in a history of the store, and can be built and installed.
use Rattle.std.proofs.Common.{◌≡◌, List, [], ◌∷◌, ◌++◌, ap, subst, ◌∙◌}
use Rattle.std.proofs.lemmas.List.{append_assoc}
use Rattle.anchor_store.specs.Blocks.{older_deltas}
use Rattle.anchor_store.specs.Groups.{AreDescending}
use Rattle.world_model.specs.History.{AreAnswered, Entry, IsAnswered, IsLegal, IsStart, run, world_after}
use Rattle.world_model.specs.Pieces.{LiftedParts}
use Rattle.world_model.specs.Reply.{Reply}
use Rattle.world_model.specs.World.{Start, World, start_world}
use Rattle.world_model.proofs.Carried.{front_is_legal, lifted_builds}
use Rattle.collector.specs.Advancing.{IsLiftedIn, IsLiftedOf}

-- each entry of a history is answered where it stands
answered_at : (w : World) (early late : List Entry) (e : Entry) → AreAnswered w (early ++ e ∷ late) → IsAnswered (run w early) e
unfolding run AreAnswered
answered_at w [] late e h = h.0
answered_at w (d ∷ early) late e h = answered_at (world_after w d) early late e h.1

-- what was lifted in a history was so in each that goes on from it
pub lifted_later : (es later more : List Entry) (l : LiftedParts) → more ≡ es ++ later → IsLiftedIn es l → IsLiftedIn more l
lifted_later es later more l parts of = record {
  early = of.early;
  entry = of.entry;
  late = of.late ++ later;
  parts = parts ∙ ap (λ ds. ds ++ later) of.parts ∙ append_assoc of.early (of.entry ∷ of.late) later;
  answered = of.answered;
}

descends : (s : Start) (es : List Entry) (l : LiftedParts) → IsStart s → IsLegal s es → IsLiftedIn es l → AreDescending (l.deltas ++ older_deltas l.older)
descends s es l h legal of =
    let there : IsAnswered (run (start_world s) of.early) of.entry = answered_at (start_world s) of.early of.late of.entry (subst (AreAnswered (start_world s)) of.parts legal.answered) in
    lifted_builds s of.early of.entry.caller of.entry.event l h (front_is_legal s es of.early (of.entry ∷ of.late) of.parts legal)
    (subst (λ (r : Reply). IsAnswered (run (start_world s) of.early) (record { caller = of.entry.caller; event = of.entry.event; reply = r })) of.answered there)

module _ {S : Type 0} (stands : S → Start → List Entry → Type 0) where
  pub kept_builds : (legal : (r : S) (s : Start) (es : List Entry) → stands r s es → IsStart s × IsLegal s es) (store : S) (l : LiftedParts) → IsLiftedOf stands store l → AreDescending (l.deltas ++ older_deltas l.older)
  kept_builds legal store l kept =
      let h = legal store kept.start kept.entries kept.stood in
      descends kept.start kept.entries l h.0 h.1 kept.of
