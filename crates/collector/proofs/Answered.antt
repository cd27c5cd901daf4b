-- What the store answers to a mark, a lift and an installation, and the world behind.
use Rattle.std.proofs.Common.{◌≡◌, Bool, true, false, cond, refl, sym, ap, ◌∙◌, inl, inr, ◌⊎◌, arith}
use Rattle.std.specs.Prelude.{nat_eq, not, ◌&&◌}
use Rattle.std.proofs.lemmas.Bool.{false≢true}
use Rattle.std.proofs.lemmas.Bool.Decides.{nat_tests}
use Rattle.graph_value.specs.declared.id.Oid.{Oid}
use Rattle.world_model.specs.declared.answer.Marked.{Marked}
use Rattle.world_model.specs.declared.answer.Refused.{Refused}
use Rattle.world_model.specs.declared.answer.Refused.TheVariants.{Missing, NoMemory, Stale}
use Rattle.world_model.specs.declared.event.Event.{Event}
use Rattle.world_model.specs.declared.event.Event.TheVariants as event
use Rattle.world_model.specs.History.{Entry, IsAnswered, is_no_memory, is_refused, no_memory, takes_memory, world_after}
use Rattle.world_model.specs.Op.{is_given}
use Rattle.world_model.specs.Pieces.{LiftedParts}
use Rattle.world_model.specs.Placement.{lifted_of, piece_of}
use Rattle.world_model.specs.Reply.{Reply}
use Rattle.world_model.specs.Reply as reply
use Rattle.world_model.specs.Step.{Outcome, answered, installed_world, refused, step}
use Rattle.world_model.specs.World.{World, cut_of, mark}

-- a lift is told, or refused
abbrev pub LiftTold : World → Oid → Reply → Type 0
LiftTold w x r = (r ≡ reply.Lifted (lifted_of w x)) ⊎ ((why : Refused) × (r ≡ reply.Refused why))

-- an installation is told, or memory was wanting
abbrev pub InstallTold : World → LiftedParts → Reply → World → Type 0
InstallTold w l r v = ((r ≡ reply.Installed) × (v ≡ installed_world w (piece_of l))) ⊎ ((r ≡ no_memory) × (v ≡ w))

abbrev pub standing : World → Marked
standing w = record { mark = mark w; clock = w.clock; vertices = w.vertices; edges = w.edges }

module _ (w : World) (e : Entry) where
  abbrev stepped : Event → Outcome
  stepped ev = step w e.caller ev

  -- ---- a mark

  pub mark_told : event.Mark ≡ e.event → IsAnswered w e → e.reply ≡ reply.Marked (standing w)
  mark_told asked (inl is) = is ∙ ap (λ ev. (stepped ev).reply) (sym asked)
  mark_told asked (inr wanting) = absurd (false≢true (ap (λ ev. (takes_memory ev && not (is_refused (stepped ev).reply))) asked ∙ wanting.1))

  pub mark_leaves : event.Mark ≡ e.event → world_after w e ≡ w
  mark_leaves asked = ap (λ ev. cond (is_no_memory e.reply) w (stepped ev).world) (sym asked) ∙ pick (is_no_memory e.reply)
    where
      pick : (b : Bool) → cond b w w ≡ w
      pick true = refl
      pick false = refl

  -- ---- a lift

  pub lift_told : (x : Oid) → event.Lift x ≡ e.event → IsAnswered w e → LiftTold w x e.reply
  lift_told x asked (inl is) = by_given (is_given w.vertices w.edges x) (is ∙ ap (λ ev. (stepped ev).reply) (sym asked))
    where
      by_given : (b : Bool) → e.reply ≡ (cond b (answered w (reply.Lifted (lifted_of w x))) (refused w (Missing x))).reply → LiftTold w x e.reply
      by_given true h = inl h
      by_given false h = inr (Missing x, h)
  lift_told x asked (inr wanting) = inr (NoMemory, wanting.0)

  pub lift_leaves : (x : Oid) → event.Lift x ≡ e.event → world_after w e ≡ w
  lift_leaves x asked = ap (λ ev. cond (is_no_memory e.reply) w (stepped ev).world) (sym asked) ∙ pick (is_no_memory e.reply) (is_given w.vertices w.edges x)
    where
      pick : (b given : Bool) → cond b w (cond given (answered w (reply.Lifted (lifted_of w x))) (refused w (Missing x))).world ≡ w
      pick true given = refl
      pick false true = refl
      pick false false = refl

  -- ---- an installation of what was lifted since the object's cut

  pub install_told : (l : LiftedParts) → event.Install (piece_of l) ≡ e.event → l.cut ≡ cut_of w l.x → IsAnswered w e → InstallTold w l e.reply (world_after w e)
  install_told l asked same (inl is) =
      let fresh : nat_eq l.cut (cut_of w l.x) ≡ true = grind (arith, nat_tests, same) in
      let outcome : stepped e.event ≡ record { reply = reply.Installed; world = installed_world w (piece_of l) } =
      ap stepped (sym asked) ∙ ap (λ b. cond b (record { reply = reply.Installed; world = installed_world w (piece_of l) }) (refused w (Stale (cut_of w l.x)))) fresh in
      let told : e.reply ≡ reply.Installed = is ∙ ap (λ (o : Outcome). o.reply) outcome in
      inl (told, ap (λ r. cond (is_no_memory r) w (stepped e.event).world) told ∙ ap (λ (o : Outcome). o.world) outcome)
  install_told l asked same (inr wanting) = inr (wanting.0, ap (λ r. cond (is_no_memory r) w (stepped e.event).world) wanting.0)
