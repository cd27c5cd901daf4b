-- An event is taken to the store, and its answer told.
use Rattle.std.proofs.Common.{◌≡◌, refl, sym, subst}
use Rattle.anchor_store.specs.Found.{found_object}
use Rattle.undo_delta.specs.Apply.{after}
use Rattle.world_model.specs.Replies.{asked_by}
use Rattle.world_model.proofs.Carried.{lifted_builds}
use Rattle.front_core.specs.declared.state.State.{State}
use Rattle.graph_shell.specs.Kept.{Places}
use Rattle.graph_shell.specs.Stands.{ShellParts, Stands}
use Rattle.graph_shell.proofs.Answering.{may_ask, may_stand, tells_lifted, tells_version, tells_other, is_other, plain_other, some_past, stands_more}
use Rattle.graph_shell.proofs.shell.Shell.take.Goals as goal

abbrev shell_of : State → Places → ShellParts
shell_of core places = record { core = core; places = places }

pub step-requires : goal.step-requires
step-requires c = may_ask c.self.inside.core c.args.event c.requires

-- what was lifted can be built
pub keep_lifted-requires : goal.keep_lifted-requires
keep_lifted-requires c =
    let past = c.self.invariant.0 in
    let st = c.self.invariant.1 in
    record { order = lifted_builds past.start past.es c.args.caller c.args.event c.in-Lifted.lifted st.store.start st.store.legal (c.in-Lifted.ensures.answered past.start past.es st.store (may_stand past.es c.args.event c.requires)) }

pub invariant_of-self : goal.invariant_of-self
invariant_of-self c =
    let past = c.self.invariant.0 in
    let st = c.self.invariant.1 in
    let may = may_stand past.es c.args.event c.requires in
    some_past (tells_lifted (shell_of c.self.inside.core c.self.inside.kept.places.entries) (shell_of c.step.new.self c.keep_lifted.new.self.places.entries) c.args.caller c.args.event c.in-Lifted.lifted c.keep_lifted.result past st
    (c.in-Lifted.ensures.answered past.start past.es st.store may) (c.in-Lifted.ensures.stands past.start past.es st.store may) c.keep_lifted.ensures)

pub returns-in-Lifted-clause-answers : goal.returns-in-Lifted-clause-answers
returns-in-Lifted-clause-answers c = λ past before.
    let st = subst (λ (s : ShellParts). Stands s past) (sym c.self.view_is) before in
    let may = may_stand past.es c.args.event c.requires in
    tells_lifted (shell_of c.self.inside.core c.self.inside.kept.places.entries) (shell_of c.step.new.self c.keep_lifted.new.self.places.entries) c.args.caller c.args.event c.in-Lifted.lifted c.keep_lifted.result past st
    (c.in-Lifted.ensures.answered past.start past.es st.store may) (c.in-Lifted.ensures.stands past.start past.es st.store may) c.keep_lifted.ensures

-- the pieces stay
pub invariant_of-self-in-Version : goal.invariant_of-self-in-Version
invariant_of-self-in-Version c =
    let past = c.self.invariant.0 in
    let st = c.self.invariant.1 in
    let may = may_stand past.es c.args.event c.requires in
    (_, stands_more (shell_of c.self.inside.core c.self.inside.kept.places.entries) (shell_of c.step.new.self c.self.inside.kept.places.entries) past _ st (c.step.ensures.stands past.start past.es st.store may) refl)

pub invariant_of-self-in_default : goal.invariant_of-self-in_default
invariant_of-self-in_default c =
    let past = c.self.invariant.0 in
    let st = c.self.invariant.1 in
    let may = may_stand past.es c.args.event c.requires in
    (_, stands_more (shell_of c.self.inside.core c.self.inside.kept.places.entries) (shell_of c.step.new.self c.self.inside.kept.places.entries) past _ st (c.step.ensures.stands past.start past.es st.store may) refl)

-- a version was finished
pub returns-in-Version-clause-answers : goal.returns-in-Version-clause-answers
returns-in-Version-clause-answers c = λ past before.
    let st = subst (λ (s : ShellParts). Stands s past) (sym c.self.view_is) before in
    let may = may_stand past.es c.args.event c.requires in
    tells_version (shell_of c.self.inside.core c.self.inside.kept.places.entries) (shell_of c.step.new.self c.self.inside.kept.places.entries) c.args.caller c.args.event (found_object after c.in-Version.found) c.version.result past st
    (c.in-Version.ensures.answered past.start past.es st.store may) (c.in-Version.ensures.stands past.start past.es st.store may) refl c.version.ensures

-- any other answer
pub returns-in_default : goal.returns-in_default
returns-in_default c = record {
  answers = λ past before.
      let st = subst (λ (s : ShellParts). Stands s past) (sym c.self.view_is) before in
      let may = may_stand past.es c.args.event c.requires in
      tells_other (shell_of c.self.inside.core c.self.inside.kept.places.entries) (shell_of c.step.new.self c.self.inside.kept.places.entries) c.args.caller c.args.event c.step.result past (is_other c.step.result c.in_default.not-Lifted) st
      (c.step.ensures.answered past.start past.es st.store may) (c.step.ensures.stands past.start past.es st.store may) refl;
  fits = plain_other (asked_by c.args.event) c.step.result c.in_default.not-Version c.step.ensures.fits.told;
}
