-- The piece that a caller keeps is sent to the store.
use Rattle.std.proofs.Common.{◌≡◌, Some, None, cond, refl, sym, ap, subst, ◌∙◌}
use Rattle.world_model.specs.Pieces.{PieceParts}
use Rattle.world_model.specs.Reply.{reply_of}
use Rattle.world_model.specs.Reply as reply
use Rattle.world_model.specs.declared.answer.Refused.TheVariants as refused
use Rattle.world_model.specs.declared.event.Asked.TheVariants as asked
use Rattle.front_core.specs.declared.state.State.{State}
use Rattle.event_lines.specs.declared.told.Told.TheVariants as told
use Rattle.graph_shell.specs.Kept.{Places, pieces_in}
use Rattle.graph_shell.specs.Pieces.{keeping}
use Rattle.event_lines.specs.Reply.{installed_text}
use Rattle.graph_shell.specs.Stands.{ShellParts, Stands}
use Rattle.event_lines.specs.Told.{told_text}
use Rattle.graph_shell.proofs.Answering.{is_of_some, tells_taken, tells_none, put_back, some_past, left_text, left_memory, is_left, plain_nothing}
use Rattle.graph_shell.proofs.shell.Shell.install.Goals as goal

abbrev shell_of : State → Places → ShellParts
shell_of core places = record { core = core; places = places }

-- there is no piece
pub invariant_of-self : goal.invariant_of-self
invariant_of-self c =
    some_past (tells_none (shell_of c.self.inside.core c.self.inside.kept.places.entries) (shell_of c.self.inside.core c.take.new.self.places.entries) c.args.caller c.args.x
    (sym c.take.ensures.piece ∙ c.in_default.is) refl c.take.ensures.kept c.self.invariant.0 c.self.invariant.1)

pub returns-in_default-clause-answers : goal.returns-in_default-clause-answers
returns-in_default-clause-answers c = λ past st.
    tells_none (shell_of c.self.inside.core c.self.inside.kept.places.entries) (shell_of c.self.inside.core c.take.new.self.places.entries) c.args.caller c.args.x
    (sym c.take.ensures.piece ∙ c.in_default.is) refl c.take.ensures.kept past (subst (λ (s : ShellParts). Stands s past) (sym c.self.view_is) st)

-- the piece is of what the shell stands for
pub step-requires : goal.step-requires
step-requires c =
    is_of_some (shell_of c.self.inside.core c.self.inside.kept.places.entries) c.self.invariant.0 c.args.caller c.args.x c.in-Some.piece c.self.invariant.1 (sym c.take.ensures.piece ∙ c.in-Some.is)

-- it is installed
pub invariant_of-self-in-Installed : goal.invariant_of-self-in-Installed
invariant_of-self-in-Installed c =
    some_past (tells_taken (shell_of c.self.inside.core c.self.inside.kept.places.entries) (shell_of c.step.new.self c.take.new.self.places.entries) c.args.caller c.args.x c.in-Some.piece reply.Installed (told.Installed c.args.x c.in-Some.piece.mark)
    (sym c.take.ensures.piece ∙ c.in-Some.is) c.in-Installed.ensures.answered c.in-Installed.ensures.stands refl c.take.ensures.kept c.self.invariant.0 c.self.invariant.1)

pub returns-in-Installed-clause-answers : goal.returns-in-Installed-clause-answers
returns-in-Installed-clause-answers c = λ past st.
    tells_taken (shell_of c.self.inside.core c.self.inside.kept.places.entries) (shell_of c.step.new.self c.take.new.self.places.entries) c.args.caller c.args.x c.in-Some.piece reply.Installed (told.Installed c.args.x c.piece.inside.mark)
    (sym c.take.ensures.piece ∙ c.in-Some.is) c.in-Installed.ensures.answered c.in-Installed.ensures.stands (ap (λ (p : PieceParts). installed_text c.args.x p.mark) c.piece.view_is) c.take.ensures.kept
    past (subst (λ (s : ShellParts). Stands s past) (sym c.self.view_is) st)

-- it found no memory, and is put back
pub invariant_of-self-in-NotInstalled : goal.invariant_of-self-in-NotInstalled
invariant_of-self-in-NotInstalled c =
    let took = sym c.take.ensures.piece ∙ c.in-Some.is in
    let back = c.put_back.ensures.kept ∙ ap (λ (p : PieceParts). keeping c.args.caller c.args.x (Some p) (pieces_in c.take.new.self.places.entries)) c.in-NotInstalled.ensures.hands_back
    ∙ ap (keeping c.args.caller c.args.x (Some c.in-Some.piece)) c.take.ensures.kept ∙ put_back c.args.caller c.args.x c.in-Some.piece (pieces_in c.self.inside.kept.places.entries) took in
    some_past (tells_taken (shell_of c.self.inside.core c.self.inside.kept.places.entries) (shell_of c.step.new.self c.put_back.new.self.places.entries) c.args.caller c.args.x c.in-Some.piece (reply.Refused refused.NoMemory) c.wanting.result
    took c.in-NotInstalled.ensures.answered c.in-NotInstalled.ensures.stands (ap (told_text asked.Nothing) c.wanting.ensures) back c.self.invariant.0 c.self.invariant.1)

pub returns-in-NotInstalled-clause-answers : goal.returns-in-NotInstalled-clause-answers
returns-in-NotInstalled-clause-answers c = λ past st.
    let took = sym c.take.ensures.piece ∙ c.in-Some.is in
    let back = c.put_back.ensures.kept ∙ ap (λ (p : PieceParts). keeping c.args.caller c.args.x (Some p) (pieces_in c.take.new.self.places.entries)) c.in-NotInstalled.ensures.hands_back
    ∙ ap (keeping c.args.caller c.args.x (Some c.in-Some.piece)) c.take.ensures.kept ∙ put_back c.args.caller c.args.x c.in-Some.piece (pieces_in c.self.inside.kept.places.entries) took in
    tells_taken (shell_of c.self.inside.core c.self.inside.kept.places.entries) (shell_of c.step.new.self c.put_back.new.self.places.entries) c.args.caller c.args.x c.in-Some.piece (reply.Refused refused.NoMemory) c.wanting.result
    took c.in-NotInstalled.ensures.answered c.in-NotInstalled.ensures.stands (ap (told_text asked.Nothing) c.wanting.ensures) back past (subst (λ (s : ShellParts). Stands s past) (sym c.self.view_is) st)

-- it is stale
pub invariant_of-self-in_default-step : goal.invariant_of-self-in_default-step
invariant_of-self-in_default-step c =
    let left = is_left c.step.result c.in_default-step.not-Installed c.in_default-step.not-NotInstalled in
    let before = pieces_in c.self.inside.kept.places.entries in
    some_past (tells_taken (shell_of c.self.inside.core c.self.inside.kept.places.entries) (shell_of c.step.new.self c.take.new.self.places.entries) c.args.caller c.args.x c.in-Some.piece (reply_of c.step.result) (told.Answer c.step.result)
    (sym c.take.ensures.piece ∙ c.in-Some.is) c.step.ensures.answered c.step.ensures.stands (left_text c.args.x c.in-Some.piece c.step.result left)
    (c.take.ensures.kept ∙ sym (ap (λ b. cond b before (keeping c.args.caller c.args.x None before)) (left_memory c.in-Some.piece c.step.result left c.step.ensures.hands_back))) c.self.invariant.0 c.self.invariant.1)

pub returns-in_default-step : goal.returns-in_default-step
returns-in_default-step c =
    let left = is_left c.step.result c.in_default-step.not-Installed c.in_default-step.not-NotInstalled in
    let before = pieces_in c.self.inside.kept.places.entries in
    record {
      answers = λ past st. tells_taken (shell_of c.self.inside.core c.self.inside.kept.places.entries) (shell_of c.step.new.self c.take.new.self.places.entries) c.args.caller c.args.x c.in-Some.piece (reply_of c.step.result) (told.Answer c.step.result)
          (sym c.take.ensures.piece ∙ c.in-Some.is) c.step.ensures.answered c.step.ensures.stands (left_text c.args.x c.in-Some.piece c.step.result left)
          (c.take.ensures.kept ∙ sym (ap (λ b. cond b before (keeping c.args.caller c.args.x None before)) (left_memory c.in-Some.piece c.step.result left c.step.ensures.hands_back))) past (subst (λ (s : ShellParts). Stands s past) (sym c.self.view_is) st);
      fits = plain_nothing c.step.result c.step.ensures.fits.told;
    }
