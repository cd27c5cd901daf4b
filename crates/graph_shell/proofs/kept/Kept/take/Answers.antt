use Rattle.std.proofs.Common.{◌≡◌, ℕ, Option, None, refl, ap, sym, ◌∙◌}
use Rattle.std.specs.Prelude.{is_some, IsSome}
use Rattle.std.specs.BTreeMap.{BTreeMap, get}
use Rattle.graph_value.specs.declared.id.Oid.{Oid}
use Rattle.world_model.specs.Pieces.{PieceParts}
use Rattle.graph_shell.specs.Kept.{place_cmp, pieces_in}
use Rattle.graph_shell.specs.Pieces.{keeping}
use Rattle.graph_shell.proofs.Places.{written_place, no_place}
use Rattle.graph_shell.proofs.kept.Kept.take.Goals as goal

-- there is no place
pub returns-in_err-get_mut-clause-kept : goal.returns-in_err-get_mut-clause-kept
returns-in_err-get_mut-clause-kept c =
    let none : get place_cmp c.args.self.now.places (c.args.caller, c.args.x) ≡ None = sym c.get_mut.ensures.value ∙ rw c.in_err-get_mut.was refl in
    ap (λ (m : BTreeMap (ℕ × Oid) (Option PieceParts)). pieces_in m.entries) c.get_mut.follows.holds-at-none
    ∙ no_place (get place_cmp c.args.self.now.places) c.args.caller c.args.x none

-- the place is empty now
pub returns-clause-kept : goal.returns-clause-kept
returns-clause-kept c =
    let there : IsSome (get place_cmp c.args.self.now.places (c.args.caller, c.args.x)) = ap is_some (sym c.in_ok-get_mut.ensures.value) in
    written_place c.args.self.now.places (c.get_mut.follows.lender c.take.new.self) c.args.caller c.args.x c.take.new.self (c.get_mut.follows.holds c.take.new.self) there
    ∙ ap (λ (place : Option PieceParts). keeping c.args.caller c.args.x place (pieces_in c.args.self.now.places.entries)) c.take.ensures.after
