use Rattle.std.proofs.Common.{sym, subst}
use Rattle.front_core.specs.Keeps.{StandsFor, first_start}
use Rattle.script_desk.specs.Script.{nothing_yet}
use Rattle.script_desk.proofs.Turning.{fresh}
use Rattle.script_desk.proofs.desk.Desk.new.Goals as goal

pub invariant_of-result : goal.invariant_of-result
invariant_of-result c = (
  nothing_yet (first_start c.args.anchor),
  fresh c.args.anchor _ _ (subst (λ k. StandsFor (first_start c.args.anchor) k _) (sym c.over.ensures.core) c.in_ok-core.ensures) c.new-2.ensures,
)

pub returns : goal.returns
returns c =
    fresh c.args.anchor _ _ (subst (λ k. StandsFor (first_start c.args.anchor) k _) (sym c.over.ensures.core) c.in_ok-core.ensures) c.new-2.ensures
