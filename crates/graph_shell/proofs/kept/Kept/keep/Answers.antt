use Rattle.std.specs.Prelude.{Some}
use Rattle.std.specs.BTreeMap.{get}
use Rattle.graph_shell.specs.Kept.{place_cmp}
use Rattle.graph_shell.proofs.Places.{changed_place}
use Rattle.graph_shell.proofs.kept.Kept.keep.Goals as goal

pub returns-in-Ok-clause-ok : goal.returns-in-Ok-clause-ok
returns-in-Ok-clause-ok c = changed_place (get place_cmp c.args.self.now.places) (get place_cmp c.insert.new.self) c.args.caller c.args.x (Some c.args.piece) c.in-Ok.ensures.updates.0
