use Rattle.std.specs.Prelude.{Some}
use Rattle.graph_shell.proofs.Places.{written_place}
use Rattle.graph_shell.proofs.kept.Kept.put_back.Goals as goal

pub returns-in-Some : goal.returns-in-Some
returns-in-Some c = record { kept = written_place c.args.self.now.places (c.get_mut.follows.lender (Some c.args.piece)) c.args.caller c.args.x (Some c.args.piece) (c.get_mut.follows.holds (Some c.args.piece)) c.requires.place }
