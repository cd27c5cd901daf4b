-- In a new core nobody has a transaction open.
use Rattle.std.proofs.Common.{◌≡◌, ℕ, [], None, sym}
use Rattle.front_core.specs.Keeps.{StandsFor, first_start, open_in}
use Rattle.front_core.specs.declared.state.State.{State}
use Rattle.store_pass.specs.Alone.{solo_opened}
use Rattle.world_model.specs.History.{run}
use Rattle.world_model.specs.World.{find_txn}

pub none_open : (core : State) (caller : ℕ) → StandsFor (first_start 1) core [] → open_in core caller ≡ None
unfolding run find_txn
none_open core caller st = sym (solo_opened core caller (first_start 1) [] st)
