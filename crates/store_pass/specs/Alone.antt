-- The histories that a core stands for.
use Rattle.std.specs.Prelude.{◌≡◌, ℕ, List}
use Rattle.world_model.specs.History.{Entry, IsLegal, IsStart, run}
use Rattle.world_model.specs.Sending.{open_start}
use Rattle.world_model.specs.World.{Start, start_world}
use Rattle.front_core.specs.Keeps.{StandsFor, open_in}
use Rattle.front_core.specs.declared.state.State.{State}
use Rattle.front_core.proofs.Stepping.{open_is}

-- they are legal
pub solo_legal : (k : State) (s : Start) (es : List Entry) → StandsFor s k es → IsStart s × IsLegal s es
solo_legal k s es st = (st.start, st.legal)

-- in each of them every caller has open what it has open in the core
pub solo_opened : (k : State) (c : ℕ) (s : Start) (es : List Entry) → StandsFor s k es → open_start (run (start_world s) es) c ≡ open_in k c
solo_opened k c s es st = open_is k (run (start_world s) es) c st.keeps
