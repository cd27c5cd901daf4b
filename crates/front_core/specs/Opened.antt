-- An open transaction of a world that a state keeps, and a write that it asks for.
use Rattle.std.specs.Prelude.{◌≡◌, ℕ, Some, None, true}
use Rattle.undo_delta.specs.Touch.{touches}
use Rattle.undo_delta.specs.declared.ask.Ask.{Ask}
use Rattle.undo_delta.specs.declared.op.Op.{Op}
use Rattle.world_model.specs.Asked.{named, op_of}
use Rattle.world_model.specs.Op.{changes}
use Rattle.world_model.specs.Refusals.{missing, write_refusal}
use Rattle.world_model.specs.World.{World, Txn, txn_of, view_of}
use Rattle.front_core.specs.Keeps.{Keeps}
use Rattle.front_core.specs.declared.state.State.{State}

pub record Opened (s : State) (w : World) (caller start : ℕ) (p : Txn) : Type 0 where
  pub keeps : Keeps s w
  pub found : txn_of w caller ≡ Some p
  pub began : p.start ≡ start

-- the objects that the write names are there, and this is the write
pub record Asked (w : World) (p : Txn) (ask : Ask) (op : Op) : Type 0 where
  pub present : missing (view_of w p) (named ask) ≡ None
  pub is : op ≡ op_of w (view_of w p) ask

-- nothing refuses the write, and it changes something
pub record Allowed (w : World) (p : Txn) (ask : Ask) (op : Op) : Type 0 where
  pub free : write_refusal w p ask ≡ None
  pub effective : changes op (view_of w p) ≡ true

-- of some world that the state keeps
pub record MayWrite (s : State) (caller start : ℕ) (op : Op) : Type 0 where
  pub world : World
  pub txn : Txn
  pub ask : Ask
  pub opened : Opened s world caller start txn
  pub asked : Asked world txn ask op
  pub allowed : Allowed world txn ask op

-- of some world that the state keeps the caller asks for this write
pub record IsAsked (s : State) (caller start : ℕ) (op : Op) : Type 0 where
  pub world : World
  pub txn : Txn
  pub ask : Ask
  pub opened : Opened s world caller start txn
  pub asked : Asked world txn ask op

-- the caller has a transaction, which sees what the write names
pub record IsReady (s : State) (w : World) (caller : ℕ) (ask : Ask) (start : ℕ) : Type 0 where
  pub txn : Txn
  pub opened : Opened s w caller start txn
  pub present : missing (view_of w txn) (named ask) ≡ None
