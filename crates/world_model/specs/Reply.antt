-- What an answer says. A version that is answered may still have to be rebuilt from a block of history.
use Rattle.std.specs.Prelude.{ℕ, Option}
use Rattle.graph_record.specs.declared.object.Object.{Object}
use Rattle.undo_delta.specs.Apply.{after}
use Rattle.anchor_store.specs.Found.{found_object}
use Rattle.world_model.specs.Pieces.{LiftedParts}
use Rattle.world_model.specs.declared.answer.Answer.{Answer}
use Rattle.world_model.specs.declared.answer.Answer.TheVariants as answer
use Rattle.world_model.specs.declared.answer.Marked.{Marked as Standing}
use Rattle.world_model.specs.declared.answer.Refused.{Refused as Refusal}
use Rattle.world_model.specs.declared.answer.Refused.TheVariants.{NoMemory}
use Rattle.world_model.specs.declared.answer.Stats.{Stats as Counts}
use Rattle.world_model.specs.declared.answer.Wrote.{Wrote as Written}

pub data Reply : Type 0 where
  Begun : ℕ → Reply
  Id : Option ℕ → Reply
  Version : Object → Reply
  Wrote : Written → Reply
  Committed : ℕ → Reply
  Aborted : Reply
  Marked : Standing → Reply
  Lifted : LiftedParts → Reply
  Installed : Reply
  Stats : Counts → Reply
  Refused : Refusal → Reply

-- An installation that found no memory hands the piece back, and is a refusal like any other.
abbrev pub reply_of : Answer → Reply
reply_of (answer.Begun start) = Begun start
reply_of (answer.Id id) = Id id
reply_of (answer.Version found) = Version (found_object after found)
reply_of (answer.Wrote wrote) = Wrote wrote
reply_of (answer.Committed ts) = Committed ts
reply_of answer.Aborted = Aborted
reply_of (answer.Marked marked) = Marked marked
reply_of (answer.Lifted lifted) = Lifted lifted
reply_of answer.Installed = Installed
reply_of (answer.NotInstalled piece) = Refused NoMemory
reply_of (answer.Stats stats) = Stats stats
reply_of (answer.Refused why) = Refused why
