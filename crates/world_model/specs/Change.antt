-- What writes do to one object: an object's own account of its life.
use Rattle.std.specs.Prelude.{List, [], ◌∷◌, if◌then◌else◌}
use Rattle.graph_value.specs.declared.id.Oid.{Oid}
use Rattle.graph_record.specs.declared.object.Object.{Object}
use Rattle.undo_delta.specs.Change.{changed}
use Rattle.undo_delta.specs.Touch.{is_touched}
use Rattle.undo_delta.specs.declared.op.Op.{Op}

-- what a write leaves of an object
abbrev pub object_after : Op → Oid → Object → Object
object_after op x o = if is_touched op x then changed op x o else o

-- what the writes leave of an object
unfoldable pub object_after_all : List Op → Oid → Object → Object
object_after_all [] x o = o
object_after_all (op ∷ ops) x o = object_after_all ops x (object_after op x o)
