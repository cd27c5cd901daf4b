-- What undoes the commits at one object: the deltas that their writes left there.
use Rattle.std.specs.Prelude.{ℕ, List, [], ◌∷◌, ◌++◌, Option, Some, None, nat_lt, map, filter, reverse, if◌then◌else◌}
use Rattle.graph_value.specs.declared.id.Oid.{Oid}
use Rattle.graph_record.specs.declared.object.Object.{Object}
use Rattle.graph_record.specs.Graph.{Graph, empty_graph, object_at}
use Rattle.undo_law.specs.Undone.{undone, deltas_of}
use Rattle.undo_law.specs.declared.dated.Dated.{Dated}
use Rattle.undo_delta.specs.Apply.{after}
use Rattle.undo_delta.specs.Change as one
use Rattle.undo_delta.specs.Touch.{is_touched}
use Rattle.undo_delta.specs.declared.delta.Delta.{Delta}
use Rattle.undo_delta.specs.declared.delta.DeltaPair.{DeltaPair}
use Rattle.undo_delta.specs.declared.op.Op.{Op}
use Rattle.world_model.specs.Op.{apply, apply_all}
use Rattle.world_model.specs.World.{World, Commit, Txn, fold_of, before}

abbrev pub or_nothing : Option Delta → List Delta
or_nothing None = []
or_nothing (Some d) = d ∷ []

-- the deltas of a pair, the older first
abbrev pub both : DeltaPair → List Delta
both pair = or_nothing pair.first ++ or_nothing pair.second

-- the deltas that a write leaves on an object, the older first: none where it doesn't touch it
abbrev pub left_by : Op → Oid → Object → List Delta
left_by op x o = if is_touched op x then both (one.deltas_of op x o) else []

-- the deltas that writes leave on an object, the oldest first; each has the old values of the graph before its write
unfoldable pub left_by_all : List Op → Oid → Graph → List Delta
left_by_all [] x g = []
left_by_all (op ∷ ops) x g = left_by op x (object_at g x) ++ left_by_all ops x (apply op g)

abbrev pub dated : ℕ → List Delta → List (Dated Delta)
dated ts deltas = map (λ d. record { ts = ts; delta = d }) deltas

-- and those that commits leave, each with its commit's timestamp
unfoldable pub left_since : Graph → List Commit → Oid → List (Dated Delta)
left_since g [] x = []
left_since g (c ∷ cs) x = dated c.ts (left_by_all c.ops x g) ++ left_since (apply_all c.ops g) cs x

-- the deltas that an open transaction's writes leave on an object, the newest first
abbrev pub open_list : World → Txn → Oid → List Delta
open_list w p x = reverse (left_by_all p.ops x (fold_of (before p.start w.commits)))

-- all deltas that the commits of a world left on an object, the newest first
abbrev pub undo_list : World → Oid → List (Dated Delta)
undo_list w x = reverse (left_since empty_graph w.commits x)

-- the object with its deltas above an instant undone
abbrev pub undone_above : ℕ → Object → List (Dated Delta) → Object
undone_above t o deltas = undone after o (deltas_of (filter (λ d. nat_lt t d.ts) deltas))
