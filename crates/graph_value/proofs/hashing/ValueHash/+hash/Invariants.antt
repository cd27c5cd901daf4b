use Rattle.std.proofs.Common.{◌≡◌, fold, take}
use Rattle.std.specs.List.{flat_map}
use Rattle.graph_value.specs.Hash.{hash_of}
use Rattle.graph_value.proofs.hashing.ValueHash.+hash.Given as goal

abbrev pub invariant-loop-item : goal.invariant-loop-item
invariant-loop-item g l =
    l.state ≡ fold g.H.Hasher.write l.initial.state (flat_map hash_of (take l.item-index l.item-items))
