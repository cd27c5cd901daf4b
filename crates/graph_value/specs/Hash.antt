-- What a value feeds a hasher: the place of its kind, and then what it holds.
use Rattle.std.specs.Prelude.{◌++◌}
use Rattle.std.specs.Hash as fed
use Rattle.graph_value.specs.declared.value.Value.{Value, fold-Value}
use Rattle.graph_value.specs.declared.value.Value.TheOpen.{Value-F}

-- one level, with what each element feeds in its place
abbrev pub hash_level : Value-F fed.HashWrites → fed.HashWrites
hash_level Value-F.Null = fed.u8 0
hash_level (Value-F.Bool b) = fed.u8 1 ++ fed.bool b
hash_level (Value-F.Int n) = fed.u8 2 ++ fed.i64 n
hash_level (Value-F.Text text) = fed.u8 3 ++ fed.str text
hash_level (Value-F.List writes) = fed.u8 4 ++ fed.slice (λ w. w) writes
hash_level (Value-F.Vertex v) = fed.u8 5 ++ fed.u64 v.0
hash_level (Value-F.Edge e) = fed.u8 6 ++ fed.u64 e.0

abbrev pub hash_of : Value → fed.HashWrites
hash_of = fold-Value fed.HashWrites hash_level
