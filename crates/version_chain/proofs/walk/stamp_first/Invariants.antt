use Rattle.std.proofs.Common.{◌≡◌, ◌++◌, map, take, drop}
use Rattle.std.specs.VecDeque.{deque_len}
use Rattle.version_chain.specs.Entry.{stamped}
use Rattle.version_chain.proofs.walk.stamp_first.Given as goal

abbrev pub invariant-loop-i : goal.invariant-loop-i
invariant-loop-i g l = record {
  items : l.entries.items ≡ map (stamped l.ts) (take l.i l.initial.entries.items) ++ drop l.i l.initial.entries.items;
  len : deque_len l.entries ≡ deque_len l.initial.entries;
}
