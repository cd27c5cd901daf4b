use Rattle.std.proofs.Common.{◌≡◌, ◌++◌, map, drop, length}
use Rattle.row_ops.specs.Compiling.{all, all_parts, pair_part, beside_part, pred_part, post_part}
use Rattle.row_ops.proofs.compiling.+filled.Given as goal

-- What is done, and what is left where so many aggregates were found, are the whole.

abbrev pub invariant-all_filled-loop-item : goal.invariant-all_filled-loop-item
invariant-all_filled-loop-item l = record {
  filled : l.done ++ (all_parts (drop l.item-index l.items)).filled (length l.found) ≡ (all_parts l.items).filled (length l.fn.found);
  found : l.found ++ (all_parts (drop l.item-index l.items)).aggregates ≡ l.fn.found ++ (all_parts l.items).aggregates;
}

abbrev pub invariant-whens_filled-loop-condition : goal.invariant-whens_filled-loop-condition
invariant-whens_filled-loop-condition l = record {
  filled : l.done ++ (all (map pair_part (drop l.condition-index l.whens))).filled (length l.found) ≡ (all (map pair_part l.whens)).filled (length l.fn.found);
  found : l.found ++ (all (map pair_part (drop l.condition-index l.whens))).aggregates ≡ l.fn.found ++ (all (map pair_part l.whens)).aggregates;
}

abbrev pub invariant-compared_filled-loop-op : goal.invariant-compared_filled-loop-op
invariant-compared_filled-loop-op l = record {
  filled : l.done ++ (all (map beside_part (drop l.op-index l.rest))).filled (length l.found) ≡ (all (map beside_part l.rest)).filled (length l.fn.found);
  found : l.found ++ (all (map beside_part (drop l.op-index l.rest))).aggregates ≡ l.fn.found ++ (all (map beside_part l.rest)).aggregates;
}

abbrev pub invariant-added_filled-loop-op : goal.invariant-added_filled-loop-op
invariant-added_filled-loop-op l = record {
  filled : l.done ++ (all (map beside_part (drop l.op-index l.rest))).filled (length l.found) ≡ (all (map beside_part l.rest)).filled (length l.fn.found);
  found : l.found ++ (all (map beside_part (drop l.op-index l.rest))).aggregates ≡ l.fn.found ++ (all (map beside_part l.rest)).aggregates;
}

abbrev pub invariant-multiplied_filled-loop-op : goal.invariant-multiplied_filled-loop-op
invariant-multiplied_filled-loop-op l = record {
  filled : l.done ++ (all (map beside_part (drop l.op-index l.rest))).filled (length l.found) ≡ (all (map beside_part l.rest)).filled (length l.fn.found);
  found : l.found ++ (all (map beside_part (drop l.op-index l.rest))).aggregates ≡ l.fn.found ++ (all (map beside_part l.rest)).aggregates;
}

abbrev pub invariant-tests_filled-loop-test : goal.invariant-tests_filled-loop-test
invariant-tests_filled-loop-test l = record {
  filled : l.done ++ (all (map pred_part (drop l.test-index l.tests))).filled (length l.found) ≡ (all (map pred_part l.tests)).filled (length l.fn.found);
  found : l.found ++ (all (map pred_part (drop l.test-index l.tests))).aggregates ≡ l.fn.found ++ (all (map pred_part l.tests)).aggregates;
}

abbrev pub invariant-asked_filled-loop-op : goal.invariant-asked_filled-loop-op
invariant-asked_filled-loop-op l = record {
  filled : l.done ++ (all (map post_part (drop l.op-index l.asked))).filled (length l.found) ≡ (all (map post_part l.asked)).filled (length l.fn.found);
  found : l.found ++ (all (map post_part (drop l.op-index l.asked))).aggregates ≡ l.fn.found ++ (all (map post_part l.asked)).aggregates;
}
