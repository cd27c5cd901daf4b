use Rattle.std.proofs.Common.{◌∷◌, rules}
use Rattle.std.proofs.lemmas.Fn.{always_returns_same}
use Rattle.row_ops.specs.Sorting.{is_before}
use Rattle.row_ops.proofs.KeysLemmas.{before}
use Rattle.row_ops.proofs.SortLemmas.{sorts}
use Rattle.row_ops.proofs.sorting.in_order.Goals as goal

pub returns : goal.returns
returns c =
    let lt = is_before (c.args.first.now ∷ c.args.others.now) in
    let order = before (c.args.first.now ∷ c.args.others.now) in
    let sorted = c.in_ok-sort_by.ensures in
    sorts lt order c.args.keyed.items c.sort_by.new.self.items
    (sorted.sorted lt order (always_returns_same _ _ _ (λ a r f k. search rules)))
    (sorted.stable lt order (always_returns_same _ _ _ (λ a r f k. search rules)))
