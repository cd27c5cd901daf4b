use Rattle.std.proofs.Common.{[], drop, sym, ◌∙◌, arith}
use Rattle.std.proofs.lemmas.List.{at_drop_more, at_drop_all}
use Rattle.std.specs.Cmp.Lexicographic.{slice_cmp}
use Rattle.graph_value.specs.Order.{order_of}
use Rattle.graph_value.specs.declared.value.Value.TheVariants.{Null}
use Rattle.graph_value.proofs.OrderLemmas.{order_of-List}
use Rattle.graph_value.proofs.sorting.+order.Goals as goal

pub order-returns-in-List-List : goal.order-returns-in-List-List
order-returns-in-List-List t c = cc (order_of-List c.in-List-List.a c.in-List-List.b)

pub order_lists-returns-then-a-b : goal.order_lists-returns-then-a-b
order_lists-returns-then-a-b t c =
    let xs = c.args.a.now in
    let ys = c.args.b.now in
    let i = c.loop-i.i in
    sym (at_drop_more (λ bs. slice_cmp order_of [] bs) ys i Null (omega arith))
    ∙ sym (at_drop_all (λ items. slice_cmp order_of items (drop i ys)) xs i (omega arith))
    ∙ c.loop-i.invariant.1
