use Rattle.std.proofs.Common.{◌-◌, [], ◌∷◌, ◌++◌, to_z, ap, ◌∙◌, arith}
use mir.Syntax.{w128}
use Rattle.std.proofs.lemmas.Int.{ints}
use Rattle.graph_value.specs.declared.value.Value.TheVariants as value
use Rattle.expr_eval.proofs.Counting.{counted_step}
use Rattle.expr_eval.proofs.lists.counted.Goals as goal

pub loop-made-preserved : goal.loop-made-preserved
loop-made-preserved c = record {
  next = omega (arith, ints);
  items = counted_step c.loop-made.items c.push.new.self _ (to_z w128 c.loop-made.next-bits) _ (c.args.count - c.loop-made.made) _ (omega (arith, ints)) (omega arith)
      (c.in_ok-push.ensures.ok ∙ ap (λ m. c.loop-made.items ++ value.Int m ∷ []) (omega (arith, ints)))
      c.loop-made.invariant.items;
}
