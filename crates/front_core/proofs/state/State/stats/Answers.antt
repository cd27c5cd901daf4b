use Rattle.std.proofs.Common.{◌≡◌, refl, sym, ap, ◌∙◌, arith}
use Rattle.world_model.specs.Reply as reply
use Rattle.world_model.specs.Step.{answered}
use Rattle.world_model.specs.declared.event.Event.TheVariants.{Stats}
use Rattle.front_core.proofs.Stated.{blocks_are, chain_is, counted_most, deltas_are, few_blocks, stats_told}
use Rattle.front_core.proofs.Stepping.{obeys_step}
use Rattle.front_core.proofs.state.State.stats.Goals as goal

pub counts-history-requires-clause-deltas : goal.counts-history-requires-clause-deltas
counts-history-requires-clause-deltas c =
    let deltas = deltas_are c.args.self.now c.requires.0 c.requires.1 in
    let chain = chain_is c.args.self.now c.requires.0 c.requires.1 in
    let most = counted_most c.args.self.now c.requires.0 c.requires.1 in
    omega (arith, deltas, chain, most)

pub counts-history-requires-clause-blocks : goal.counts-history-requires-clause-blocks
counts-history-requires-clause-blocks c =
    let blocks = blocks_are c.args.self.now c.requires.0 c.requires.1 in
    let few = few_blocks c.args.self.now c.requires.0 c.requires.1 in
    let chain = chain_is c.args.self.now c.requires.0 c.requires.1 in
    let most = counted_most c.args.self.now c.requires.0 c.requires.1 in
    omega (arith, blocks, few, chain, most)

pub overflow_sub-result : goal.overflow_sub-result
overflow_sub-result c =
    let deltas = deltas_are c.args.self.now c.requires.0 c.requires.1 in
    let chain = chain_is c.args.self.now c.requires.0 c.requires.1 in
    omega (arith, deltas, chain, ap (λ n. n.deltas) c.counts-history.ensures)

pub returns : goal.returns
returns c = λ w keeps.
    obeys_step c.args.self.now w w c.args.caller Stats _
    (ap (λ n. answered w (reply.Stats n)) (sym (stats_told c.args.self.now w keeps c.counts-history.result c.counts-history.ensures)))
    refl keeps
