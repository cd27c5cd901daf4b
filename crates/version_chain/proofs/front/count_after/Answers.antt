use Rattle.std.proofs.Common.{sym, ap, ◌∙◌, arith}
use Rattle.std.proofs.lemmas.List.{get_or_read}
use Rattle.version_chain.specs.Entry.{is_after}
use Rattle.version_chain.proofs.Prefixes.{prefix_len_at}
use Rattle.version_chain.proofs.front.count_after.Goals as goal

pub returns-else-is_after-clause-first : goal.returns-else-is_after-clause-first
returns-else-is_after-clause-first g c =
    sym (prefix_len_at (is_after c.args.t) c.args.entries.now.items c.loop-count.count c.loop-count.invariant.within c.loop-count.invariant.passed (λ d below. ap (is_after c.args.t) (sym (get_or_read c.args.entries.now.items c.loop-count.count c.index.result.now below c.index.ensures d)) ∙ sym c.is_after.ensures ∙ c.if-is_after.false))

pub returns-after-loop-count-clause-first : goal.returns-after-loop-count-clause-first
returns-after-loop-count-clause-first g c =
    sym (prefix_len_at (is_after c.args.t) c.args.entries.now.items c.loop-count.count c.loop-count.invariant.within c.loop-count.invariant.passed (λ d below. absurd (omega arith)))
