use Rattle.std.proofs.Common.{sym, ap, ◌∙◌, ◌-◌, not, arith}
use Rattle.std.proofs.lemmas.List.{get_or_read}
use Rattle.std.proofs.lemmas.Bool.{not_from_true, not_from_false}
use Rattle.version_chain.specs.Entry.{is_before}
use Rattle.version_chain.proofs.Prefixes.{not_before, passes_newer-not_before, prefix_len_from_back}
use Rattle.version_chain.proofs.front.count_not_before.Goals as goal

pub returns-else-is_before-clause-first : goal.returns-else-is_before-clause-first
returns-else-is_before-clause-first g c =
    let es = c.args.entries.now.items in
    let n = c.loop-count.count in
    let read = get_or_read es (n - 1) c.index.result.now (omega arith) c.index.ensures in
    sym (prefix_len_from_back (not_before c.args.mark) (passes_newer-not_before c.args.mark) es c.requires n c.loop-count.invariant.within (λ d above. ap (λ e. not (is_before c.args.mark e)) (sym (read d)) ∙ not_from_false _ (sym c.is_before.ensures ∙ c.if-is_before.false)) (λ d below. not_from_true _ (c.loop-count.invariant.passed n d (omega arith) below)))

pub returns-after-loop-count-clause-first : goal.returns-after-loop-count-clause-first
returns-after-loop-count-clause-first g c =
    let es = c.args.entries.now.items in
    let n = c.loop-count.count in
    sym (prefix_len_from_back (not_before c.args.mark) (passes_newer-not_before c.args.mark) es c.requires n c.loop-count.invariant.within (λ d above. absurd (omega arith)) (λ d below. not_from_true _ (c.loop-count.invariant.passed n d (omega arith) below)))
