use Rattle.std.proofs.Common.{sym, ◌∙◌, rules}
use Rattle.cypher_parse.proofs.Stages.{stages_begin, stages_stopped, stages_go_on, stages_shrink}
use Rattle.cypher_parse.proofs.queries.stages.Goals as goal

pub returns-in_err-behind : goal.returns-in_err-behind
returns-in_err-behind c = let stopped = stages_stopped c.args.tokens.now c.clauses.new.tokens c.in_err-behind.field-0.0 c.in_err-behind.ensures in search rules

pub loop-alloc-init : goal.loop-alloc-init
loop-alloc-init c = stages_begin c.args.tokens.now c.clauses.new.tokens c.in_ok-behind.behind c.new-stages.result c.in_ok-behind.ensures c.new-stages.ensures

pub loop-alloc-smaller : goal.loop-alloc-smaller
loop-alloc-smaller c = stages_shrink c.loop-alloc.tokens c.stage.new.tokens (c.in_ok-next.next, c.in_ok-next.more) c.in_ok-next.ensures

pub loop-alloc-preserved : goal.loop-alloc-preserved
loop-alloc-preserved c =
    stages_go_on _ c.loop-alloc.stages c.push.new.self c.loop-alloc.behind c.in_ok-next.more c.in_ok-next.next c.in_ok-clauses.clauses c.loop-alloc.tokens c.stage.new.tokens
    c.loop-alloc.invariant (sym c.at.ensures ∙ c.loop-alloc-test.true) c.in_ok-next.ensures c.in_ok-clauses.ensures c.in_ok-push.ensures.ok
