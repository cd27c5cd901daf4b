use Rattle.std.proofs.Common.{◌+◌, drop}
use Rattle.expr_eval.specs.Outcome.{and_then}
use Rattle.expr_eval.proofs.Turns.{goes, stops, passes, turns}
use Rattle.row_ops.specs.Unwinding.{unwound_row, unwound_on, unwound_of}
use Rattle.row_ops.proofs.Moved.{unwound_step}
use Rattle.row_ops.proofs.unwinding.unwound.Goals as goal

pub returns-in_err-rows : goal.returns-in_err-rows
returns-in_err-rows g c =
    let S = g.G.GraphRead.stands in
    let F = g.G.GraphRead.follows in
    let L = g.met.G.GraphRead in
    let table = c.args.table.now in
    let u = c.args.clause.now in
    let i = c.loop-row.row-index in
    let row = c.row-item.result in
    let refused = c.in_err-rows.field-0.0 in
    passes S F L.itself L.onward (λ w. unwound_of w table u) _ _ _ refused c.from_residual.ensures.1
    (stops S F L.itself L.onward (λ w. unwound_of w table u) (λ w. unwound_row w u c.loop-row.rows row) (λ all w. unwound_on w u all (drop (i + 1) table)) _ _ _ refused
    (turns S F L.itself L.onward (λ w. unwound_of w table u) (λ w. unwound_on w u c.loop-row.rows (drop i table)) (λ w. and_then (unwound_row w u c.loop-row.rows row) (λ all. unwound_on w u all (drop (i + 1) table))) _ _ c.loop-row.invariant (λ w. unwound_step w u c.loop-row.rows table i row c.loop-row-test.true c.row-item.is))
    c.in_err-rows.ensures)

pub loop-row-preserved : goal.loop-row-preserved
loop-row-preserved g c =
    let S = g.G.GraphRead.stands in
    let F = g.G.GraphRead.follows in
    let L = g.met.G.GraphRead in
    let table = c.args.table.now in
    let u = c.args.clause.now in
    let i = c.loop-row.row-index in
    let row = c.row-item.result in
    goes S F L.itself L.onward (λ w. unwound_of w table u) (λ w. unwound_row w u c.loop-row.rows row) (λ all w. unwound_on w u all (drop (i + 1) table)) _ _ _ c.in_ok-rows.rows
    (turns S F L.itself L.onward (λ w. unwound_of w table u) (λ w. unwound_on w u c.loop-row.rows (drop i table)) (λ w. and_then (unwound_row w u c.loop-row.rows row) (λ all. unwound_on w u all (drop (i + 1) table))) _ _ c.loop-row.invariant (λ w. unwound_step w u c.loop-row.rows table i row c.loop-row-test.true c.row-item.is))
    c.in_ok-rows.ensures
