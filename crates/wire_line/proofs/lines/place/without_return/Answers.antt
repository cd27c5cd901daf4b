use Rattle.wire_line.proofs.Spans.{range-return, range-other, range-none}
use Rattle.wire_line.proofs.lines.place.without_return.Goals as goal
use Rattle.wire_line.proofs.lines.place.without_return.Goals.{else-from-to-via-then-from-to+else-bytes-to-eq-CARRIAGE_RETURN, else-from-to-via-else-from-to}

pub returns-then-bytes-to-eq-CARRIAGE_RETURN-clause-text :
    goal.returns-then-bytes-to-eq-CARRIAGE_RETURN-clause-text
returns-then-bytes-to-eq-CARRIAGE_RETURN-clause-text c =
    range-return c.args.bytes.now c.args.from c.args.to c.if-from-to.true c.requires.inside c.if-bytes-to-eq-CARRIAGE_RETURN.true

pub returns-else-from-to-clause-text : goal.returns-else-from-to-clause-text
returns-else-from-to-clause-text c =
    elim c.else-from-to.branch [
      | else-from-to-via-then-from-to+else-bytes-to-eq-CARRIAGE_RETURN w ↦
          range-other c.args.bytes.now c.args.from c.args.to w.if-from-to.true c.requires.inside w.if-bytes-to-eq-CARRIAGE_RETURN.false
      | else-from-to-via-else-from-to w ↦ range-none c.args.bytes.now c.args.from c.args.to w.if-from-to.false
    ]
