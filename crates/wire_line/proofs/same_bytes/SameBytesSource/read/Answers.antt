use Rattle.std.proofs.Common.{◌≡◌, ℕ, ◌≤◌, length, replicate, ap, ◌∙◌, arith, take_at}
use Rattle.std.proofs.lemmas.List.{length-take-le}
use Rattle.wire_line.proofs.Memory.{same_came}
use Rattle.wire_line.proofs.same_bytes.SameBytesSource.read.Goals as goal

pub returns-clause-came : goal.returns-clause-came
returns-clause-came c =
    let count : ℕ = c.min-count.result in
    let fits : count ≤ length c.args.buf.now = omega (arith, c.min-count.ensures) in
    let same : c.fill.new.self ≡ replicate count c.self.inside.byte =
    c.fill.ensures.after (λ y same. same) ∙ ap (λ (n : ℕ). replicate n c.self.inside.byte) (length-take-le count c.args.buf.now fits) in
    let filled : length c.fill.new.self ≡ count = c.fill.ensures.len ∙ length-take-le count c.args.buf.now fits in
    rw (← c.self.view_is)
    (same_came _ c.self.inside.byte c.self.inside.given count (take_at c.fill.new.self _ count filled ∙ same))
