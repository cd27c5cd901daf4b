use Rattle.std.proofs.Common.{◌≡◌, ℕ, ◌+◌, ◌-◌, ◌≤◌, List, ◌++◌, take, drop, refl, ap, ◌∙◌, arith}
use Rattle.std.proofs.lemmas.List.{append-nil}
use Rattle.wire_line.specs.declared.lines.TheConstants.{CAPACITY}
use Rattle.wire_line.specs.declared.line.TheConstants.{INPUT_LIMIT}
use Rattle.std.specs.Prelude.{slice_range}
use Rattle.wire_line.proofs.Parts.{part_more, waiting_more, grows_more, ahead_more}
use Rattle.wire_line.proofs.Told.{told_consumes, told_keeps}
use Rattle.wire_line.proofs.lines.Lines.take.Goals as goal

pub invariant_of-self : goal.invariant_of-self
invariant_of-self g c =
    part_more c.self.inside.bytes.items c.read_at.new.bytes.items c.self.inside.start c.self.inside.searched c.self.inside.end c.self.inside.taken 0
    c.self.inside.end c.self.inside.taken c.self.invariant c.in_err-count.ensures.size c.in_err-count.ensures.before
    (omega arith) (omega arith) c.self.invariant.inside c.self.invariant.bounded

pub returns-in_err-count-clause-grows : goal.returns-in_err-count-clause-grows
returns-in_err-count-clause-grows g c =
    rw (← c.self.view_is)
    (grows_more c.self.inside.bytes.items c.read_at.new.bytes.items c.self.inside.start c.self.inside.searched c.self.inside.end c.self.inside.taken 0
    c.self.inside.end c.self.inside.taken _ _ c.self.inside.passing c.self.invariant c.in_err-count.ensures.size c.in_err-count.ensures.before
    (omega arith) (omega arith) c.self.invariant.inside)

pub returns-in_err-count-clause-ahead : goal.returns-in_err-count-clause-ahead
returns-in_err-count-clause-ahead g c =
    let same : slice_range c.read_at.new.bytes.items c.self.inside.start c.self.inside.end
    ≡ slice_range c.self.inside.bytes.items c.self.inside.start c.self.inside.end =
    waiting_more c.self.inside.bytes.items c.read_at.new.bytes.items c.self.inside.start c.self.inside.searched c.self.inside.end c.self.inside.taken 0
    c.self.inside.end c.self.invariant c.in_err-count.ensures.before (omega arith) ∙ append-nil _ in
    rw (← c.self.view_is)
    (told_keeps (g.I.Source.left c.args.input.now) (g.I.Source.left c.read_at.new.input) _ c.in_err-count.ensures.left
    (λ l. ap (λ (front : List ℕ). front ++ l) same))

pub invariant_of-self-2 : goal.invariant_of-self-2
invariant_of-self-2 g c =
    let room : c.args.most ≤ CAPACITY - c.self.inside.end = rw (← c.self.view_is) at c.requires.room in
    let limit : c.self.inside.taken + c.args.most ≤ INPUT_LIMIT + 1 = rw (← c.self.view_is) at c.requires.limit in
    part_more c.self.inside.bytes.items c.read_at.new.bytes.items c.self.inside.start c.self.inside.searched c.self.inside.end c.self.inside.taken c.in_ok-count.count
    (c.self.inside.end + c.in_ok-count.count) (c.self.inside.taken + c.in_ok-count.count) c.self.invariant c.in_ok-count.ensures.size c.in_ok-count.ensures.before
    refl refl (omega (arith, c.in_ok-count.ensures.bound, c.self.invariant.inside)) (omega (arith, c.in_ok-count.ensures.bound))

pub returns-clause-grows : goal.returns-clause-grows
returns-clause-grows g c =
    let room : c.args.most ≤ CAPACITY - c.self.inside.end = rw (← c.self.view_is) at c.requires.room in
    rw (← c.self.view_is)
    (grows_more c.self.inside.bytes.items c.read_at.new.bytes.items c.self.inside.start c.self.inside.searched c.self.inside.end c.self.inside.taken c.in_ok-count.count
    (c.self.inside.end + c.in_ok-count.count) (c.self.inside.taken + c.in_ok-count.count) _ _ c.self.inside.passing c.self.invariant c.in_ok-count.ensures.size c.in_ok-count.ensures.before
    refl refl (omega (arith, c.in_ok-count.ensures.bound, c.self.invariant.inside)))

pub returns-clause-ahead : goal.returns-clause-ahead
returns-clause-ahead g c =
    rw (← c.self.view_is)
    (told_consumes (g.I.Source.left c.args.input.now) (g.I.Source.left c.read_at.new.input) (take c.in_ok-count.count (drop c.self.inside.end c.read_at.new.bytes.items)) _
    c.in_ok-count.ensures.left.0
    (λ l l' is. ahead_more _ _ (take c.in_ok-count.count (drop c.self.inside.end c.read_at.new.bytes.items)) l l'
    (waiting_more c.self.inside.bytes.items c.read_at.new.bytes.items c.self.inside.start c.self.inside.searched c.self.inside.end c.self.inside.taken c.in_ok-count.count (c.self.inside.end + c.in_ok-count.count) c.self.invariant c.in_ok-count.ensures.before refl) is))
