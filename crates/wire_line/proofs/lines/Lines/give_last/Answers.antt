use Rattle.std.proofs.Common.{ℕ, ◌-◌, ◌≤◌, false, List, [], length, refl, sym, ap, ◌∙◌, subst, arith}
use Rattle.std.specs.Prelude.{slice_range}
use Rattle.wire_line.specs.Lines.{HasNoEnd, without_return}
use Rattle.wire_line.specs.Intake.{Intake, Says}
use Rattle.wire_line.specs.declared.line.Line.{Line}
use Rattle.wire_line.specs.declared.line.TheConstants.{LINE_LIMIT}
use Rattle.wire_line.specs.declared.lines.TheConstants.{CAPACITY}
use Rattle.wire_line.proofs.Parts.{part_length, range_empty}
use Rattle.wire_line.proofs.Turns.{says_last, says_last_too_long, says_end}
use Rattle.wire_line.proofs.lines.Lines.give_last.Goals as goal
use Rattle.wire_line.proofs.lines.Lines.give_last.Goals.{then-self, else-self+then-self-2, else-self+else-self-2}

pub returns-clause-says : goal.returns-clause-says
returns-clause-says c =
    let bytes : List ℕ = c.self.inside.bytes.items in
    let start : ℕ = c.self.inside.start in
    let end : ℕ = c.self.inside.end in
    let waiting : List ℕ = slice_range bytes start end in
    let before : Intake = record { waiting = waiting; taken = c.self.inside.taken; buffer = bytes; passing = c.self.inside.passing; room = CAPACITY - end } in
    let after : Intake = record { waiting = slice_range bytes end end; taken = c.self.inside.taken; buffer = bytes; passing = false; room = CAPACITY - end } in
    let none : HasNoEnd waiting = rw (← c.self.view_is) at c.requires.none in
    let short : length waiting ≤ LINE_LIMIT = rw (← c.self.view_is) at c.requires.short in
    let size = part_length bytes start c.self.inside.searched end c.self.inside.taken c.self.invariant in
    let P : Line → Type 0 = λ line. Says line before after [] [] in
    rw (← c.self.view_is)
    (elim c.if-self.branch [
      | then-self w ↦ subst P (sym w.line-is) (says_last_too_long before after none (range_empty bytes end) w.if-self.true refl)
      | else-self+then-self-2 w ↦ subst P (sym w.line-is) (says_end before after none (range_empty bytes end) w.if-self.false (ap (λ (i : ℕ). slice_range bytes i end) w.if-self-2.true ∙ range_empty bytes end))
      | else-self+else-self-2 w ↦ subst P (sym w.line-is) (says_last before after none (range_empty bytes end) _ w.if-self.false (let some = w.if-self-2.false in omega (arith, size)) short
          (ap (λ (b : List ℕ). slice_range b w.without_return.result.from w.without_return.result.to) (sym w.deref.ensures.value) ∙ w.without_return.ensures.text
          ∙ ap (λ (b : List ℕ). without_return (slice_range b start end)) w.deref.ensures.value) refl)
    ])
