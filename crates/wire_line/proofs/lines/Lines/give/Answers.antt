use Rattle.std.proofs.Common.{◌≡◌, ℕ, ◌+◌, ◌-◌, ◌<◌, ◌≤◌, false, List, length, drop, refl, sym, ap, ◌∙◌, subst, arith}
use Rattle.std.specs.Prelude.{slice_range}
use Rattle.wire_line.specs.Lines.{first_line, without_return}
use Rattle.wire_line.specs.Intake.{Intake, Says}
use Rattle.wire_line.specs.declared.line.Line.{Line}
use Rattle.wire_line.specs.declared.lines.TheConstants.{CAPACITY}
use Rattle.wire_line.proofs.Parts.{line_text, line_rest, part_length}
use Rattle.wire_line.proofs.Turns.{says_whole, says_too_long}
use Rattle.wire_line.proofs.lines.Lines.give.Goals as goal
use Rattle.wire_line.proofs.lines.Lines.give.Goals.{then-is_too_long, else-is_too_long}

pub returns-clause-says : goal.returns-clause-says
returns-clause-says c =
    let bytes : List ℕ = c.self.inside.bytes.items in
    let start : ℕ = c.self.inside.start in
    let end : ℕ = c.self.inside.end in
    let waiting : List ℕ = slice_range bytes start end in
    let before : Intake = record { waiting = waiting; taken = c.self.inside.taken; buffer = bytes; passing = c.self.inside.passing; room = CAPACITY - end } in
    let after : Intake = record { waiting = slice_range bytes (start + c.args.len + 1) end; taken = c.self.inside.taken; buffer = bytes; passing = false; room = CAPACITY - end } in
    let is : c.args.len ≡ length (first_line waiting) = rw (← c.self.view_is) at c.requires.place.is in
    let ended : c.args.len < length waiting = rw (← c.self.view_is) at c.requires.place.ended in
    let size = part_length bytes start c.self.inside.searched end c.self.inside.taken c.self.invariant in
    let inside : start + c.args.len + 1 ≤ end = omega (arith, size, ended) in
    let rest : after.waiting ≡ drop (length (first_line waiting) + 1) waiting = line_rest bytes start end c.args.len is inside in
    let has : length (first_line waiting) < length waiting = omega (arith, is, ended) in
    rw (← c.self.view_is)
    (λ left. let P : Line → Type 0 = λ line. Says line before after left left in
    elim c.if-is_too_long.branch [
      | then-is_too_long w ↦ subst P (sym w.line-is) (says_too_long before after left has rest (λ start. omega (arith, is, w.if-is_too_long.ensures.long refl start)) refl)
      | else-is_too_long w ↦ let fits = w.if-is_too_long.ensures.short refl in
          subst P (sym w.line-is) (says_whole before after left has rest _ fits.0 (omega (arith, is, fits.1))
          (ap (λ (b : List ℕ). slice_range b w.without_return.result.from w.without_return.result.to) (sym w.deref.ensures.value) ∙ w.without_return.ensures.text
          ∙ ap (λ (b : List ℕ). without_return (slice_range b start (start + c.args.len))) w.deref.ensures.value ∙ ap without_return (line_text bytes start end c.args.len is (omega arith))) refl)
    ])
