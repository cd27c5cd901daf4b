use Rattle.std.proofs.Common.{◌≡◌, ℕ, ◌<◌, List, Option, length, sym, ap, ◌∙◌, subst, arith}
use Rattle.std.specs.Prelude.{slice_range, IfSome, IfNone}
use Rattle.wire_line.specs.Lines.{first_line, HasNoEnd}
use Rattle.wire_line.specs.Intake.{Intake}
use Rattle.wire_line.proofs.Parts.{search_place, search_within, search_part, search_none, part_length}
use Rattle.wire_line.proofs.lines.Lines.search.Goals as goal
use Rattle.wire_line.proofs.lines.Lines.search.Goals.{then-at-self, else-at-self}

pub overflow_add-at : goal.overflow_add-at
overflow_add-at c =
    let found = c.first_len.ensures ∙ ap (λ (bytes : List ℕ). length (first_line (slice_range bytes c.self.inside.searched c.self.inside.end))) c.deref.ensures.value in
    omega (arith, search_within c.self.inside.bytes.items c.self.inside.start c.self.inside.searched c.self.inside.end c.self.inside.taken c.first_len.result c.self.invariant found, c.self.invariant.inside)

pub invariant_of-self : goal.invariant_of-self
invariant_of-self c =
    let found = c.first_len.ensures ∙ ap (λ (bytes : List ℕ). length (first_line (slice_range bytes c.self.inside.searched c.self.inside.end))) c.deref.ensures.value in
    search_part c.self.inside.bytes.items c.self.inside.start c.self.inside.searched c.self.inside.end c.self.inside.taken c.first_len.result c.self.invariant found

pub returns-clause-found : goal.returns-clause-found
returns-clause-found c =
    let found = c.first_len.ensures ∙ ap (λ (bytes : List ℕ). length (first_line (slice_range bytes c.self.inside.searched c.self.inside.end))) c.deref.ensures.value in
    let waits : slice_range c.self.inside.bytes.items c.self.inside.start c.self.inside.end ≡ c.args.self.now.waiting = ap (λ (i : Intake). i.waiting) c.self.view_is in
    let P : Option ℕ → Type 0 = λ r. IfSome r (λ len. (len ≡ length (first_line c.args.self.now.waiting)) × (len < length c.args.self.now.waiting)) in
    let place = search_place c.self.inside.bytes.items c.self.inside.start c.self.inside.searched c.self.inside.end c.self.inside.taken c.first_len.result c.self.invariant found in
    let size = part_length c.self.inside.bytes.items c.self.inside.start c.self.inside.searched c.self.inside.end c.self.inside.taken c.self.invariant in
    let line = ap (λ (w : List ℕ). length (first_line w)) waits in
    let whole = ap length waits in
    elim c.if-at-self.branch [
      | then-at-self w ↦ subst P (sym w.result-is) (omega arith, omega (arith, w.if-at-self.true))
      | else-at-self w ↦ subst P (sym w.result-is) tt
    ]

pub returns-clause-none : goal.returns-clause-none
returns-clause-none c =
    let found = c.first_len.ensures ∙ ap (λ (bytes : List ℕ). length (first_line (slice_range bytes c.self.inside.searched c.self.inside.end))) c.deref.ensures.value in
    let waits : slice_range c.self.inside.bytes.items c.self.inside.start c.self.inside.end ≡ c.args.self.now.waiting = ap (λ (i : Intake). i.waiting) c.self.view_is in
    let P : Option ℕ → Type 0 = λ r. IfNone r (HasNoEnd c.args.self.now.waiting) in
    elim c.if-at-self.branch [
      | then-at-self w ↦ subst P (sym w.result-is) tt
      | else-at-self w ↦ subst P (sym w.result-is)
          (let Q : List ℕ → Type 0 = λ w. HasNoEnd w in
          subst Q waits (search_none c.self.inside.bytes.items c.self.inside.start c.self.inside.searched c.self.inside.end c.self.inside.taken c.first_len.result c.self.invariant found w.if-at-self.false))
    ]
