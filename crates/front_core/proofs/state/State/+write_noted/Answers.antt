use Rattle.std.proofs.Common.{◌≡◌, ℕ, ◌+◌, [], ◌∷◌, ◌++◌, List, Option, Some, None, Bool, true, false, cond, drop, filter, sym, ap, subst, ◌∙◌, arith, refl}
use Rattle.std.specs.Prelude.{is_none, is_some}
use Rattle.std.proofs.lemmas.Result.{on_ok_weaker, on_err_weaker}
use Rattle.std.proofs.lemmas.Bool.{false≢true}
use Rattle.graph_value.specs.declared.id.Oid.{Oid}
use Rattle.undo_delta.specs.Touch.{touches}
use Rattle.front_core.specs.Books.{Noted}
use Rattle.front_core.specs.Objects.{row_at, unwritten}
use Rattle.front_core.specs.declared.objects.Objects.{Objects}
use Rattle.front_core.specs.declared.row.Writing.{Writing}
use Rattle.front_core.proofs.Booked.{noted_nothing, noted_then}
use Rattle.front_core.proofs.Outcomes.{on_ok_of}
use Rattle.front_core.proofs.Touched.{next_one, no_more}
use Rattle.front_core.proofs.state.State.+write_noted.Goals as goal
use Rattle.front_core.proofs.state.State.+write_noted.Goals.{Else-is_err}

pub returns-in_default-clause-noted : goal.returns-in_default-clause-noted
returns-in_default-clause-noted t c =
    on_ok_of c.write.result (subst (λ (xs : List Oid). Noted c.args.self.now.transactions c.args.self.now.transactions c.args.caller (unwritten c.args.self.now.objects xs))
    (sym (no_more (touches c.args.op.now) c.args.i (sym c.in_default.ensures))) (noted_nothing c.args.self.now.transactions c.args.caller))

pub returns-then-is_err-clause-book_stays : goal.returns-then-is_err-clause-book_stays
returns-then-is_err-clause-book_stays t c =
    on_err_weaker c.write_noted-done.result (λ stays.
    c.forget.ensures c.args.self.now.transactions c.in-Some.x
    (noted_then c.args.self.now.transactions c.note.new.self c.write_noted-done.new.self.transactions c.args.caller (c.in-Some.x ∷ []) [] c.in_ok-note.ensures.ok stays))
    c.write_noted-done.ensures.book_stays

-- the object comes first among those that aren't written yet
fresh_first : (o : Objects) (x : Oid) (xs : List Oid) → is_some (row_at o x).writing ≡ false → unwritten o (x ∷ xs) ≡ x ∷ unwritten o xs
fresh_first o x xs h = by_writing (row_at o x).writing h
  where
    by_writing : (w : Option Writing) → is_some w ≡ false → cond (is_none w) (x ∷ unwritten o xs) (unwritten o xs) ≡ x ∷ unwritten o xs
    by_writing None h = refl
    by_writing (Some w) h = absurd (false≢true (sym h))

not_written : (t : ℕ) (c : Else-is_err t) → c.is_written.result ≡ false
not_written t c = grind (arith, c.if-is_written.false)

pub returns-else-is_err-clause-noted : goal.returns-else-is_err-clause-noted
returns-else-is_err-clause-noted t c =
    on_ok_weaker c.write_noted-done.result (λ rest.
    subst (λ (xs : List Oid). Noted c.args.self.now.transactions c.write_noted-done.new.self.transactions c.args.caller xs)
    (sym (ap (unwritten c.args.self.now.objects) (next_one (touches c.args.op.now) c.args.i c.in-Some.x (sym c.in-Some.ensures))
    ∙ fresh_first c.args.self.now.objects c.in-Some.x (drop (c.args.i + 1) (touches c.args.op.now)) (sym c.is_written.ensures ∙ not_written t c)))
    (noted_then c.args.self.now.transactions c.note.new.self c.write_noted-done.new.self.transactions c.args.caller (c.in-Some.x ∷ []) (unwritten c.args.self.now.objects (drop (c.args.i + 1) (touches c.args.op.now))) c.in_ok-note.ensures.ok rest))
    c.write_noted-done.ensures.noted
