use Rattle.std.proofs.Common.{◌++◌, [], ◌∷◌, ap, sym, ◌∙◌}
use Rattle.tt_intervals.proofs.Unique.{span_equal}
use Rattle.tt_clauses.specs.Found as found
use Rattle.tt_clauses.specs.Instants.{instant}
use Rattle.tt_clauses.proofs.joined.with_piece.Goals as goal

pub returns-in_ok-push-in-Some : goal.returns-in_ok-push-in-Some
returns-in_ok-push-in-Some c =
    c.in_ok-push-in-Some.ensures.items
    ∙ ap (λ s. c.args.pieces.items ++ (s, c.in-Some.values) ∷ []) (span_equal c.at.result (instant c.args.t) c.at.ensures.first c.at.ensures.last)
    ∙ ap (λ v. c.args.pieces.items ++ found.piece_at c.args.t v) (sym c.in-Some.is)
