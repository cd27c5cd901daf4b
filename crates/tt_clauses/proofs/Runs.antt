-- Rows that are made tuple by tuple.
use Rattle.std.proofs.Common.{List, [], ◌∷◌, ◌++◌, refl, sym, ap, ◌∙◌}
use Rattle.std.specs.List.{flat_map}
use Rattle.std.proofs.lemmas.Grind.{flat_map-append}
use Rattle.std.proofs.lemmas.List.{append-nil}
use Rattle.std.proofs.lemmas.List.Elements.{AllZip-push}
use Rattle.tt_intervals.specs.Runs.{AreMaximalRuns}
use Rattle.tt_clauses.specs.Found.{Piece}
use Rattle.tt_clauses.specs.Rows.{AreRows, Rows, rows_of}
use Rattle.tt_clauses.specs.Values.{PrintSame}

pub no_rows : AreRows [] []
no_rows = record { runs = []; maximal = tt; told = refl }

pub rows-push : (done : List (List Piece)) (rows : Rows) (pieces runs : List Piece) → AreRows done rows → AreMaximalRuns PrintSame pieces runs → AreRows (done ++ pieces ∷ []) (rows ++ rows_of runs)
rows-push done rows pieces runs h m = record {
  runs = h.runs ++ runs ∷ [];
  maximal = AllZip-push (AreMaximalRuns PrintSame) done h.runs pieces runs h.maximal m;
  told =
      ap (λ r. r ++ rows_of runs) h.told
      ∙ ap (λ r. flat_map rows_of h.runs ++ r) (sym (append-nil (rows_of runs)))
      ∙ sym (flat_map-append rows_of h.runs (runs ∷ []));
}
