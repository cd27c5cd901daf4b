use Rattle.std.proofs.Common.{◌≡◌, ◌<◌, List, [], ◌∷◌, map, Ok, length, refl, sym, ap, ◌∙◌, arith}
use Rattle.row_ops.specs.Making.{after}
use Rattle.row_ops.proofs.Unsorted.{unsorted_cut}
use Rattle.row_ops.proofs.projection.ordered.Goals as goal

nothing : {X : Type 0} (xs : List X) → length xs < 1 → xs ≡ []
nothing [] h = refl
nothing (x ∷ xs) h = absurd (omega arith)

pub returns-in_ok-given-in-empty : goal.returns-in_ok-given-in-empty
returns-in_ok-given-in-empty g c =
    let a = c.args in
    let empty : a.p.now.sort ≡ [] = nothing a.p.now.sort (omega (arith, c.in-empty.len_below, ap length c.as_slice.ensures)) in
    record {
      answers = λ w s. unsorted_cut w a.p.now a.rows empty
          ∙ ap (λ rows. Ok (map (after a.p.now) rows)) (sym c.in_ok-cut-in-empty.ensures)
          ∙ ap (λ t. Ok t) (sym c.in_ok-given-in-empty.ensures);
      stays = λ w s. s;
      reads = g.met.G.GraphRead.itself _;
    }
