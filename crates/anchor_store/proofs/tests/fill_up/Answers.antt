use Rattle.std.proofs.Common.{ℕ, ◌≤◌, List, [], ◌∷◌, arith}
use Rattle.undo_law.specs.declared.dated.Dated.{Dated}
use Rattle.anchor_store.specs.Groups.{AreAtMost}
use Rattle.anchor_store.proofs.tests.fill_up.Goals as goal

at_most_more : {D : Type 0} (a b : ℕ) (ds : List (Dated D)) → a ≤ b → AreAtMost a ds → AreAtMost b ds
at_most_more a b [] h below = tt
at_most_more a b (d ∷ ds) h below =
    let first : d.ts ≤ a = below.0 in
    (omega arith, at_most_more a b ds h below.1)

-- the last instant is above no other one
pub build-requires : goal.build-requires
build-requires c =
    let older = c.args.older.now.deltas in
    let above : AreAtMost 18446744073709551615 older = at_most_more c.newest_stamp-stamp.result _ older (omega (arith, c.newest_stamp-stamp.type_inv)) c.newest_stamp-stamp.ensures.greatest in
    rw (c.from_vec.ensures, c.in_ok-deltas.ensures.items) ((omega arith, above), (above, c.deltas-order.ensures.form.descending))
