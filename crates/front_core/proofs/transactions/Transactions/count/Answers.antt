use Rattle.std.proofs.Common.{◌≡◌, ◌≤◌, ◌+◌, Some, get_or, set, sym, ap, subst, ◌∙◌, arith}
use Rattle.std.specs.Prelude.{IfSome}
use Rattle.front_core.specs.Books.{Book, Counted, MOST_DELTAS, find_txn, place_in, running_of, with_deltas}
use Rattle.front_core.specs.declared.transactions.Transaction.{Transaction}
use Rattle.front_core.proofs.Booked.{counted, placed_found, set_running}
use Rattle.front_core.proofs.transactions.Transactions.count.Goals as goal

pub overflow_add-index_mut : goal.overflow_add-index_mut
overflow_add-index_mut c =
    let book : Book = record { clock = c.self.inside.active.clock; txns = c.self.inside.txns.items } in
    let placed : place_in book.txns c.args.caller ≡ Some c.args.place = subst (λ (b : Book). place_in b.txns c.args.caller ≡ Some c.args.place) (sym c.self.view_is) c.requires.placed in
    let room = subst (λ (b : Book). IfSome (find_txn b.txns c.args.caller) (λ t. t.deltas + c.args.deltas ≤ MOST_DELTAS)) (sym c.self.view_is) c.requires.room in
    let here : (get_or book.txns c.args.place c.index_mut.result.now).deltas + c.args.deltas ≤ MOST_DELTAS = subst (λ o. IfSome o (λ (t : Transaction). t.deltas + c.args.deltas ≤ MOST_DELTAS)) (placed_found book.txns c.args.caller c.args.place placed c.index_mut.result.now) room in
    omega (arith, here, ap (λ (t : Transaction). t.deltas) c.index_mut.ensures.value)

pub invariant_of-self : goal.invariant_of-self
invariant_of-self c = record {
  running = c.self.invariant.running
      ∙ sym (set_running c.self.inside.txns.items c.args.caller c.args.place (subst (λ (b : Book). place_in b.txns c.args.caller ≡ Some c.args.place) (sym c.self.view_is) c.requires.placed) _ c.index_mut.result.now (ap running_of c.index_mut.ensures.value));
  ready = c.self.invariant.ready;
}

pub returns : goal.returns
returns c =
    let book : Book = record { clock = c.self.inside.active.clock; txns = c.self.inside.txns.items } in
    let after : Book = record { clock = c.self.inside.active.clock; txns = set c.self.inside.txns.items c.args.place (with_deltas c.args.deltas c.index_mut.result.now) } in
    subst (λ (b : Book). Counted b after c.args.caller c.args.deltas) c.self.view_is
    (counted book after c.args.caller c.args.place c.index_mut.result.now c.args.deltas
    (subst (λ (b : Book). place_in b.txns c.args.caller ≡ Some c.args.place) (sym c.self.view_is) c.requires.placed)
    (ap (λ (t : Transaction). record { clock = c.self.inside.active.clock; txns = set c.self.inside.txns.items c.args.place (with_deltas c.args.deltas t) }) c.index_mut.ensures.value))
