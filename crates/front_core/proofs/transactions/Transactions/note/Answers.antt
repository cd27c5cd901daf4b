use Rattle.std.proofs.Common.{◌≡◌, [], ◌∷◌, ◌++◌, Some, set, sym, ap, subst, ◌∙◌}
use Rattle.std.proofs.lemmas.Result.{on_ok_weaker}
use Rattle.front_core.specs.Books.{Book, Noted, place_in, running_of, with_written}
use Rattle.front_core.specs.declared.transactions.Transaction.{Transaction}
use Rattle.front_core.proofs.Booked.{noted, set_running}
use Rattle.front_core.proofs.transactions.Transactions.note.Goals as goal
use Rattle.front_core.proofs.transactions.Transactions.note.Goals.{After-self-1}

abbrev book : After-self-1 → Book
book c = record { clock = c.self.inside.active.clock; txns = c.self.inside.txns.items }

placed : (c : After-self-1) → place_in (book c).txns c.args.caller ≡ Some c.args.place
placed c = subst (λ (b : Book). place_in b.txns c.args.caller ≡ Some c.args.place) (sym c.self.view_is) c.requires

pub invariant_of-self : goal.invariant_of-self
invariant_of-self c = record {
  running = c.self.invariant.running
      ∙ sym (set_running (book c).txns c.args.caller c.args.place (placed c) _ c.index_mut.result.now (ap running_of c.index_mut.ensures.value));
  ready = c.self.invariant.ready;
}

abbrev after : After-self-1 → Book
after c = record { clock = c.self.inside.active.clock; txns = set c.self.inside.txns.items c.args.place (record { caller = c.index_mut.result.now.caller; start = c.index_mut.result.now.start; deltas = c.index_mut.result.now.deltas; written = c.push.new.self }) }

pub returns-clause-ok : goal.returns-clause-ok
returns-clause-ok c = on_ok_weaker c.push.result (λ written.
    subst (λ (b : Book). Noted b (after c) c.args.caller (c.args.x ∷ [])) c.self.view_is
    (noted (book c) (after c) c.args.caller c.args.place c.index_mut.result.now (c.args.x ∷ []) (placed c)
    (ap (λ w. record { clock = c.self.inside.active.clock; txns = set c.self.inside.txns.items c.args.place (record { caller = c.index_mut.result.now.caller; start = c.index_mut.result.now.start; deltas = c.index_mut.result.now.deltas; written = w }) }) written
    ∙ ap (λ (t : Transaction). record { clock = c.self.inside.active.clock; txns = set c.self.inside.txns.items c.args.place (with_written (c.args.x ∷ []) t) }) c.index_mut.ensures.value)))
    c.push.ensures.ok
