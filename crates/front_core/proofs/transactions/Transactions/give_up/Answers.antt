use Rattle.std.proofs.Common.{◌≡◌, ℕ, cond, ◌≢◌, ◌↔◌, [], ◌∷◌, List, Some, Bool, true, false, not, IsTrue, IsFalse, map, sym, ap, subst, refl, ◌∙◌}
use Rattle.std.specs.List.{remove, AllPairs}
use Rattle.graph_value.specs.declared.id.Oid.{Oid}
use Rattle.std.specs.Prelude.{IfSome}
use Rattle.txn_manager.specs.RunningList.{start_of, without}
use Rattle.txn_manager.specs.Transactions.{clock_after_end}
use Rattle.txn_manager.specs.declared.running.Running.{Running}
use Rattle.front_core.specs.Books.{Book, Closed, InStep, end_number, find_txn, is_empty, place_in, running_of}
use Rattle.front_core.specs.declared.transactions.Transaction.{Transaction}
use Rattle.front_core.proofs.Booked.{closed, of_found, removed_running, some_start, start_is}
use Rattle.front_core.proofs.transactions.Transactions.give_up.Goals as goal
use Rattle.front_core.proofs.transactions.Transactions.give_up.Goals.{After-give_up}

pub give_up-requires : goal.give_up-requires
give_up-requires c =
    some_start (record { clock = c.self.inside.active.clock; txns = c.self.inside.txns.items }) c.self.inside.active.running c.args.caller c.args.place
    (subst (λ (b : Book). place_in b.txns c.args.caller ≡ Some c.args.place) (sym c.self.view_is) c.requires) c.self.invariant.running

abbrev book : After-give_up → Book
book c = record { clock = c.self.inside.active.clock; txns = c.self.inside.txns.items }

placed : (c : After-give_up) → place_in (book c).txns c.args.caller ≡ Some c.args.place
placed c = subst (λ (b : Book). place_in b.txns c.args.caller ≡ Some c.args.place) (sym c.self.view_is) c.requires

apart : (c : After-give_up) → AllPairs (λ t u. t.caller ≢ u.caller) (map running_of (book c).txns)
apart c = subst (λ (rs : List Running). AllPairs (λ t u. t.caller ≢ u.caller) rs) c.self.invariant.running c.self.invariant.ready.apart

pub invariant_of-self : goal.invariant_of-self
invariant_of-self c = record {
  running = c.give_up.ensures.others ∙ ap (without c.args.caller) c.self.invariant.running
      ∙ sym (ap (map running_of) c.remove-ended.ensures.items ∙ removed_running (book c).txns c.args.caller c.args.place (placed c) (apart c));
  ready = c.give_up.ensures.ready;
}

pub returns-clause-taken : goal.returns-clause-taken
returns-clause-taken c =
    subst (λ (b : Book). IfSome (find_txn b.txns c.args.caller) (λ t. c.remove-ended.result ≡ t)) c.self.view_is
    (of_found (λ (t : Transaction). c.remove-ended.result ≡ t) (book c) c.args.caller c.args.place c.remove-ended.result (placed c) c.remove-ended.ensures.value refl)

pub returns-clause-closed : goal.returns-clause-closed
returns-clause-closed c =
    subst (λ (b : Book). Closed b (record { clock = c.give_up.new.self.clock; txns = c.remove-ended.new.self.items }) c.args.caller b.clock) c.self.view_is
    (closed (book c) (record { clock = c.give_up.new.self.clock; txns = c.remove-ended.new.self.items }) c.args.caller c.args.place c.self.inside.active.clock (placed c) (apart c)
    (ap (λ n. record { clock = n; txns = c.remove-ended.new.self.items }) c.give_up.ensures.clock ∙ ap (λ ts. record { clock = c.self.inside.active.clock; txns = ts }) c.remove-ended.ensures.items))
