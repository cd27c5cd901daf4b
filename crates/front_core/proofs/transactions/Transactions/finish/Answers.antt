use Rattle.std.proofs.Common.{◌≡◌, ℕ, cond, ◌≢◌, ◌↔◌, [], ◌∷◌, List, Some, Bool, true, false, not, IsTrue, IsFalse, map, sym, ap, subst, refl, ◌∙◌}
use Rattle.std.specs.List.{remove, AllPairs}
use Rattle.graph_value.specs.declared.id.Oid.{Oid}
use Rattle.std.specs.Prelude.{IfSome}
use Rattle.txn_manager.specs.RunningList.{start_of, without}
use Rattle.txn_manager.specs.Transactions.{clock_after_end}
use Rattle.txn_manager.specs.declared.running.Running.{Running}
use Rattle.front_core.specs.Books.{Book, Closed, InStep, end_number, find_txn, is_empty, place_in, running_of}
use Rattle.front_core.specs.declared.transactions.Transaction.{Transaction}
use Rattle.front_core.proofs.Booked.{closed, of_found, removed_running, some_start, start_is}
use Rattle.front_core.proofs.transactions.Transactions.finish.Goals as goal
use Rattle.front_core.proofs.transactions.Transactions.finish.Goals.{After-finish-number}

pub finish-number-requires : goal.finish-number-requires
finish-number-requires c =
    some_start (record { clock = c.self.inside.active.clock; txns = c.self.inside.txns.items }) c.self.inside.active.running c.args.caller c.args.place
    (subst (λ (b : Book). place_in b.txns c.args.caller ≡ Some c.args.place) (sym c.self.view_is) c.requires) c.self.invariant.running

abbrev book : After-finish-number → Book
book c = record { clock = c.self.inside.active.clock; txns = c.self.inside.txns.items }

placed : (c : After-finish-number) → place_in (book c).txns c.args.caller ≡ Some c.args.place
placed c = subst (λ (b : Book). place_in b.txns c.args.caller ≡ Some c.args.place) (sym c.self.view_is) c.requires

apart : (c : After-finish-number) → AllPairs (λ t u. t.caller ≢ u.caller) (map running_of (book c).txns)
apart c = subst (λ (rs : List Running). AllPairs (λ t u. t.caller ≢ u.caller) rs) c.self.invariant.running c.self.invariant.ready.apart

pub invariant_of-self : goal.invariant_of-self
invariant_of-self c = record {
  running = c.finish-number.ensures.others ∙ ap (without c.args.caller) c.self.invariant.running
      ∙ sym (ap (map running_of) c.remove-ended.ensures.items ∙ removed_running (book c).txns c.args.caller c.args.place (placed c) (apart c));
  ready = c.finish-number.ensures.ready;
}

pub returns-clause-taken : goal.returns-clause-taken
returns-clause-taken c =
    subst (λ (b : Book). IfSome (find_txn b.txns c.args.caller) (λ t. c.remove-ended.result ≡ t)) c.self.view_is
    (of_found (λ (t : Transaction). c.remove-ended.result ≡ t) (book c) c.args.caller c.args.place c.remove-ended.result (placed c) c.remove-ended.ensures.value refl)

-- whether a list is empty, as the code and the definition tell it
empty_is : (b : Bool) (xs : List Oid) → IsTrue b ↔ (xs ≡ []) → b ≡ is_empty xs
empty_is true [] tells = refl
empty_is false [] tells = tells.1 refl
empty_is true (x ∷ xs) tells = absurd (not_nil (tells.0 refl))
  where
    not_nil : x ∷ xs ≡ [] → ⊥
    not_nil e = cc
empty_is false (x ∷ xs) tells = refl

abbrev now : After-finish-number → ℕ
now c = clock_after_end (not (is_empty c.remove-ended.result.written)) c.self.inside.active.clock

pub returns-clause-closed : goal.returns-clause-closed
returns-clause-closed c =
    subst (λ (b : Book). Closed b (record { clock = c.finish-number.new.self.clock; txns = c.remove-ended.new.self.items }) c.args.caller (clock_after_end (not (is_empty c.remove-ended.result.written)) b.clock)) c.self.view_is
    (closed (book c) (record { clock = c.finish-number.new.self.clock; txns = c.remove-ended.new.self.items }) c.args.caller c.args.place (now c) (placed c) (apart c)
    (ap (λ n. record { clock = n; txns = c.remove-ended.new.self.items }) (c.finish-number.ensures.clock ∙ ap (λ b. clock_after_end (not b) c.self.inside.active.clock) (empty_is c.is_empty.result c.remove-ended.result.written c.is_empty.ensures))
    ∙ ap (λ ts. record { clock = now c; txns = ts }) c.remove-ended.ensures.items))

pub returns-clause-number : goal.returns-clause-number
returns-clause-number c =
    subst (λ (b : Book). IfSome (find_txn b.txns c.args.caller) (λ t. c.finish-number.result ≡ end_number b.clock t)) c.self.view_is
    (of_found (λ (t : Transaction). c.finish-number.result ≡ end_number c.self.inside.active.clock t) (book c) c.args.caller c.args.place c.remove-ended.result (placed c) c.remove-ended.ensures.value
    (by_list c.is_empty.result (empty_is c.is_empty.result c.remove-ended.result.written c.is_empty.ensures) c.finish-number.ensures.written c.finish-number.ensures.read))
  where
    by_list : (b : Bool) → b ≡ is_empty c.remove-ended.result.written → (IsTrue (not b) → c.finish-number.result ≡ c.self.inside.active.clock) → (IsFalse (not b) → start_of c.self.inside.active.running c.args.caller ≡ Some c.finish-number.result) →
        c.finish-number.result ≡ cond (is_empty c.remove-ended.result.written) c.remove-ended.result.start c.self.inside.active.clock
    by_list true is wrote read =
        start_is (book c) c.self.inside.active.running c.args.caller c.args.place c.finish-number.result c.remove-ended.result (placed c) c.self.invariant.running c.remove-ended.ensures.value (read refl)
        ∙ ap (λ b. cond b c.remove-ended.result.start c.self.inside.active.clock) is
    by_list false is wrote read = wrote refl ∙ ap (λ b. cond b c.remove-ended.result.start c.self.inside.active.clock) is
