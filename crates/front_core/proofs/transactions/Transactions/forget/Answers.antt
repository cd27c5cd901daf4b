use Rattle.std.proofs.Common.{◌≡◌, List, [], ◌∷◌, ◌++◌, Option, Some, None, set, sym, ap, subst, ◌∙◌}
use Rattle.std.specs.Prelude.{MatchOption}
use Rattle.graph_value.specs.declared.id.Oid.{Oid}
use Rattle.front_core.specs.Books.{Book, Noted, place_in, running_of}
use Rattle.front_core.specs.declared.transactions.Transaction.{Transaction}
use Rattle.front_core.proofs.Booked.{forgot, set_running, shorter_is}
use Rattle.front_core.proofs.transactions.Transactions.forget.Goals as goal
use Rattle.front_core.proofs.transactions.Transactions.forget.Goals.{After-self-1}

abbrev book : After-self-1 → Book
book c = record { clock = c.self.inside.active.clock; txns = c.self.inside.txns.items }

placed : (c : After-self-1) → place_in (book c).txns c.args.caller ≡ Some c.args.place
placed c = subst (λ (b : Book). place_in b.txns c.args.caller ≡ Some c.args.place) (sym c.self.view_is) c.requires

pub invariant_of-self : goal.invariant_of-self
invariant_of-self c = record {
  running = c.self.invariant.running
      ∙ sym (set_running (book c).txns c.args.caller c.args.place (placed c) _ c.index_mut.result.now (ap running_of c.index_mut.ensures.value));
  ready = c.self.invariant.ready;
}

-- what is left once the last was taken off
shorter : (all left : List Oid) (popped : Option Oid) → MatchOption popped ((all ≡ []) × (left ≡ [])) (λ last. all ≡ left ++ last ∷ []) → (older : List Oid) (last : Oid) → all ≡ older ++ last ∷ [] → left ≡ older
shorter all left (Some taken) is older last was = shorter_is all left older taken last is was
shorter all left None is older last was = absurd (not_nil older last (sym is.0 ∙ was))
  where
    not_nil : (xs : List Oid) (x : Oid) → [] ≡ xs ++ x ∷ [] → ⊥
    not_nil [] x e = cc
    not_nil (y ∷ ys) x e = cc

pub returns : goal.returns
returns c = λ before x noted_x.
    let e = c.index_mut.result.now in
    let noted_here : Noted before (book c) c.args.caller (x ∷ []) = subst (λ (b : Book). Noted before b c.args.caller (x ∷ [])) (sym c.self.view_is) noted_x in
    forgot before (book c) _ c.args.caller c.args.place e x c.pop.new.self (placed c) noted_here
    (λ older last was. shorter _ _ c.pop.result c.pop.ensures older last (ap (λ (t : Transaction). t.written) c.index_mut.ensures.value ∙ was))
    (ap (λ (t : Transaction). record { clock = c.self.inside.active.clock; txns = set c.self.inside.txns.items c.args.place (record { caller = t.caller; start = t.start; deltas = t.deltas; written = c.pop.new.self }) }) c.index_mut.ensures.value)
