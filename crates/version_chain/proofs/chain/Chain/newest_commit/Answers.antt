use Rattle.std.proofs.Common.{◌≡◌, ◌≤◌, ◌<◌, length, get_or, All, IfSome, Option, ℕ, subst, sym, ap, ◌∙◌, arith}
use Rattle.std.specs.List.{prefix_len}
use Rattle.version_chain.specs.Entry.{is_open}
use Rattle.version_chain.specs.Parts.{timestamps_of}
use Rattle.version_chain.proofs.Stamps.{first_at, first_past, first_is_greatest}
use Rattle.version_chain.proofs.chain.Chain.newest_commit.Goals as goal

pub returns-in_err-get-clause-first : goal.returns-in_err-get-clause-first
returns-in_err-get-clause-first g c =
    let es = c.self.inside.entries.items in
    let past : length es ≤ prefix_len is_open es = omega (arith, c.in_err-get.ensures.item.3) in
    rw (← c.self.view_is) (c.from_residual.ensures ∙ sym (first_past es past))

pub returns-clause-first : goal.returns-clause-first
returns-clause-first g c =
    let es = c.self.inside.entries.items in
    let below : prefix_len is_open es < length es = omega (arith, c.in_ok-get.ensures.item.3.0) in
    let read : c.in_ok-get.field-0.now ≡ get_or es (prefix_len is_open es) c.in_ok-get.field-0.now = rw (← c.self.invariant.counted) c.in_ok-get.ensures.lookup in
    rw (← c.self.view_is) (ap (λ e. e.stamp) read ∙ first_at es c.in_ok-get.field-0.now below)

pub returns-clause-greatest : goal.returns-clause-greatest
returns-clause-greatest g c =
    let es = c.self.inside.entries.items in
    let P : Option ℕ → Type 0 = λ r. IfSome r (λ ts. All (λ other. other ≤ ts) (timestamps_of c.args.self.now.entries)) in
    subst P (sym (returns-clause-first g c)) (first_is_greatest c.args.self.now.entries (rw (← c.self.view_is) c.self.invariant.in_order))
