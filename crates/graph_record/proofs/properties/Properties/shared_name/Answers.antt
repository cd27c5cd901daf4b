use Rattle.std.proofs.Common.{◌≡◌, ℕ, List, IfOk, ◌∙◌, ap, subst, get_or}
use Rattle.graph_record.proofs.Stored.{tied_names}
use Rattle.graph_record.proofs.properties.Properties.shared_name.Goals as goal

-- the name that stands there is the same
pub returns-in-Ok : goal.returns-in-Ok
returns-in-Ok c =
    let there = c.in-Ok.ensures.found.has_key c.index-as_slice-at.result in
    let same = tied_names (get_or c.args.self.now c.in-Ok.at c.index-as_slice-at.result).0 c.args.name.now (rw c.as_str.ensures.text at there) in
    let name = ap (λ items. (get_or items c.in-Ok.at c.index-as_slice-at.result).0) (c.as_slice.ensures ∙ c.self.view_is) ∙ same in
    subst (λ (n : List ℕ). IfOk c.copy.result (λ copy. copy ≡ n)) name c.copy.ensures
