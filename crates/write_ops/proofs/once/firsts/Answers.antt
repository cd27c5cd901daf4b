use Rattle.std.proofs.Common.{◌≡◌, ◌∷◌, ◌++◌, ◌+◌, [], drop, get_or, sym, ap, ◌∙◌}
use Rattle.std.proofs.lemmas.List.{drop_more}
use Rattle.graph_value.specs.declared.id.Oid.{Oid}
use Rattle.graph_value.specs.declared.id.Oid.TheVariants as oid
use Rattle.write_ops.specs.Deleting.{firsts, firsts_on}
use Rattle.write_ops.proofs.FirstPlaces.{new_first, old_first}
use Rattle.write_ops.proofs.once.firsts.Goals as goal
use Rattle.write_ops.proofs.once.firsts.Goals.{then-branch+in_ok-push, else-branch}

abbrev nobody : Oid
nobody = oid.Vertex (record { 0 = 0 })

pub loop-x-preserved : goal.loop-x-preserved
loop-x-preserved c =
    let all = c.args.all.now in
    let i = c.loop-x.x-index in
    let rest = drop (i + 1) all in
    let known = c.loop-x.known.keys in
    let kept = c.loop-x.kept in
    let x = get_or all i nobody in
    let new = c.in_ok-is_new.ensures.new in
    let noted = c.in_ok-is_new.ensures.noted in
    let known_next = c.is_new.new.known.keys in
    let there : drop i all ≡ x ∷ rest = drop_more all i nobody c.loop-x-test.true in
    let before : kept ++ firsts_on known (x ∷ rest) ≡ firsts all = ap (λ r. kept ++ firsts_on known r) (sym there) ∙ c.loop-x.invariant in
    elim c.if-branch.branch [
      | then-branch+in_ok-push w ↦
          ap (λ k. k ++ firsts_on known_next rest) (w.kept-is ∙ w.in_ok-push.ensures.ok)
          ∙ ap (λ ks. (kept ++ x ∷ []) ++ firsts_on ks rest) noted
          ∙ new_first known kept rest x (sym new ∙ w.if-branch.true)
          ∙ before
      | else-branch w ↦
          ap (λ k. k ++ firsts_on known_next rest) w.kept-is
          ∙ ap (λ ks. kept ++ firsts_on ks rest) noted
          ∙ old_first known kept rest x (sym new ∙ w.if-branch.false)
          ∙ before
    ]
