use Rattle.std.proofs.Common.{◌≡◌, ◌++◌, ◌∷◌, [], ap, sym, subst, ◌∙◌, map, reverse, List}
use Rattle.std.specs.Arc.{arc_value}
use Rattle.std.specs.Option.{option_copied}
use Rattle.anchor_store.specs.Blocks.{anchored, older_deltas}
use Rattle.anchor_store.specs.Groups.{joined_all, groups}
use Rattle.anchor_store.proofs.Grouped.{joined_all-append}
use Rattle.anchor_store.proofs.Made.{AreBlocks, groups_blocks}
use Rattle.anchor_store.proofs.Turned.{map-turned}
use Rattle.anchor_store.proofs.building.build.Goals as goal

-- without deltas there is no block
pub returns-in_default : goal.returns-in_default
returns-in_default g c =
    let k = c.args.interval in
    let newer = c.args.tail.deltas in
    let older = older_deltas (option_copied c.args.older) in
    let whole : c.add_all.new.self ≡ groups k (newer ++ older) = c.in_ok-add_all.ensures ∙ ap (joined_all k newer) c.in_ok-groups.ensures ∙ sym (joined_all-append k newer older []) in
    rw c.new.ensures.items (ap (λ gs. reverse (anchored g.U.Undo.after c.args.tail.newest gs)) (sym c.in_default.ensures.0 ∙ whole))

pub loop-older_deltas-init : goal.loop-older_deltas-init
loop-older_deltas-init g c =
    let k = c.args.interval in
    let newer = c.args.tail.deltas in
    let older = older_deltas (option_copied c.args.older) in
    let whole : c.add_all.new.self ≡ groups k (newer ++ older) = c.in_ok-add_all.ensures ∙ ap (joined_all k newer) c.in_ok-groups.ensures ∙ sym (joined_all-append k newer older []) in
    let first = sym c.in-Some.ensures ∙ whole in
    record {
      built = rw c.in_ok-built.ensures.items (ap (anchored g.U.Undo.after c.args.tail.newest) first);
      blocks = subst (λ (gs : List (List _)). AreBlocks gs) (sym first) (groups_blocks k (newer ++ older) c.requires);
    }

pub returns : goal.returns
returns g c =
    let l = c.loop-older_deltas in
    let rest = λ (gs : List (List _)). map arc_value l.built.items ++ anchored g.U.Undo.after l.anchor (l.deltas ∷ gs) in
    let all = ap rest (sym c.in_default-pop_newest.ensures.0) ∙ l.invariant.built in
    map-turned arc_value l.built.items c.push-2.new.self.items c.reverse.new.self.items c.in_ok-new-2.field-0 _ _ c.in_ok-push-2.ensures.items (c.in_ok-new-2.ensures.ok ∙ c.of-2.ensures) all c.reverse.ensures.items
