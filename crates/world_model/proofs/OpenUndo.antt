-- What an open transaction has written, undone: its own deltas lead back to the commits, and theirs to each instant.
use Rattle.std.proofs.Common.{◌≡◌, ℕ, Some, true, false, sym, ap, ◌∙◌}
use Rattle.graph_value.specs.declared.id.Oid.{Oid}
use Rattle.graph_record.specs.declared.object.Object.{Object}
use Rattle.graph_record.specs.Graph.{object_at}
use Rattle.undo_law.specs.Undone.{undone}
use Rattle.undo_delta.specs.Apply.{after}
use Rattle.world_model.specs.Op.{are_touching}
use Rattle.world_model.specs.World.{World, Txn, txn_of, InOrder, fold_of, before, view_of, graph_at}
use Rattle.world_model.specs.Undo.{open_list, undo_list, undone_above}
use Rattle.world_model.proofs.ObjectViews.{written_base, unwritten_view}
use Rattle.world_model.proofs.Undo.{writes_undone, instant_undone}
use Rattle.world_model.proofs.Answered.{base_form}

-- its own deltas undone, an object is as all commits left it
pub own_undone : (w : World) (c : ℕ) (p : Txn) (x : Oid) → InOrder w → txn_of w c ≡ Some p → are_touching p.ops x ≡ true →
    undone after (object_at (view_of w p) x) (open_list w p x) ≡ object_at (fold_of w.commits) x
own_undone w c p x o f t =
    writes_undone p.ops (fold_of (before p.start w.commits)) x (o.running_sound c p f) (base_form w p.start x o) ∙ written_base w c p x o f t

pub written_undone : (w : World) (t c : ℕ) (p : Txn) (x : Oid) → InOrder w → txn_of w c ≡ Some p → are_touching p.ops x ≡ true →
    undone_above t (undone after (object_at (view_of w p) x) (open_list w p x)) (undo_list w x) ≡ object_at (graph_at w.commits t) x
written_undone w t c p x o f touched =
    ap (λ (b : Object). undone_above t b (undo_list w x)) (own_undone w c p x o f touched) ∙ sym (instant_undone w t x o)

pub unwritten_undone : (w : World) (c : ℕ) (p : Txn) (x : Oid) → InOrder w → txn_of w c ≡ Some p → are_touching p.ops x ≡ false →
    undone_above p.start (object_at (fold_of w.commits) x) (undo_list w x) ≡ object_at (view_of w p) x
unwritten_undone w c p x o f untouched = sym (instant_undone w p.start x o) ∙ sym (unwritten_view w c p x o f untouched)

pub other_undone : (w : World) (a b : ℕ) (p q : Txn) (x : Oid) → InOrder w → txn_of w a ≡ Some p → txn_of w b ≡ Some q → are_touching p.ops x ≡ true → are_touching q.ops x ≡ false →
    undone_above q.start (undone after (object_at (view_of w p) x) (open_list w p x)) (undo_list w x) ≡ object_at (view_of w q) x
other_undone w a b p q x o fp fq touched untouched = written_undone w q.start a p x o fp touched ∙ sym (unwritten_view w b q x o fq untouched)
