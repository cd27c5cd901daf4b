-- What a write that isn't refused does, and which form the objects have that it finds.
use Rattle.std.proofs.Common.{◌≡◌, ℕ, List, Option, Some, None, Bool, true, false, cond, refl, sym, ap, subst, ◌∙◌, arith}
use Rattle.std.specs.Prelude.{nat_lt, nat_le, ◌↔◌}
use Rattle.std.proofs.lemmas.Bool.Decides.{nat_tests}
use Rattle.graph_value.specs.declared.id.Oid.{Oid}
use Rattle.graph_record.specs.Graph.{Graph, empty_graph, object_at}
use Rattle.undo_delta.specs.Change.{changed}
use Rattle.graph_record.specs.Form.{IsForm}
use Rattle.undo_delta.specs.Touch.{is_touched}
use Rattle.undo_delta.specs.declared.op.Op.{Op}
use Rattle.undo_delta.specs.declared.ask.Ask.{Ask}
use Rattle.undo_delta.specs.declared.ask.Ask.TheVariants.{CreateVertex, DeleteVertex, AddLabel, RemoveLabel, SetVertexProp, CreateEdge, DeleteEdge, SetEdgeProp}
use Rattle.world_model.specs.declared.event.Event.TheVariants as event
use Rattle.world_model.specs.Reply as reply
use Rattle.world_model.specs.declared.answer.Refused.{Refused}
use Rattle.world_model.specs.Op.{apply, changes, SameObjects}
use Rattle.world_model.specs.World.{World, Txn, txn_of, InOrder, fold_of, before, ops_of, view_of, graph_at}
use Rattle.world_model.specs.Asked.{op_of, wrote_of}
use Rattle.world_model.specs.Refusals.{write_refusal}
use Rattle.world_model.specs.Step.{step, write_step, allowed_write_step, effect_step, unchanged}
use Rattle.world_model.proofs.Objects.{object_at-apply}
use Rattle.world_model.proofs.Folds.{empty_dead}
use Rattle.world_model.proofs.Views.{front_sound}
use Rattle.world_model.proofs.Undo.{writes_form}
use Rattle.world_model.proofs.Writes.{allowed_possible}
use Rattle.world_model.proofs.Effects.{effect_seen}

pub touched_object : (op : Op) (g : Graph) (x : Oid) → is_touched op x ≡ true → object_at (apply op g) x ≡ changed op x (object_at g x)
touched_object op g x h = object_at-apply op g x ∙ ap (λ b. cond b (changed op x (object_at g x)) (object_at g x)) h

pub other_object : (op : Op) (g : Graph) (x : Oid) → is_touched op x ≡ false → object_at (apply op g) x ≡ object_at g x
other_object op g x h = object_at-apply op g x ∙ ap (λ b. cond b (changed op x (object_at g x)) (object_at g x)) h

empty_form : (x : Oid) → IsForm (object_at empty_graph x)
empty_form x = subst IsForm (sym (empty_dead x)) tt

pub instant_form : (w : World) (t : ℕ) (x : Oid) → InOrder w → IsForm (object_at (graph_at w.commits t) x)
instant_form w t x o = writes_form (ops_of (Rattle.std.proofs.Common.filter (λ c. nat_le c.ts t) w.commits)) empty_graph x (front_sound w o (λ n. nat_le n t) early) (empty_form x)
  where
    early : (a b : ℕ) → nat_lt a b ≡ true → nat_le b t ≡ true → nat_le a t ≡ true
    early a b lt le = grind (arith, nat_tests)

pub base_form : (w : World) (t : ℕ) (x : Oid) → InOrder w → IsForm (object_at (fold_of (before t w.commits)) x)
unfolding before
base_form w t x o = writes_form (ops_of (before t w.commits)) empty_graph x (front_sound w o (λ n. nat_lt n t) early) (empty_form x)
  where
    early : (a b : ℕ) → nat_lt a b ≡ true → nat_lt b t ≡ true → nat_lt a t ≡ true
    early a b lt le = grind (arith, nat_tests)

pub view_form : (w : World) (c : ℕ) (p : Txn) (x : Oid) → InOrder w → txn_of w c ≡ Some p → IsForm (object_at (view_of w p) x)
view_form w c p x o f = writes_form p.ops (fold_of (before p.start w.commits)) x (o.running_sound c p f) (base_form w p.start x o)

-- a write that changes the graph isn't answered as one that doesn't
wrote_something : (w : World) (ask : Ask) → reply.Wrote (wrote_of w ask) ≡ unchanged → ⊥
wrote_something w CreateVertex e = cc
wrote_something w (DeleteVertex v) e = cc
wrote_something w (AddLabel v name) e = cc
wrote_something w (RemoveLabel v name) e = cc
wrote_something w (SetVertexProp v name value) e = cc
wrote_something w (CreateEdge from kind to) e = cc
wrote_something w (DeleteEdge e) same = cc
wrote_something w (SetEdgeProp e name value) same = cc

answered_by : (w : World) (c : ℕ) (ask : Ask) (op : Op) (b : Bool) → ((effect_step w c ask op b).reply ≡ unchanged) ↔ (b ≡ false)
answered_by w c ask op true = (λ e. absurd (wrote_something w ask e), λ e. absurd cc)
answered_by w c ask op false = (λ e. refl, λ e. refl)

reply_of : (w : World) (c : ℕ) (p : Txn) (ask : Ask) → txn_of w c ≡ Some p → write_refusal w p ask ≡ None →
    (step w c (event.Write ask)).reply ≡ (effect_step w c ask (op_of w (view_of w p) ask) (changes (op_of w (view_of w p) ask) (view_of w p))).reply
reply_of w c p ask f h =
    ap (λ (o : Option Txn). (write_step w c ask o).reply) f ∙ ap (λ (r : Option Refused). (allowed_write_step w p c ask r).reply) h

pub unchanged_seen : (w : World) (c : ℕ) (p : Txn) (ask : Ask) → InOrder w → txn_of w c ≡ Some p → write_refusal w p ask ≡ None →
    ((step w c (event.Write ask)).reply ≡ unchanged) ↔ SameObjects (view_of w p) (apply (op_of w (view_of w p) ask) (view_of w p))
unchanged_seen w c p ask o f h =
    let op : Op = op_of w (view_of w p) ask in
    let seen = effect_seen op (view_of w p) (λ x. view_form w c p x o f) (allowed_possible w c p ask o f h) in
    let by = answered_by w c ask op (changes op (view_of w p)) in
    let reply = reply_of w c p ask f h in (
      λ e. seen.0 (by.0 (sym reply ∙ e)),
      λ e. reply ∙ by.1 (seen.1 e),
    )
