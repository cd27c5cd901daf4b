-- The definitions of steps and histories, computed on the network.
use Rattle.std.proofs.Common.{◌≡◌, ℕ, ◌+◌, ◌≤◌, pos, [], ◌∷◌, Some, None, true, false, not, codes, refl, ap, ◌∙◌, arith}
use Rattle.graph_value.specs.Value.{same_value}
use Rattle.graph_value.specs.declared.value.Value as values
use Rattle.graph_value.specs.declared.value.Value.TheVariants.{Null}
use Rattle.graph_value.proofs.Levels.{null_apart}
use Rattle.graph_value.specs.declared.id.Oid.TheVariants as oid
use Rattle.graph_record.specs.declared.object.Object.TheVariants.{Dead}
use Rattle.txn_manager.specs.declared.rivals.Rival.TheVariants as rival
use Rattle.txn_manager.specs.declared.refusals.BeginRefused.TheVariants as begin
use Rattle.txn_manager.specs.Transactions.{begin_refusal}
use Rattle.undo_delta.specs.declared.op.Op.TheVariants as op
use Rattle.undo_delta.specs.declared.op.Op.{Op}
use Rattle.undo_delta.specs.declared.ask.Ask.{Ask}
use Rattle.undo_delta.specs.declared.ask.Ask.TheVariants.{CreateVertex, SetVertexProp, SetEdgeProp}
use Rattle.world_model.specs.declared.event.Event.TheVariants as event
use Rattle.world_model.specs.declared.event.When.TheVariants.{Own}
use Rattle.world_model.specs.Reply as reply
use Rattle.world_model.specs.declared.answer.Wrote.TheVariants as wrote
use Rattle.world_model.specs.declared.answer.Refused.TheVariants as refused
use Rattle.world_model.specs.Op.{apply_all, are_touching}
use Rattle.world_model.specs.World.{World, InOrder, start_world, find_txn, other_writer, newest_touch, touched_after, ops_of, before, rises, mark}
use Rattle.world_model.specs.Refusals.{write_refusal}
use Rattle.world_model.specs.Step.{step, effect_step, with_op, without}
use Rattle.world_model.specs.History.{IsStart, may_want, no_memory, world_after, stamps_given}
use Rattle.world_model.specs.Replies.{IsReplyTo}
use Rattle.world_model.proofs.Network.{v0, v1, e0, five, network, full, early, late}

abbrev set_weight : Ask
set_weight = SetEdgeProp e0 (codes "w") five

abbrev weight_op : Op
weight_op = op.SetEdgeProp e0 (codes "w") five

-- ---- an edge's property is written under its name, and the write is answered as done

weight_allowed : write_refusal network early set_weight ≡ None
unfolding apply_all ops_of before find_txn other_writer newest_touch are_touching
weight_allowed = refl

-- also where no id is left, since it makes nothing
weight_at_the_end : write_refusal full early set_weight ≡ None
unfolding apply_all ops_of before find_txn other_writer newest_touch are_touching
weight_at_the_end = refl

vertex_at_the_end : write_refusal full early CreateVertex ≡ Some refused.IdEnd
unfolding apply_all ops_of before find_txn other_writer newest_touch are_touching
vertex_at_the_end = refl

abbrev weighted : World
weighted = record network { running = record early { ops = op.SetEdgeProp e0 (codes "w") five ∷ [] } ∷ late ∷ [] }

weight_is_set : step network 1 (event.Write set_weight) ≡ record { reply = reply.Wrote wrote.Done; world = weighted }
unfolding apply_all ops_of before find_txn other_writer newest_touch are_touching with_op
    values.out-Value values.roll-Value denote.Hole.Carrier.out denote.Hole.Carrier.roll
weight_is_set =
    let as_decided : step network 1 (event.Write set_weight) ≡ effect_step network 1 set_weight weight_op (not (same_value Null five)) = refl in
    as_decided ∙ ap (effect_step network 1 set_weight weight_op) (ap not (null_apart (pos 5)))

-- and so is a vertex's
abbrev set_key : Ask
set_key = SetVertexProp v1 (codes "k") five

abbrev key_op : Op
key_op = op.SetVertexProp v1 (codes "k") five

abbrev keyed : World
keyed = record network { running = early ∷ record late { ops = op.AddLabel v1 (codes "C") ∷ key_op ∷ [] } ∷ [] }

key_is_set : step network 2 (event.Write set_key) ≡ record { reply = reply.Wrote wrote.Done; world = keyed }
unfolding apply_all ops_of before find_txn other_writer newest_touch are_touching with_op
    values.out-Value values.roll-Value denote.Hole.Carrier.out denote.Hole.Carrier.roll
key_is_set =
    let as_decided : step network 2 (event.Write set_key) ≡ effect_step network 2 set_key key_op (not (same_value Null five)) = refl in
    as_decided ∙ ap (effect_step network 2 set_key key_op) (ap not (null_apart (pos 5)))

-- ---- who stands in the way

of_the_open : write_refusal network early (SetVertexProp v1 (codes "k") five) ≡ Some (refused.Conflict (oid.Vertex v1) (rival.Running 7))
unfolding apply_all ops_of before find_txn other_writer newest_touch are_touching
of_the_open = refl

of_the_committed : write_refusal network early (SetVertexProp v0 (codes "k") five) ≡ Some (refused.Conflict (oid.Vertex v0) (rival.Committed 6))
unfolding apply_all ops_of before find_txn other_writer newest_touch are_touching
of_the_committed = refl

nobody : write_refusal network late (SetVertexProp v1 (codes "k") five) ≡ None
unfolding apply_all ops_of before find_txn other_writer newest_touch are_touching
nobody = refl

not_there : write_refusal network early (SetEdgeProp (record { 0 = 2 }) (codes "w") five) ≡ Some (refused.Missing (oid.Edge (record { 0 = 2 })))
unfolding apply_all ops_of before find_txn other_writer newest_touch are_touching
not_there = refl

-- ---- the ends of a transaction

committed : (step network 2 event.Commit).reply ≡ reply.Committed 8
unfolding find_txn
committed = refl

nothing_committed : (step network 1 event.Commit).reply ≡ reply.Committed 5
unfolding find_txn
nothing_committed = refl

marked : mark network ≡ 5
marked = refl

marked_later : mark (step network 1 event.Commit).world ≡ 7
unfolding find_txn without
marked_later = refl

-- ---- where memory may be wanting: never at a commit, and in place of no other refusal

not_at_a_commit : may_want network 1 event.Commit ≡ false
not_at_a_commit = refl

not_for_a_refusal : may_want network 3 (event.Read (oid.Vertex v0) Own) ≡ false
unfolding find_txn
not_for_a_refusal = refl

not_for_a_conflict : may_want network 1 (event.Write (SetVertexProp v0 (codes "k") five)) ≡ false
unfolding apply_all ops_of before find_txn other_writer newest_touch are_touching
not_for_a_conflict = refl

at_a_read : may_want network 1 (event.Read (oid.Vertex v0) Own) ≡ true
unfolding find_txn
at_a_read = refl

nothing_done : world_after network (record { caller = 3; event = event.Begin; reply = no_memory }) ≡ network
nothing_done = refl

-- after every other answer the world is the step's
after_a_begin : world_after network (record { caller = 3; event = event.Begin; reply = reply.Begun 8 })
    ≡ record network { clock = 9; running = early ∷ late ∷ record { caller = 3; start = 8; ops = [] } ∷ [] }
after_a_begin = refl

after_a_write : world_after network (record { caller = 2; event = event.Write CreateVertex; reply = reply.Wrote (wrote.Vertex (record { 0 = 2 })) })
    ≡ record network { vertices = 3; running = early ∷ record late { ops = op.AddLabel v1 (codes "C") ∷ op.CreateVertex (record { 0 = 2 }) ∷ [] } ∷ [] }
unfolding apply_all ops_of before find_txn other_writer newest_touch are_touching with_op
after_a_write = refl

after_an_abort : world_after network (record { caller = 2; event = event.Abort; reply = reply.Aborted }) ≡ record network { running = early ∷ [] }
unfolding find_txn without
after_an_abort = refl

-- ---- timestamps rise

rising : rises (2 ∷ 4 ∷ []) ≡ true
unfolding rises
rising = refl

not_twice : rises (2 ∷ 2 ∷ []) ≡ false
unfolding rises
not_twice = refl

not_falling : rises (2 ∷ 6 ∷ 4 ∷ []) ≡ false
unfolding rises
not_falling = refl

stamps_of_both : stamps_given network (record { caller = 2; event = event.Commit; reply = reply.Committed 8 } ∷ record { caller = 1; event = event.Commit; reply = reply.Committed 5 } ∷ []) ≡ 8 ∷ []
unfolding stamps_given find_txn without
stamps_of_both = refl

-- ---- the clock's end

abbrev late_clock : ℕ → World
late_clock clock = start_world (record { interval = 1; clock = clock; vertices = 0; edges = 0 })

room_for_one : begin_refusal (record { clock = 4611686018427387902; running = [] }) 1 ≡ None
room_for_one = refl

room_for_none : begin_refusal (record { clock = 4611686018427387903; running = [] }) 1 ≡ Some begin.ClockEnd
room_for_none = refl

no_start_behind : IsStart (record { interval = 1; clock = 4611686018427387905; vertices = 0; edges = 0 }) → ⊥
no_start_behind h = let low : 4611686018427387905 ≤ 4611686018427387904 = h.clock.1 in absurd (omega arith)

no_start_at_0 : IsStart (record { interval = 1; clock = 0; vertices = 0; edges = 0 }) → ⊥
no_start_at_0 h = let low : 1 ≤ 0 = h.clock.0 in absurd (omega arith)

not_in_order : InOrder (late_clock 4611686018427387905) → ⊥
not_in_order o = let room : 4611686018427387905 + 0 ≤ 4611686018427387904 = o.ready.room in absurd (omega arith)

-- ---- what order and the kinds of answers refuse

abbrev crossed : World
crossed = record network { running = record { caller = 1; start = 7; ops = op.AddLabel v1 (codes "C") ∷ [] } ∷ record { caller = 2; start = 6; ops = op.AddLabel v1 (codes "D") ∷ [] } ∷ [] }

-- no object is written by two open transactions
not_by_two : InOrder crossed → ⊥
unfolding find_txn are_touching
not_by_two o = let free : true ≡ false = o.alone 1 2 _ _ refl refl (λ e. absurd (omega arith)) (oid.Vertex v1) refl in cc

-- nor by one that doesn't see a commit that touches it
abbrev blind : World
blind = record network { running = record { caller = 1; start = 5; ops = op.AddLabel v0 (codes "C") ∷ [] } ∷ [] }

not_unseen : InOrder blind → ⊥
unfolding find_txn are_touching touched_after
not_unseen o = let free : true ≡ false = o.unrivalled 1 _ refl (oid.Vertex v0) refl in cc

no_version_at_a_begin : IsReplyTo event.Begin (reply.Version Dead) → ⊥
no_version_at_a_begin h = h.told
