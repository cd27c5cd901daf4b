-- The deltas of an object in one line: those of its chain, the newest first, and behind them those of its history.
-- Here `after x d` is the object x after the delta d.
use Rattle.std.specs.Prelude.{ℕ, Option, Some, None, List, [], ◌∷◌, filter}
use Rattle.undo_law.specs.Undone.{undone, deltas_of}
use Rattle.undo_law.specs.declared.dated.Dated.{Dated}
use Rattle.version_chain.specs.Entry.{is_after}
use Rattle.version_chain.specs.Parts.{deltas_of as chain_deltas}
use Rattle.version_chain.specs.declared.entry.Entry.{Entry}
use Rattle.anchor_store.specs.Blocks.{AreAnchored, BlockParts, history_of}
use Rattle.anchor_store.specs.Groups.{AreAtMost, later}

-- no timestamp of these deltas is above this one, where there is one
abbrev pub AreUpTo : {D : Type 0} → Option ℕ → List (Dated D) → Type 0
AreUpTo None ds = Unit
AreUpTo (Some ts) ds = AreAtMost ts ds

-- no timestamp of the history is above one of the chain
abbrev pub AreNewer : {D : Type 0} → List (Entry D) → List (Dated D) → Type 0
AreNewer [] history = Unit
AreNewer (e ∷ entries) history = AreUpTo e.stamp history × AreNewer entries history

-- Where the chain ends, the history leads on: each block's anchor is the object with all newer deltas undone, those of the
-- chain first.
pub record LeadsOn {O D : Type 0} (after : O → D → O) (newest : O) (entries : List (Entry D)) (blocks : List (BlockParts O D)) : Type 0 where
  pub anchored : AreAnchored after (undone after newest (chain_deltas entries)) blocks
  pub newer : AreNewer entries (history_of blocks)

-- the object as it was at the instant t: all later deltas are undone, those of the chain and then those of the history
abbrev pub version_of : {O D : Type 0} → (O → D → O) → O → List (Entry D) → List (BlockParts O D) → ℕ → O
version_of after newest entries blocks t = undone after (undone after newest (chain_deltas (filter (λ e. is_after t e) entries))) (deltas_of (later t (history_of blocks)))
