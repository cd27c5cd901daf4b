-- What is kept of one object: its newest form, the deltas behind it, and the transaction that writes it.
use Rattle.std.specs.Prelude.{◌≡◌, ℕ, ◌<◌, ◌+◌, List, [], ◌∷◌, Option, Some, None, Bool, false, All, map, filter, unwrap_or, nat_eq, if◌then◌else◌}
use Rattle.graph_value.specs.declared.id.Oid.{Oid}
use Rattle.graph_record.specs.declared.object.Object.{Object}
use Rattle.graph_record.specs.declared.object.Object.TheVariants.{Dead}
use Rattle.txn_manager.specs.declared.rivals.Rival.{Rival}
use Rattle.txn_manager.specs.Conflict.{rival_of}
use Rattle.undo_delta.specs.Apply.{after}
use Rattle.undo_delta.specs.Change.{changed, deltas_of}
use Rattle.undo_delta.specs.declared.delta.Delta.{Delta}
use Rattle.undo_delta.specs.declared.delta.DeltaPair.{DeltaPair}
use Rattle.undo_delta.specs.declared.op.Op.{Op}
use Rattle.version_chain.specs.Entry.{open_entry, is_committed, is_not_before, stamped}
use Rattle.version_chain.specs.Parts.{version, timestamps_of, first_of}
use Rattle.version_chain.specs.declared.entry.Entry.{Entry}
use Rattle.front_core.specs.declared.row.Writing.{Writing}

pub record ObjectRow : Type 0 where
  pub newest : Object
  pub chain : List (Entry Delta)
  pub writing : Option Writing

-- of an object that nobody has made
abbrev pub no_row : ObjectRow
no_row = record { newest = Dead; chain = []; writing = None }

-- READING

-- the object as the commits up to an instant left it
abbrev pub row_at_instant : ℕ → ObjectRow → Object
row_at_instant t r = version after r.newest r.chain t

abbrev pub is_writer : ℕ → Option Writing → Bool
is_writer caller None = false
is_writer caller (Some w) = nat_eq w.caller caller

-- the object as a transaction sees it: the newest form where it writes the object itself
abbrev pub seen : ℕ → ℕ → ObjectRow → Object
seen caller start r = if is_writer caller r.writing then r.newest else row_at_instant start r

-- the start of the transaction that writes the object, where it is another caller's
abbrev pub other_start : ℕ → Option Writing → Option ℕ
other_start caller None = None
other_start caller (Some w) = if nat_eq w.caller caller then None else Some w.start

-- who stands in the way of the caller's write of the object
abbrev pub row_rival : ℕ → ℕ → ObjectRow → Option Rival
row_rival caller start r = rival_of start (other_start caller r.writing) (first_of (timestamps_of r.chain))

-- WRITING

-- no other caller writes the object
abbrev pub IsFreeFor : ℕ → ObjectRow → Type 0
IsFreeFor caller r = other_start caller r.writing ≡ None

-- the caller writes the object, which is kept as it was before its first write
abbrev pub begun_row : ℕ → ℕ → ObjectRow → ObjectRow
begun_row caller start r =
    record r { writing = Some (unwrap_or r.writing (record { caller = caller; start = start; former = r.newest })) }

abbrev pub push_some : Option Delta → List (Entry Delta) → List (Entry Delta)
push_some None chain = chain
push_some (Some d) chain = open_entry d ∷ chain

-- the deltas of a pair in front, the older first
abbrev pub pushed : DeltaPair → List (Entry Delta) → List (Entry Delta)
pushed pair chain = push_some pair.second (push_some pair.first chain)

-- the object is changed by a write, and the deltas that undo this stand in front
abbrev pub changed_row : Op → Oid → ObjectRow → ObjectRow
changed_row op x r = record { newest = changed op x r.newest; chain = pushed (deltas_of op x r.newest) r.chain; writing = r.writing }

abbrev pub written_row : ℕ → ℕ → Op → Oid → ObjectRow → ObjectRow
written_row caller start op x r = changed_row op x (begun_row caller start r)

-- ENDING

-- the deltas of the transaction get its timestamp
abbrev pub committed_as : ℕ → ObjectRow → Option Writing → ObjectRow
committed_as ts r None = r
committed_as ts r (Some w) = record { newest = r.newest; chain = map (stamped ts) r.chain; writing = None }

abbrev pub committed_row : ℕ → ObjectRow → ObjectRow
committed_row ts r = committed_as ts r r.writing

-- the object is again what it was before the transaction
abbrev pub aborted_as : ObjectRow → Option Writing → ObjectRow
aborted_as r None = r
aborted_as r (Some w) = record { newest = w.former; chain = filter is_committed r.chain; writing = None }

abbrev pub aborted_row : ObjectRow → ObjectRow
aborted_row r = aborted_as r r.writing

-- the timestamp is above each that the object has, where it is being written
abbrev pub IsStampFor : ℕ → ObjectRow → Option Writing → Type 0
IsStampFor ts r None = Unit {0}
IsStampFor ts r (Some w) = All (λ older. older < ts) (timestamps_of r.chain)

abbrev pub MayCommit : ℕ → ObjectRow → Type 0
MayCommit ts r = IsStampFor ts r r.writing

-- CUTTING

-- without the deltas that were committed before a mark
abbrev pub cut_row : ℕ → ObjectRow → ObjectRow
cut_row mark r = record r { chain = filter (is_not_before mark) r.chain }
