use Rattle.anchor_store.proofs.Grouped.{groups_alone, groups_so}
use Rattle.anchor_store.proofs.laws.groups_part_the_deltas.Goals as goal

pub returns-clause-so : goal.returns-clause-so
returns-clause-so g c = groups_so

pub returns-clause-alone : goal.returns-clause-alone
returns-clause-alone g c = λ k ds gs parts. groups_alone k ds gs parts.parts parts.sized
