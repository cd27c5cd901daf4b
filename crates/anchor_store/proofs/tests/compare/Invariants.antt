use Rattle.anchor_store.proofs.tests.compare.Given as goal

-- the ledger is the one that the blank opens
abbrev pub ghosts-object_at : goal.ghosts-object_at
ghosts-object_at g a = record { name = a.blank.name; parts = a.blank.parts }
