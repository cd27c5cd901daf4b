use Rattle.anchor_store.proofs.found.finished.Given as goal

-- the ledger is the one that the blank opens
abbrev pub ghosts-counted : goal.ghosts-counted
ghosts-counted a b = record { name = b.blank.name; parts = b.blank.parts }
