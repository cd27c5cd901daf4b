use Rattle.rebuild.proofs.tests.versions_are_in_blocks_and_in_the_chain.Given as goal

-- the ledger is the one that the blank opens
abbrev pub ghosts-found_at : goal.ghosts-found_at
ghosts-found_at g a = record { name = a.blank.name; parts = a.blank.parts }
