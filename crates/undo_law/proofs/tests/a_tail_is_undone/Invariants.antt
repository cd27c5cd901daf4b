use Rattle.undo_law.proofs.tests.a_tail_is_undone.Given as goal

-- the ledger is the one that the blank opens
abbrev pub ghosts-rebuild : goal.ghosts-rebuild
ghosts-rebuild g a = record { name = a.blank.name; parts = a.blank.parts }
