use Rattle.plan_tests.proofs.shelf.one_reader.Given as goal

-- the shelf has the new history
abbrev pub ghosts-learns : goal.ghosts-learns
ghosts-learns g a = record { book = a.history.book }
