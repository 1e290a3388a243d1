use Rattle.plan_tests.proofs.shelf.readers_beside_a_publisher.Given as goal

-- the shelf has the new history
abbrev pub ghosts-beside : goal.ghosts-beside
ghosts-beside g a = record { book = a.history.book }
