use Rattle.hostile_use.proofs.memory.publish.Given as goal

-- the log of the shelf is the new history
abbrev pub ghosts-publish_set : goal.ghosts-publish_set
ghosts-publish_set g a = record { book = a.history.book }
