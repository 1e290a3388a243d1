use Rattle.statement.proofs.roll.roll.Given as goal

-- the log of the shelf: the history that is created here
abbrev pub ghosts-roll_named : goal.ghosts-roll_named
ghosts-roll_named g a = record { book = a.history.book }
