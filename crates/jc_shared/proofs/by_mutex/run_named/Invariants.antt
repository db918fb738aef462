use Rattle.jc_shared.proofs.by_mutex.run_named.Given as goal

-- The log of the run is the one that was made.
abbrev pub ghosts-played : goal.ghosts-played
ghosts-played g a = record { log = a.log.name }
