use Rattle.jc_shared.proofs.by_mutex.run_threads.Given as goal

-- Each run picks its own script and shape.
abbrev pub ghosts-run_named : goal.ghosts-run_named
ghosts-run_named g a = record { script = a.play.script.now; shape = a.play.shape.now }
