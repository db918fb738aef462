use Rattle.jc_seats.proofs.shared_run.SharedRun.mark.Given as goal

-- The log is shown the history of the cluster.
abbrev pub ghosts-show : goal.ghosts-show
ghosts-show g a = record { list = a.history.now.events.items }
