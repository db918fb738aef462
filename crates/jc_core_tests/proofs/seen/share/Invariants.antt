use Rattle.jc_core_tests.proofs.seen.share.Given as goal

-- The lock is of the cluster's own script and shape.
abbrev pub ghosts-see_one_history : goal.ghosts-see_one_history
ghosts-see_one_history g a = record { script = a.cluster.seen.script; shape = a.cluster.seen.shape }
