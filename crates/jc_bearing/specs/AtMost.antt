-- How many pods are made for a Job at most, where nobody interferes.
--     pods_at_most ends log job    those that were made for it, and those that may still be
use Rattle.std.specs.Prelude.{ℕ, ◌+◌, List}
use Rattle.jc_types.specs.declared.actions.End.{End}
use Rattle.jc_types.specs.declared.objects.Entry.{Entry}
use Rattle.jc_types.specs.declared.objects.Job.{Job}
use Rattle.jc_states.specs.Bases.{own_pods}
use Rattle.jc_log.specs.Log.{made_for, pods_under}
use Rattle.jc_making.specs.Making.{creations_left}

-- Those that were made for it, and those that may still be made, where its pods end so.
abbrev pub pods_at_most : List End → List Entry → Job → ℕ
pods_at_most ends log job =
    made_for job.uid log
    + creations_left ends (made_for job.uid log) job (own_pods job (pods_under job.key log))
