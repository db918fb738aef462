-- The rows behind those that are left are in ascending key.
use Rattle.std.proofs.Common.{◌≡◌, ◌++◌, List}
use Rattle.jc_types.specs.declared.objects.Job.{Job}
use Rattle.jc_types.specs.declared.objects.KeyNames.{KeyNames}
use Rattle.jc_lines.specs.Reports.{by_key}
use Rattle.jc_lines.proofs.job_lists.ordered.Given as goal

abbrev pub invariant-loop-row : goal.invariant-loop-row
invariant-loop-row l =
    (done : List (KeyNames × Job)) × (l.jobs ≡ l.row-iterator.iter ++ done) × (l.rows.entries ≡ by_key done)
