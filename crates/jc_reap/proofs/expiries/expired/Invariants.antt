-- The Jobs behind those that are left, that may go.
use Rattle.std.proofs.Common.{◌≡◌, ◌++◌, List}
use Rattle.jc_types.specs.declared.objects.Job.{Job}
use Rattle.jc_types.specs.declared.objects.KeyNames.{KeyNames}
use Rattle.jc_types.specs.Keys.{same_uid}
use Rattle.jc_log.specs.Tables.{at}
use Rattle.jc_reap.specs.Expiries.{expired, ttl_at}
use Rattle.jc_reap.proofs.expiries.expired.Given as goal

abbrev pub invariant-loop-row : goal.invariant-loop-row
invariant-loop-row l =
    (done : List (KeyNames × Job)) × (l.jobs ≡ l.row-iterator.iter ++ done)
    × (l.rows.entries ≡ expired (λ u. ttl_at l.ttls (at same_uid l.makers u)) done)
