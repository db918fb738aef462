use Rattle.std.proofs.Common.{◌≡◌, ◌++◌, drop}
use Rattle.jc_log.specs.Requests.{put_pattern}
use Rattle.jc_store.proofs.Patterns.{rest_of}
use Rattle.jc_store.proofs.reports.with_condition.Given as goal

abbrev pub invariant-loop-pattern : goal.invariant-loop-pattern
invariant-loop-pattern l =
    put_pattern l.conditions l.given ≡ l.list ++ rest_of l.placed (drop l.pattern-index l.conditions) l.given
