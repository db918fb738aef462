use Rattle.std.proofs.Common.{◌≡◌, take}
use Rattle.std.specs.Prelude.{fold}
use Rattle.jc_log.specs.Requests.{put_pattern}
use Rattle.jc_store.proofs.reports.changed_conditions.Given as goal

abbrev pub invariant-loop-pattern : goal.invariant-loop-pattern
invariant-loop-pattern l = l.list ≡ fold put_pattern l.conditions (take l.pattern-index l.given)
