use Rattle.std.proofs.Common.{◌≡◌, take}
use Rattle.std.specs.Prelude.{fold}
use Rattle.jc_log.specs.Requests.{changed_by}
use Rattle.jc_store.proofs.reports.changed_container.Given as goal

abbrev pub invariant-loop-change : goal.invariant-loop-change
invariant-loop-change l = l.changed ≡ fold changed_by l.container (take l.change-index l.changes)
