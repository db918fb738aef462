use Rattle.std.proofs.Common.{◌≡◌, map, take}
use Rattle.jc_log.specs.Requests.{changed_container}
use Rattle.jc_store.proofs.reports.changed_containers.Given as goal

abbrev pub invariant-loop-container : goal.invariant-loop-container
invariant-loop-container l = l.list ≡ map (changed_container l.changes) (take l.container-index l.containers)
