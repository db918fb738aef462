use Rattle.std.proofs.Common.{◌≡◌, ◌++◌, map, take}
use Rattle.jc_log.specs.Requests.{new_container}
use Rattle.jc_store.proofs.new_objects.push_containers.Given as goal

abbrev pub invariant-loop-name : goal.invariant-loop-name
invariant-loop-name l = l.list ≡ l.initial.list ++ map (new_container l.init) (take l.name-index l.names)
