-- What is still to be put makes the numbers of all.
use Rattle.std.proofs.Common.{◌≡◌, drop}
use Rattle.serde_json.specs.Data.{no_members}
use Rattle.serde_json.specs.View.{items_view, members_view}
use Rattle.jc_reading.specs.Turned.{numbers_by_name}
use Rattle.jc_reading.proofs.pod_reports.numbers_in.Given as goal

abbrev pub invariant-loop-container : goal.invariant-loop-container
invariant-loop-container l =
    numbers_by_name l.field (items_view (drop l.container-index l.containers)) (members_view l.members.entries)
    ≡ numbers_by_name l.field (items_view l.containers) no_members
