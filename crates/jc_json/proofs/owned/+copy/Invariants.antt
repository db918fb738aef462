use Rattle.std.proofs.Common.{◌≡◌, List, ◌++◌, take, map}
use Rattle.serde_json.specs.Data.{no_members}
use Rattle.serde_json.specs.View as owned
use Rattle.serde_json.proofs.Views.{Entry}
use Rattle.jc_json.specs.View.{view, members_view}
use Rattle.jc_json.proofs.owned.+copy.Given as goal

abbrev pub invariant-copy_items-loop-item : goal.invariant-copy_items-loop-item
invariant-copy_items-loop-item l = map view l.copies.items ≡ map owned.view (take l.item-index l.item-items)

abbrev pub invariant-copy_members-loop-name : goal.invariant-copy_members-loop-name
invariant-copy_members-loop-name l =
    (done : List Entry) × (l.members.entries ≡ done ++ l.name-iterator) × (members_view l.copies.items no_members ≡ owned.members_view done)
