-- Settles without pods.
--     LeavesPods shape past    no deed of the settle is the node's, and none asks for a pod
use Rattle.std.specs.Prelude.{◌≡◌, ℕ, false, List, Some}
use Rattle.jc_types.specs.declared.runs.Shape.{Shape}
use Rattle.jc_log.specs.Deeds.{Deed}
use Rattle.jc_settle.specs.Settles.{next_of_settle, settled_on}
use Rattle.jc_calm.specs.SettleTurns.{is_of_pods}

-- No deed of the settle that goes on from here is the node's, and no sync asks to make, mark, let
-- go or release a pod.
abbrev pub LeavesPods : Shape → List Deed → Type 0
LeavesPods shape past =
    (events : ℕ) (d : Deed) → next_of_settle shape (settled_on shape events past) ≡ Some d
    → is_of_pods d ≡ false
