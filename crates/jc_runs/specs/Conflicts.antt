-- What the syncs of a history are told of conflicts.
--     IsToldLater shape past d     a conflict that the deed tells its sync is later than what the sync sent
--     AreToldLater shape deeds     so is each
use Rattle.std.specs.Prelude.{◌≡◌, ℕ, ◌<◌, List, [], ◌∷◌, Some, IfSome}
use Rattle.jc_log.specs.Acts as does
use Rattle.jc_types.specs.declared.numbers.Version.{Version}
use Rattle.jc_types.specs.declared.replies.Answer.TheVariants.{Conflict}
use Rattle.jc_types.specs.declared.replies.Reply.TheVariants.{Stepped}
use Rattle.jc_types.specs.declared.replies.Request.{Request}
use Rattle.jc_types.specs.declared.runs.Shape.{Shape}
use Rattle.jc_states.specs.declared.bases.Basis.{Basis}
use Rattle.jc_log.specs.Deeds.{Deed}
use Rattle.jc_plan.specs.Plans.{planned}
use Rattle.jc_asks.specs.declared.asks.Ask.{Ask}
use Rattle.jc_asks.specs.Asks.{version_sent}
use Rattle.jc_asks.specs.Readings.{next_ask}
use Rattle.jc_asks.specs.Sends.{sends_of}
use Rattle.jc_history.specs.Registers.{made, register}
use Rattle.jc_history.specs.Replies.{diary}

-- Where the deed tells the worker's sync of a conflict, the version there is later than the one that the
-- sync sent with its request: a write of the status sends the last version that the sync knows, a let-go
-- that of the pod as the sync saw it.
abbrev pub IsToldLater : Shape → List Deed → Deed → Type 0
IsToldLater shape past d =
    (c w : ℕ) (asked : Request) (current : Version) (basis : Basis) (ask : Ask)
    → d.act ≡ does.Step c w → d.reply ≡ Stepped asked (Conflict current)
    → register w (diary shape c past) ≡ Some basis
    → next_ask (planned basis) (made w (diary shape c past)) ≡ Some ask
    → IfSome (version_sent (sends_of basis (made w (diary shape c past))) ask)
    (λ sent. sent.0 < current.0)

-- So it is with each deed.
abbrev pub AreToldLater : Shape → List Deed → Type 0
AreToldLater shape [] = Unit {0}
AreToldLater shape (d ∷ past) = IsToldLater shape past d × AreToldLater shape past
