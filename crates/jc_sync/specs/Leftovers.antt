-- What is left to ask of a sync, as its steps tell it.
--     let_of ask, lets_of asks        the pods that are let go by the requests
--     IsLeftBy plan steps left        this is left of the plan's requests after these steps
use Rattle.std.specs.Prelude.{◌≡◌, ℕ, ◌<◌, List, ◌++◌, length, Option, Some, None}
use Rattle.std.specs.List.{AllByRecursion as Each, filter_map}
use Rattle.jc_types.specs.declared.numbers.Uid.{Uid}
use Rattle.jc_types.specs.declared.replies.Answer.{Answer}
use Rattle.jc_types.specs.declared.replies.Request.{Request}
use Rattle.jc_states.specs.UidLists.{AscendsFrom}
use Rattle.jc_plan.specs.declared.plans.Planned.{Planned}
use Rattle.jc_asks.specs.declared.asks.Ask.{Ask}
use Rattle.jc_asks.specs.declared.asks.Ask.TheVariants.{LetPodGo}
use Rattle.jc_asks.specs.Readings.{gone_in, requests}

-- The pod that the request lets go.
abbrev pub let_of : Ask → Option Uid
let_of (LetPodGo u v) = Some u
let_of other = None

-- The pods that these requests let go.
abbrev pub lets_of : List Ask → List Uid
lets_of asks = filter_map let_of asks

-- What is left is what was not made of the requests, and each pod that was let go comes before those that are
-- still to be.
pub record IsLeftBy (plan : Planned) (steps : List (Request × Answer)) (left : List Ask) : Type 0 where
  pub made : List Ask
  pub count : length made ≡ length steps
  pub is : made ++ left ≡ requests plan (gone_in steps)
  pub low : ℕ
  pub rising : AscendsFrom low (lets_of left)
  pub below : Each (λ u. u.0 < low) (gone_in steps)
