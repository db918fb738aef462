-- The requests of a sync kind by kind, and what the store answers the next one.
--     lets_go_of u request         it lets the pod of the UID go
--     was_let_go u made              the finalizer of the pod was taken by one of these requests
--     let_go_asks made pod           a let-go, with the mark that follows where it was answered so
--     asks plan made                 all requests of the plan, with those marks
--     next_by_kind plan made         the first of them that was not made
--     ask_gives log now b made ask   the store's answer to it
use Rattle.std.specs.Prelude.{ℕ, Bool, false, List, [], ◌∷◌, ◌++◌, length, map, slice_get, if◌then◌else◌, Option}
use Rattle.std.specs.List.{flat_map}
use Rattle.std.specs.Option.{option_to_list}
use Rattle.jc_plan.specs.declared.plans.Planned.{Planned}
use Rattle.jc_types.specs.declared.numbers.Uid.{Uid}
use Rattle.jc_types.specs.declared.numbers.Version.{Version}
use Rattle.jc_types.specs.declared.objects.Entry.{Entry}
use Rattle.jc_types.specs.declared.replies.Answer.{Answer}
use Rattle.jc_types.specs.declared.replies.Request.{Request}
use Rattle.jc_types.specs.declared.replies.Request.TheVariants as request
use Rattle.jc_states.specs.declared.bases.Basis.{Basis}
use Rattle.jc_log.specs.Requests.{Answered}
use Rattle.jc_types.specs.Keys.{same_uid}
use Rattle.jc_states.specs.UidLists.{is_in}
use Rattle.jc_asks.specs.declared.asks.Ask.{Ask}
use Rattle.jc_asks.specs.declared.asks.Ask.TheVariants.{MakePod, MarkPod, LetPodGo, WriteFirst, ReleasePod, WriteSecond}
use Rattle.jc_asks.specs.Readings.{gone_in}
use Rattle.jc_asks.specs.Steps.{answered_to}
use Rattle.jc_history.specs.SoFar.{so_far}

-- The request lets the pod of the UID go.
abbrev pub lets_go_of : Uid → Request → Bool
lets_go_of u (request.LetGo pod) = same_uid pod u
lets_go_of u other = false

-- One of the requests has taken the finalizer of the pod.
abbrev pub was_let_go : Uid → List (Request × Answer) → Bool
was_let_go u made = is_in u (gone_in made)

-- A let-go, and the mark that follows where it was answered so.
abbrev pub let_go_asks : List (Request × Answer) → Uid × Version → List Ask
let_go_asks made pod =
    LetPodGo pod.0 pod.1 ∷ (if was_let_go pod.0 made then MarkPod pod.0 ∷ [] else [])

-- All requests: creations, marks, let-goes with their marks, the first status, releases, the second
-- status.
abbrev pub asks : Planned → List (Request × Answer) → List Ask
asks plan made =
    map MakePod plan.creates
    ++ (map MarkPod plan.marks
    ++ (flat_map (let_go_asks made) plan.let_goes
    ++ (map (λ status. WriteFirst) (option_to_list plan.first)
    ++ (map ReleasePod plan.releases
    ++ map (λ status. WriteSecond) (option_to_list plan.second)))))

-- The first that was not made.
abbrev pub next_by_kind : Planned → List (Request × Answer) → Option Ask
next_by_kind plan made = slice_get (asks plan made) (length made)

-- What the store answers a request of the sync after these requests and answers, the newest first.
abbrev pub ask_gives : List Entry → ℕ → Basis → List (Request × Answer) → Ask → Answered
ask_gives log now b made ask = answered_to log now (so_far b made).flight ask
