-- Where a sync stands among its requests.
--     early, late plan            the requests before the first status, and those from it on
--     second_writes plan          the write of the second status, where the plan has one
--     asks_left plan made         what is left to ask
--     AreLost log uids            the pods have lost their finalizer
--     Progress log plan made      before the first status; or among the releases, where the pods of
--                                 those before have lost their finalizer; or at the end
--     AsksReleasesOnly plan made  the sync makes no pod and writes no status any more
use Rattle.std.specs.Prelude.{◌≡◌, ◌≤◌, true, List, [], ◌++◌, length, map, drop, None}
use Rattle.std.specs.List.{AllByRecursion as Each, flat_map}
use Rattle.std.specs.Option.{option_to_list}
use Rattle.jc_plan.specs.declared.plans.Planned.{Planned}
use Rattle.jc_types.specs.declared.numbers.Uid.{Uid}
use Rattle.jc_types.specs.declared.objects.Entry.{Entry}
use Rattle.jc_types.specs.declared.replies.Answer.{Answer}
use Rattle.jc_types.specs.declared.replies.Request.{Request}
use Rattle.jc_log.specs.Log.{is_lost, life}
use Rattle.jc_asks.specs.declared.asks.Ask.{Ask}
use Rattle.jc_asks.specs.declared.asks.Ask.TheVariants.{MakePod, MarkPod, WriteFirst, ReleasePod, WriteSecond}
use Rattle.jc_bounds.specs.RequestKinds.{let_go_asks, asks}

-- The requests before the first status.
abbrev pub early : Planned → List (Request × Answer) → List Ask
early plan made =
    map MakePod plan.creates
    ++ (map MarkPod plan.marks ++ flat_map (let_go_asks made) plan.let_goes)

-- The write of the second status, where the plan has one.
abbrev pub second_writes : Planned → List Ask
second_writes plan = map (λ status. WriteSecond) (option_to_list plan.second)

-- The requests from the first status on.
abbrev pub late : Planned → List Ask
late plan =
    map (λ status. WriteFirst) (option_to_list plan.first)
    ++ (map ReleasePod plan.releases ++ second_writes plan)

-- What is left to ask.
abbrev pub asks_left : Planned → List (Request × Answer) → List Ask
asks_left plan made = drop (length made) (asks plan made)

-- The pods have lost their finalizer.
abbrev pub AreLost : List Entry → List Uid → Type 0
AreLost log uids = Each (λ u. is_lost (life u log) ≡ true) uids

-- Before the first status; or among the releases, the done ones with what they are to bring; or at
-- the end.
pub data Progress (log : List Entry) (plan : Planned) (made : List (Request × Answer)) : Type 0 where
  Early : length made ≤ length (early plan made) → Progress log plan made
  Late : (done rest : List Uid) → plan.releases ≡ done ++ rest
      → asks_left plan made ≡ map ReleasePod rest ++ second_writes plan → AreLost log done
      → Progress log plan made
  AtEnd : asks_left plan made ≡ [] → Progress log plan made

-- The plan asks for neither a pod nor a status, or only releases are left.
pub data AsksReleasesOnly (plan : Planned) (made : List (Request × Answer)) : Type 0 where
  Idle : plan.creates ≡ [] → plan.first ≡ None → plan.second ≡ None → AsksReleasesOnly plan made
  Rests : (rest : List Uid) → asks_left plan made ≡ map ReleasePod rest → AsksReleasesOnly plan made
