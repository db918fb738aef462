-- What a sync asks of the store, in order (batch/v1, KEP-2307).
--     let_go_ask row                 the request that lets the pod of the row go
--     early_asks plan                the requests before the first status
--     first_asks, second_asks        the write of a status, where there is one
--     last_asks releases second      the requests behind the first status
--     late_asks plan                 those from the first status on
--     asks_of plan                   all of a plan; no mark of a pod that is let go is among them yet
--     as_request ask                 what a reply tells of the request
--     is_gone answer                 the answer says that a finalizer was taken
--     asks_after ask answer left     what is left to ask after the answer
--     Course, course_once            what was made and what is left, before and after an answer
--     released_in made               the pods whose release was made
--     first_written ask answer       the version at which the request has written the first status
--     version_sent sends ask         the version that the request sends
--     writes_status ask              the request writes the status
--     conflict_of, unchanged_of      the version that a conflict tells, or an answer that nothing has changed
use Rattle.std.specs.Prelude.{Bool, true, false, List, [], ◌∷◌, ◌++◌, map, Option, Some, None, if◌then◌else◌}
use Rattle.std.specs.List.{filter_map}
use Rattle.jc_types.specs.declared.numbers.Uid.{Uid}
use Rattle.jc_types.specs.declared.numbers.Version.{Version}
use Rattle.jc_types.specs.declared.replies.Answer.{Answer}
use Rattle.jc_types.specs.declared.replies.Answer.TheVariants as answer
use Rattle.jc_types.specs.declared.replies.Request.{Request}
use Rattle.jc_types.specs.declared.replies.Request.TheVariants as request
use Rattle.jc_types.specs.declared.statuses.JobStatus.{JobStatus}
use Rattle.jc_plan.specs.declared.plans.Planned.{Planned}
use Rattle.jc_asks.specs.declared.asks.Ask.{Ask}
use Rattle.jc_asks.specs.declared.asks.Ask.TheVariants.{MakePod, MarkPod, LetPodGo, WriteFirst, ReleasePod, WriteSecond}

-- The request that lets a pod go, at the version at which it was seen.
abbrev pub let_go_ask : Uid × Version → Ask
let_go_ask row = LetPodGo row.0 row.1

-- The write of the first status, where there is one.
abbrev pub first_asks : Option JobStatus → List Ask
first_asks None = []
first_asks (Some status) = WriteFirst ∷ []

-- The write of the second status, where there is one.
abbrev pub second_asks : Option JobStatus → List Ask
second_asks None = []
second_asks (Some status) = WriteSecond ∷ []

-- Before the first status: creations, marks and let-goes.
abbrev pub early_asks : Planned → List Ask
early_asks plan = map MakePod plan.creates ++ (map MarkPod plan.marks ++ map let_go_ask plan.let_goes)

-- Once a first status is written or not needed: releases, and the second status.
abbrev pub last_asks : List Uid → Option JobStatus → List Ask
last_asks releases second = map ReleasePod releases ++ second_asks second

-- From the first status on.
abbrev pub late_asks : Planned → List Ask
late_asks plan = first_asks plan.first ++ last_asks plan.releases plan.second

-- All, as far as no answer is known.
abbrev pub asks_of : Planned → List Ask
asks_of plan = early_asks plan ++ late_asks plan

-- What a reply tells of the request.
abbrev pub as_request : Ask → Request
as_request (MakePod index) = request.CreatePod index
as_request (MarkPod u) = request.MarkPod u
as_request (LetPodGo u v) = request.LetGo u
as_request WriteFirst = request.Status
as_request (ReleasePod u) = request.Release u
as_request WriteSecond = request.Status

-- The answer says that a finalizer was taken.
abbrev pub is_gone : Answer → Bool
is_gone (answer.Released v) = true
is_gone other = false

-- What is left to ask: a pod that was let go is marked next.
abbrev pub left_when : Ask → Bool → List Ask → List Ask
left_when (LetPodGo u v) gone left = if gone then MarkPod u ∷ left else left
left_when other gone left = left

-- What is left after the answer to the request before it.
abbrev pub asks_after : Ask → Answer → List Ask → List Ask
asks_after ask given left = left_when ask (is_gone given) left

-- The requests that were made, but for let-goes that brought a mark, and those that are left.
pub record Course : Type 0 where
  pub made : List Ask
  pub left : List Ask

-- The course once this request was made: the mark of a pod that was let go takes the place of the let-go.
abbrev pub goes_on : List Ask → Ask → Bool → List Ask → Course
goes_on made (LetPodGo u v) gone left =
    if gone then record { made = made; left = MarkPod u ∷ left }
    else record { made = made ++ LetPodGo u v ∷ []; left = left }
goes_on made ask gone left = record { made = made ++ ask ∷ []; left = left }

-- The course once the next request was made, if one is left.
abbrev pub course_once : List Ask → List Ask → Bool → Course
course_once made [] gone = record { made = made; left = [] }
course_once made (ask ∷ left) gone = goes_on made ask gone left

-- The pod that the request releases.
abbrev pub release_of : Ask → Option Uid
release_of (ReleasePod u) = Some u
release_of other = None

-- The pods whose release was made.
abbrev pub released_in : List Ask → List Uid
released_in made = filter_map release_of made

-- The version at which the answer says that something was written.
abbrev pub written_version : Answer → Option Version
written_version (answer.Written v) = Some v
written_version other = None

-- The version at which the request has written the first status.
abbrev pub first_written : Option Ask → Answer → Option Version
first_written (Some WriteFirst) given = written_version given
first_written other given = None

-- The version that the request sends, where it sends one: a let-go that of the pod, a write of the status the
-- last one that the sync knows.
abbrev pub version_sent : Version → Ask → Option Version
version_sent sends (MakePod index) = None
version_sent sends (MarkPod u) = None
version_sent sends (LetPodGo u v) = Some v
version_sent sends WriteFirst = Some sends
version_sent sends (ReleasePod u) = None
version_sent sends WriteSecond = Some sends

-- The version that a conflict tells.
abbrev pub conflict_of : Answer → Option Version
conflict_of (answer.Conflict v) = Some v
conflict_of other = None

-- The version of an object that the write would leave equal.
abbrev pub unchanged_of : Answer → Option Version
unchanged_of (answer.Unchanged v) = Some v
unchanged_of other = None

-- The request writes the status.
abbrev pub writes_status : Ask → Bool
writes_status WriteFirst = true
writes_status WriteSecond = true
writes_status other = false
