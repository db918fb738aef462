-- The seconds by which the clock passes of itself: no delay is due past the last moment.
use Rattle.std.proofs.Common.{◌≡◌, ℕ, ◌+◌, ◌-◌, ◌<◌, ◌==◌, nat_le, nat_lt, min, zero, suc, ◌≤◌, ◌^◌, Bool, true, false, cond, not, ◌&&◌, ◌||◌, List, [], ◌∷◌, ◌++◌, length, slice_index_or, Option, Some, None, refl, subst, arith, ltb-true}
use Rattle.std.specs.Prelude.{IfSome, if◌then◌else◌}
use Rattle.std.specs.List.{AllByRecursion as Each, Any, cons_option, filter_map}
use Rattle.std.specs.Option.{option_map, option_to_list}
use Rattle.jc_types.proofs.ListFacts.{Each-append}
use Rattle.jc_log.specs.Acts as does
use Rattle.jc_log.specs.Acts.{Act}
use Rattle.jc_log.specs.Deeds.{Deed, act_of_system}
use Rattle.jc_log.specs.Range.{IsMoment, as_moment, end_of_moments}
use Rattle.jc_types.specs.declared.objects.Entry.{Entry}
use Rattle.jc_types.specs.declared.objects.Job.{Job}
use Rattle.jc_types.specs.declared.objects.Kind.{Kind}
use Rattle.jc_types.specs.declared.replies.Answer.{Answer}
use Rattle.jc_types.specs.declared.replies.Answer.TheVariants as answer
use Rattle.jc_types.specs.declared.replies.Reply.{Reply}
use Rattle.jc_types.specs.declared.replies.Reply.TheVariants as reply
use Rattle.jc_types.specs.declared.replies.Request.{Request}
use Rattle.jc_types.specs.declared.runs.Shape.{Shape}
use Rattle.jc_types.specs.declared.objects.KeyNames.{KeyNames as Key}
use Rattle.jc_types.specs.Keys.{same_key}
use Rattle.jc_types.specs.declared.objects.Pod.{Pod}
use Rattle.jc_types.specs.declared.syncs.Backoff.{Backoff}
use Rattle.jc_types.specs.declared.syncs.CountIn.{CountIn}
use Rattle.jc_states.specs.Bases.{own_pods}
use Rattle.jc_states.specs.Conditions.{has_target}
use Rattle.jc_states.specs.declared.bases.Basis.{Basis}
use Rattle.jc_finish.specs.Starts.{deadline_of, end_after, start_of}
use Rattle.jc_plan.specs.Backoffs.{backoff_after, is_delayed_until, opening}
use Rattle.jc_plan.specs.Creations.{creatable, is_none_of}
use Rattle.jc_plan.specs.Plans.{earlier_of, planned, planned_for}
use Rattle.jc_plan.specs.Statuses.{accounted, decided_in, is_end_decided, wants_at, wants_in}
use Rattle.jc_queue.specs.Delayed.{first_of, is_before, seconds_after, sooner}
use Rattle.jc_control.specs.declared.ends.SyncEnd.{SyncEnd}
use Rattle.jc_control.specs.declared.ends.SyncEnd.TheVariants as end
use Rattle.jc_history.specs.Available.{available, below, earliest, least_of_all}
use Rattle.jc_history.specs.Delays.{added_by_end, delay, delays, earlier_if, ended_key, least_delay, moment_added, moment_left, tries}
use Rattle.jc_history.specs.Diaries.{end_by, moment, notes, notes_taken, on_begin, on_clock, on_delivery, on_lag, on_list, on_step, restarts}
use Rattle.jc_history.specs.KeyLists.{once}
use Rattle.jc_history.specs.Lines.{line}
use Rattle.jc_history.specs.Notes.{Note, Asked, Ended, Faulted, Ticked}
use Rattle.jc_history.specs.Registers.{asks_status, register}
use Rattle.jc_types.specs.declared.runs.Sys.{Sys}
use Rattle.jc_order.proofs.AvailFacts.{Is, each-available}

-- ---- moments

-- No moment, or one that is not past the last one.
abbrev pub IsInTime : Option ℕ → Type 0
IsInTime o = IfSome o IsMoment

chosen : (b : Bool) (x y : Option ℕ) → IsInTime x → IsInTime y → IsInTime (cond b x y)
chosen true x y h g = h
chosen false x y h g = g

as-in-time : (o : Option ℕ) → IsInTime (as_moment o)
as-in-time None = tt
as-in-time (Some second) = by (nat_lt second end_of_moments) refl
  where
    by : (b : Bool) → nat_lt second end_of_moments ≡ b → IsInTime (cond b (Some second) None)
    by true e = ltb-true second end_of_moments e
    by false e = tt

earlier-in-time : (a b : Option ℕ) → IsInTime a → IsInTime b → IsInTime (earlier_of a b)
earlier-in-time None b h g = g
earlier-in-time (Some a) None h g = h
earlier-in-time (Some a) (Some b) h g = chosen (nat_le a b) (Some a) (Some b) h g

least-below : (a b n : ℕ) → a < n → min a b < n
least-below a b n h = omega (arith, h)

-- A plan names no moment past the last one.
record Timely (o : Option ℕ) : Type 0 where
  in_time : IsInTime o

timely-if : (b : Bool) (o : Option ℕ) → Timely (if b then as_moment o else None)
timely-if b o = record { in_time = chosen b (as_moment o) None (as-in-time o) tt }

timely-unless : (b : Bool) (o : Option ℕ) → Timely (if b then None else as_moment o)
timely-unless b o = record { in_time = chosen b None (as_moment o) tt (as-in-time o) }

timely-both : (a b : Option ℕ) → Timely a → Timely b → Timely (earlier_of a b)
timely-both a b h g = record { in_time = earlier-in-time a b h.in_time g.in_time }

wants-timely : (now : ℕ) (backoff : Backoff) (settled : Bool) (job : Job) (own : List Pod) (counted : CountIn)
    → Timely (wants_at now backoff settled job own counted).next
wants-timely now backoff settled job own counted =
    let opens = opening (backoff_after backoff counted now) in
    timely-if (is_delayed_until opens now && not (is_none_of (creatable settled job own counted))) opens

next-timely : (basis : Basis) (o : Option Job) → Timely (planned_for basis o).next
next-timely basis None = record { in_time = tt }
next-timely basis (Some job) =
    let settled = is_end_decided job (decided_in job basis) in
    let counted = accounted job basis in
    timely-both (wants_in job basis).next (deadline_of basis.now job.spec job.status)
    (wants-timely basis.now basis.backoff settled job (own_pods job basis.pods) counted)
    (timely-unless (job.spec.suspend || has_target job.status.conditions) (end_after job.spec.deadline (start_of basis.now job.spec job.status)))

planned-in-time : (basis : Basis) → IsInTime (planned basis).next
unfolding planned
planned-in-time basis = (next-timely basis basis.job).in_time

-- ---- notes

-- The end of a sync names no moment past the last one.
abbrev EndsInTime : Note → Type 0
EndsInTime (Ended worker basis (end.Ended next) now) = IsInTime next
EndsInTime other = Unit {0}

list-in-time : (kind : Kind) (log : List Entry) (r : Reply) → Each EndsInTime (on_list kind log r)
list-in-time kind log (reply.Listed at) = (tt, tt)
list-in-time kind log other = tt

delivery-in-time : (kind : Kind) (log : List Entry) (r : Reply) → Each EndsInTime (on_delivery kind log r)
delivery-in-time kind log (reply.Delivered version) = (tt, tt)
delivery-in-time kind log (reply.Expired floor) = (tt, tt)
delivery-in-time kind log other = tt

lag-in-time : (keys : List Key) → Each EndsInTime (on_lag keys)
lag-in-time [] = tt
lag-in-time (k ∷ rest) = (tt, tt)

begin-in-time : (worker now : ℕ) (log : List Entry) (older : List Note) (r : Reply) → Each EndsInTime (on_begin worker now log older r)
begin-in-time worker now log older (reply.Begun key jobs_at pods_at) = (tt, tt)
begin-in-time worker now log older (reply.Behind kind need have) = lag-in-time (line older)
begin-in-time worker now log older other = tt

answer-in-time : (worker : ℕ) (basis : Basis) (now : ℕ) (asked : Request) (given : Answer) (status : Bool)
    → Each EndsInTime (option_to_list (option_map (λ end. Ended worker basis end now) (end_by status given)) ++ Asked worker basis asked given ∷ [])
answer-in-time worker basis now asked answer.Unavailable true = (tt, (tt, tt))
answer-in-time worker basis now asked answer.Unavailable false = (tt, (tt, tt))
answer-in-time worker basis now asked (answer.Conflict current) true = (tt, (tt, tt))
answer-in-time worker basis now asked (answer.Conflict current) false = (tt, tt)
answer-in-time worker basis now asked answer.NotFound true = (tt, (tt, tt))
answer-in-time worker basis now asked answer.NotFound false = (tt, tt)
answer-in-time worker basis now asked other true = (tt, tt)
answer-in-time worker basis now asked other false = (tt, tt)

step-in-time : (worker now : ℕ) (o : Option Basis) (r : Reply) → Each EndsInTime (on_step worker now o r)
step-in-time worker now None r = tt
step-in-time worker now (Some basis) (reply.Stepped asked given) = answer-in-time worker basis now asked given (asks_status asked)
step-in-time worker now (Some basis) reply.Ended = (planned-in-time basis, tt)
step-in-time worker now (Some basis) other = tt

clock-in-time : (r : Reply) → Each EndsInTime (on_clock r)
clock-in-time (reply.Now moment) = (tt, tt)
clock-in-time other = tt

own : (b : Bool) (taken : List Note) → Each EndsInTime taken → Each EndsInTime (cond b taken [])
own true taken h = h
own false taken h = tt

taken-in-time : (c : ℕ) (act : Act) (r : Reply) (now : ℕ) (log : List Entry) (older : List Note)
    → Each EndsInTime (notes_taken c act r now log older)
taken-in-time c (does.List controller kind) r now log older = own (controller == c) (on_list kind log r) (list-in-time kind log r)
taken-in-time c (does.Deliver controller kind) r now log older = own (controller == c) (on_delivery kind log r) (delivery-in-time kind log r)
taken-in-time c (does.Begin controller worker) r now log older =
    own (controller == c) (on_begin worker now log older r) (begin-in-time worker now log older r)
taken-in-time c (does.Step controller worker) r now log older =
    own (controller == c) (on_step worker now (register worker older) r) (step-in-time worker now (register worker older) r)
taken-in-time c (does.PutFault controller worker fault) r now log older = own (controller == c) (Faulted worker fault ∷ []) (tt, tt)
taken-in-time c (does.Clock add) r now log older = clock-in-time r
taken-in-time c other r now log older = tt

notes-in-time : (shape : Shape) (c : ℕ) (past : List Deed) (log : List Entry) → Each EndsInTime (notes shape c past log)
notes-in-time shape c [] log = tt
notes-in-time shape c (d ∷ past) log = by (restarts c d.act) (notes-in-time shape c past log)
  where
    by : (b : Bool) → Each EndsInTime (notes shape c past log)
        → Each EndsInTime (cond b [] (notes_taken c d.act d.reply (moment shape past) log (notes shape c past log) ++ notes shape c past log))
    by true h = tt
    by false h = Each-append EndsInTime (notes_taken c d.act d.reply (moment shape past) log (notes shape c past log)) (notes shape c past log)
        (taken-in-time c d.act d.reply (moment shape past) log (notes shape c past log)) h

-- ---- delays

left-in-time : (note : Note) (o : Option ℕ) → IsInTime o → IsInTime (moment_left note o)
left-in-time (Ticked now) None h = tt
left-in-time (Ticked now) (Some due) h = chosen (nat_le due now) None (Some due) tt h
left-in-time other o h = h

added-in-time : (k : Key) (note : Note) (failed : ℕ) → EndsInTime note → IsInTime (moment_added k note failed)
added-in-time k (Ended worker basis ended now) failed h = chosen (same_key basis.key k) (added_by_end ended now failed) None (by ended h) tt
  where
    by : (ended : SyncEnd) → EndsInTime (Ended worker basis ended now) → IsInTime (added_by_end ended now failed)
    by (end.Ended next) h = h
    by end.Retry h = as-in-time (Some (now + seconds_after failed))
    by end.Gone h = tt
    by end.Unavailable h = as-in-time (Some (now + seconds_after failed))
added-in-time k other failed h = tt

both-in-time : (there added : Option ℕ) → IsInTime there → IsInTime added → IsInTime (earlier_if there added)
both-in-time there None h g = h
both-in-time None (Some added) h g = g
both-in-time (Some there) (Some added) h g = least-below there added end_of_moments h

delay-in-time : (k : Key) (all : List Note) → Each EndsInTime all → IsInTime (delay k all)
delay-in-time k [] h = tt
delay-in-time k (note ∷ older) h =
    both-in-time (moment_left note (delay k older)) (moment_added k note (min (tries k older + 1) 7))
    (left-in-time note (delay k older) (delay-in-time k older h.1)) (added-in-time k note (min (tries k older + 1) 7) h.0)

-- ---- the least of them

abbrev IsRowInTime : Key × ℕ → Type 0
IsRowInTime row = IsMoment row.1

rows-in-time : (all : List Note) → Each EndsInTime all → (keys : List Key)
    → Each IsRowInTime (filter_map (λ k. option_map (λ moment. (k, moment)) (delay k all)) keys)
rows-in-time all h [] = tt
rows-in-time all h (k ∷ keys) =
    by (filter_map (λ k. option_map (λ moment. (k, moment)) (delay k all)) keys) (delay k all) (delay-in-time k all h) (rows-in-time all h keys)
  where
    by : (rows : List (Key × ℕ)) (o : Option ℕ) → IsInTime o → Each IsRowInTime rows
        → Each IsRowInTime (cons_option (option_map (λ moment. (k, moment)) o) rows)
    by rows None h more = more
    by rows (Some due) h more = (h, more)

sooner-in-time : (row : Key × ℕ) (o : Option (Key × ℕ)) → IsRowInTime row → IfSome o IsRowInTime → IsRowInTime (sooner row o)
sooner-in-time row None h g = h
sooner-in-time row (Some other) h g = by (is_before other row)
  where
    by : (b : Bool) → IsRowInTime (cond b other row)
    by true = g
    by false = h

first-in-time : (rows : List (Key × ℕ)) → Each IsRowInTime rows → IfSome (first_of rows) IsRowInTime
first-in-time [] h = tt
first-in-time (row ∷ rows) h = sooner-in-time row (first_of rows) h.0 (first-in-time rows h.1)

row-in-time : (o : Option (Key × ℕ)) → IfSome o IsRowInTime → IsInTime (option_map (λ row. row.1) o)
row-in-time None h = tt
row-in-time (Some row) h = h

least-in-time : (all : List Note) → Each EndsInTime all → IsInTime (least_delay all)
least-in-time all h =
    row-in-time (first_of (delays all)) (first-in-time (delays all) (rows-in-time all h (once (filter_map ended_key all))))

all-in-time : (shape : Shape) (past : List Deed) (log : List Entry) (cs : List ℕ)
    → Each IsMoment (filter_map (λ c. least_delay (notes shape c past log)) cs)
all-in-time shape past log [] = tt
all-in-time shape past log (c ∷ cs) =
    by (filter_map (λ c. least_delay (notes shape c past log)) cs) (least_delay (notes shape c past log))
    (least-in-time (notes shape c past log) (notes-in-time shape c past log)) (all-in-time shape past log cs)
  where
    by : (moments : List ℕ) (o : Option ℕ) → IsInTime o → Each IsMoment moments → Each IsMoment (cons_option o moments)
    by moments None h more = more
    by moments (Some due) h more = (h, more)

earliest-in-time : (found : Option ℕ) (moments : List ℕ) → IsInTime found → Each IsMoment moments → IsInTime (earliest found moments)
earliest-in-time found [] h all = h
earliest-in-time None (due ∷ more) h all = earliest-in-time (Some due) more all.0 all.1
earliest-in-time (Some there) (due ∷ more) h all =
    earliest-in-time (Some (min there due)) more (least-below there due end_of_moments h) all.1

-- The least delay of all controllers is not due past the last moment.
pub least-is-moment : (shape : Shape) (past : List Deed) (log : List Entry) → IsInTime (least_of_all shape past log)
least-is-moment shape past log =
    earliest-in-time None (filter_map (λ c. least_delay (notes shape c past log)) (below shape.controllers)) tt
    (all-in-time shape past log (below shape.controllers))

-- ---- the clock

-- The seconds of a clock's act fit 64 bits.
abbrev SecondsFit : Act → Type 0
SecondsFit (does.Clock add) = add < 2 ^ 64
SecondsFit other = Unit {0}

some-fit : (due now last bound : ℕ) → due < last → last ≤ bound → due - now < bound
some-fit due now last bound lt le = omega (arith, lt, le)

each-fits : (shape : Shape) (past : List Deed) (log : List Entry)
    → Each (λ (event : Sys). SecondsFit (act_of_system event)) (available shape past log)
each-fits shape past log =
    each-available shape past log (λ (event : Sys). SecondsFit (act_of_system event)) (λ c kind lt. tt) (λ c kind lt. tt)
    (λ c w lt less. tt) (λ c w lt less. tt) tt
    (λ due e. some-fit due (moment shape past) end_of_moments (2 ^ 64) (subst IsInTime e (least-is-moment shape past log)) (omega arith))

-- What holds of each holds of one.
of-one : {X R : Type 0} (P Q : X → Type 0) (xs : List X) → Each P xs → Any Q xs → ((x : X) → P x → Q x → R) → R
of-one P Q [] all h more = absurd (let lt = h.2 in omega (arith, lt))
of-one {X} {R} P Q (x ∷ xs) all h more = by h.0 h.1 h.2 h.3 h.4 (λ h. of-one P Q xs all.1 h more)
  where
    by : (k : ℕ) (y : X) → k < length (x ∷ xs) → slice_index_or (x ∷ xs) k y ≡ y → Q y → (Any Q xs → R) → R
    by zero y lt e q rest = more y (subst P e all.0) q
    by (suc k) y lt e q rest = rest (k, y, omega (arith, lt), e, q)

-- The seconds by which the clock passes of itself fit 64 bits.
pub own-clock-fits : (shape : Shape) (past : List Deed) (log : List Entry) (add : ℕ)
    → Is (does.Clock add) (available shape past log) → add < 2 ^ 64
own-clock-fits shape past log add h =
    of-one (λ (event : Sys). SecondsFit (act_of_system event)) (λ (event : Sys). act_of_system event ≡ does.Clock add)
    (available shape past log) (each-fits shape past log) h (λ event fits is. subst SecondsFit is fits)
