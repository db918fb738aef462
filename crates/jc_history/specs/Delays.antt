-- When keys are to be added to the queue again.
--     tries k notes          how many syncs of the key have failed since the last one that did not
--     failures k notes       the same, but 7 at most
--     delay k notes          the least moment that was added for the key since it was last taken out
--     delays notes           the keys that have one, each with its moment
--     keys_due now notes     the keys whose moment has come, by moment and then by key
--     least_delay notes      the least moment of all
use Rattle.std.specs.Prelude.{ℕ, ◌+◌, Bool, true, false, nat_le, nat_lt, min, List, [], ◌∷◌, filter, if◌then◌else◌, Option, Some, None}
use Rattle.std.specs.List.{filter_map}
use Rattle.std.specs.Map.{keys_of}
use Rattle.std.specs.Option.{option_map}
use Rattle.jc_control.specs.declared.ends.SyncEnd.{SyncEnd}
use Rattle.jc_control.specs.declared.ends.SyncEnd.TheVariants as end
use Rattle.jc_moment.specs.Range.{end_of_moments}
use Rattle.jc_queue.specs.Delayed.{earlier, first_of, in_turn, is_due, seconds_after}
use Rattle.jc_types.specs.declared.objects.KeyNames.{KeyNames as Key}
use Rattle.jc_types.specs.Keys.{same_key}
use Rattle.jc_history.specs.KeyLists.{once}
use Rattle.jc_history.specs.Notes.{Note, Ended, Ticked}

-- ---- failures

-- The end of a sync that has failed: a write of the status was refused as a conflict, or a request was not answered.
abbrev pub is_retried : SyncEnd → Bool
is_retried (end.Ended next) = false
is_retried end.Retry = true
is_retried end.Gone = false
is_retried end.Unavailable = true

-- Whether a sync of the key failed, where one ended.
abbrev pub failure_told : Key → Note → Option Bool
failure_told k (Ended worker basis end now) = if same_key basis.key k then Some (is_retried end) else None
failure_told k note = None

-- One more after a failure, none after another end.
abbrev pub tries_after : Option Bool → ℕ → ℕ
tries_after None tries = tries
tries_after (Some true) tries = tries + 1
tries_after (Some false) tries = 0

-- How many syncs of the key have failed since the last one that did not.
abbrev pub tries : Key → List Note → ℕ
tries k [] = 0
tries k (note ∷ older) = tries_after (failure_told k note) (tries k older)

-- The number of failures that counts: 7 at most.
abbrev pub failures : Key → List Note → ℕ
failures k notes = min (tries k notes) 7

-- ---- moments

-- The moment, if it is one.
abbrev pub if_moment : ℕ → Option ℕ
if_moment seconds = if nat_lt seconds end_of_moments then Some seconds else None

-- The moment that an end adds for its key: after a failure now and the seconds to wait, else what the plan named.
abbrev pub added_by_end : SyncEnd → ℕ → ℕ → Option ℕ
added_by_end (end.Ended next) now failed = next
added_by_end end.Retry now failed = if_moment (now + seconds_after failed)
added_by_end end.Gone now failed = None
added_by_end end.Unavailable now failed = if_moment (now + seconds_after failed)

-- The moment that the note adds for the key, if any; `failed` is the number of failures with this one.
abbrev pub moment_added : Key → Note → ℕ → Option ℕ
moment_added k (Ended worker basis end now) failed =
    if same_key basis.key k then added_by_end end now failed else None
moment_added k note failed = None

-- The moment, unless it has come by now.
abbrev pub not_come : ℕ → Option ℕ → Option ℕ
not_come now None = None
not_come now (Some moment) = if nat_le moment now then None else Some moment

-- What the note leaves of the moment: the clock takes out what has come.
abbrev pub moment_left : Note → Option ℕ → Option ℕ
moment_left (Ticked now) moment = not_come now moment
moment_left note moment = moment

-- The earlier of a moment that is there and one that is added.
abbrev pub earlier_if : Option ℕ → Option ℕ → Option ℕ
earlier_if there None = there
earlier_if there (Some added) = Some (earlier there added)

-- The least moment that was added for the key since it was last taken out.
abbrev pub delay : Key → List Note → Option ℕ
delay k [] = None
delay k (note ∷ older) =
    earlier_if (moment_left note (delay k older)) (moment_added k note (min (tries k older + 1) 7))

-- ---- all keys

-- The key of the sync that ended.
abbrev pub ended_key : Note → Option Key
ended_key (Ended worker basis end now) = Some basis.key
ended_key note = None

-- The keys that are delayed, each with its moment.
abbrev pub delays : List Note → List (Key × ℕ)
delays notes =
    filter_map (λ k. option_map (λ moment. (k, moment)) (delay k notes)) (once (filter_map ended_key notes))

-- The keys whose moment has come, by moment and then by key.
abbrev pub keys_due : ℕ → List Note → List Key
keys_due now notes = keys_of (in_turn (filter (is_due now) (delays notes)))

-- The least moment of all.
abbrev pub least_delay : List Note → Option ℕ
least_delay notes = option_map (λ row. row.1) (first_of (delays notes))
