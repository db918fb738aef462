-- The delays of keys as two tables, and what each call leaves of them.
--     Delayed                  the moments at which keys are due, and their counts of failures
--     RoomedDelays             delays beside their room
--     HasOneMoment d           no key has two moments
--     HaveSameMoments d e      each key has the same moment in both, or none in both
--     AreCopied moments keys   each delayed key is one of the keys
--     delayed d k m            the key is due at m, or at its earlier moment
--     failure_count_after d k  the key's count with one more failure, at most 7
--     seconds_after n          the seconds to wait after n failures
--     failed d k               with one more failure of the key
--     retried d k now          the same, and the key due after the seconds to wait, unless that is past the last moment
--     forgotten d k            without the count of the key
--     is_before a b            the row a is due before the row b: at an earlier moment, or at the same with a lesser key
--     row_at rows place        the row at the place, where there is a place
--     first_of rows            the row that is due first
--     least_moment rows        its moment
--     due_key d now            the key that is due first, where its moment has come
--     left_by d due            without the moment of the key that was due
--     is_due now row           the row's moment has come
--     in_turn rows             the rows in the order in which they are due
--     IsInTurn rows            no row is due before one in front of it
--     due_keys d now           the keys that are due, in this order
--     left_after d now         without their moments
use Rattle.std.specs.Prelude.{◌≡◌, ℕ, ◌+◌, ◌-◌, ◌^◌, Bool, true, false, not, ◌&&◌, ◌||◌, ◌==◌, nat_lt, nat_le, List, [], ◌∷◌, Option, Some, None, is_some, min, filter, slice_get, if◌then◌else◌}
use Rattle.std.specs.List.{AllByRecursion as Each, IsDistinct}
use Rattle.std.specs.Map.{keys_of}
use Rattle.std.specs.Option.{option_and_then, option_map, unwrap_or}
use Rattle.std.specs.Ordering.{is_lt}
use Rattle.jc_moment.specs.Range.{end_of_moments}
use Rattle.jc_types.specs.declared.objects.KeyNames.{KeyNames as Key}
use Rattle.jc_types.specs.Keys.{same_key}
use Rattle.jc_log.specs.Tables.{at, puts, takes}
pub use Rattle.jc_queue.specs.Queued.{key_order}
use Rattle.jc_queue.specs.Queued.{has_key}

-- The moment at which each key is due, and how often in a row each key has failed.
pub record Delayed : Type 0 where
  pub moments : List (Key × ℕ)
  pub failures : List (Key × ℕ)

-- Delays beside their room: so many more keys they take with no memory, and so many more failures.
pub record RoomedDelays : Type 0 where
  pub delays : Delayed
  pub room : ℕ

-- No key has two moments.
abbrev pub HasOneMoment : Delayed → Type 0
HasOneMoment d = IsDistinct same_key (keys_of d.moments)

-- Each key has the same moment in both, or none in both.
abbrev pub HaveSameMoments : Delayed → Delayed → Type 0
HaveSameMoments d e = (k : Key) → at same_key d.moments k ≡ at same_key e.moments k

-- Each key that has a moment is one of the keys.
abbrev pub AreCopied : List (Key × ℕ) → List Key → Type 0
AreCopied moments keys = (k : Key) → is_some (at same_key moments k) ≡ true → has_key k keys ≡ true

-- The moment, or the one that is there already where that is earlier.
abbrev pub earlier : Option ℕ → ℕ → ℕ
earlier None moment = moment
earlier (Some there) moment = min there moment

-- The moments where the key is due at this one, or at its earlier one.
abbrev pub with_moment : List (Key × ℕ) → Key → ℕ → List (Key × ℕ)
with_moment moments k moment = puts same_key moments k (earlier (at same_key moments k) moment)

-- The moment of another key or of this one then.
abbrev pub at_with_moment : List (Key × ℕ) → Key → ℕ → Key → Option ℕ
at_with_moment moments k moment other =
    if same_key k other then Some (earlier (at same_key moments k) moment) else at same_key moments other

-- The key is due at the moment, or at its earlier one.
abbrev pub delayed : Delayed → Key → ℕ → Delayed
delayed d k moment = record { moments = with_moment d.moments k moment; failures = d.failures }

-- The key's count with one more failure, at most 7.
abbrev pub failure_count_after : Delayed → Key → ℕ
failure_count_after d k = min (unwrap_or (at same_key d.failures k) 0 + 1) 7

-- The seconds to wait after n failures in a row: twice as many after each, from 1 on, and at most 60.
abbrev pub seconds_after : ℕ → ℕ
seconds_after n = min (2 ^ (n - 1)) 60

-- With one more failure of the key.
abbrev pub failed : Delayed → Key → Delayed
failed d k = record { moments = d.moments; failures = puts same_key d.failures k (failure_count_after d k) }

-- The key is due at the moment, or at its earlier one; a moment past the last one is not added.
abbrev pub delayed_within : Delayed → Key → ℕ → Delayed
delayed_within d k moment = if nat_lt moment end_of_moments then delayed d k moment else d

-- With one more failure of the key, which is due after the seconds to wait.
abbrev pub retried : Delayed → Key → ℕ → Delayed
retried d k now = delayed_within (failed d k) k (now + seconds_after (failure_count_after d k))

-- Without the count of the key.
abbrev pub forgotten : Delayed → Key → Delayed
forgotten d k = record { moments = d.moments; failures = takes same_key d.failures k }

-- The row a is due before the row b: at an earlier moment, or at the same with a lesser key.
abbrev pub is_before : Key × ℕ → Key × ℕ → Bool
is_before a b = nat_lt a.1 b.1 || (a.1 == b.1) && is_lt (key_order a.0 b.0)

-- Of the row and another, where there is one, the one that is due first.
abbrev pub sooner : Key × ℕ → Option (Key × ℕ) → Key × ℕ
sooner row None = row
sooner row (Some other) = if is_before other row then other else row

-- The row at the place, where there is a place.
abbrev pub row_at : List (Key × ℕ) → Option ℕ → Option (Key × ℕ)
row_at rows place = option_and_then (slice_get rows) place

-- The row that is due first.
abbrev pub first_of : List (Key × ℕ) → Option (Key × ℕ)
first_of [] = None
first_of (row ∷ rows) = Some (sooner row (first_of rows))

-- The moment of the row that is due first.
abbrev pub least_moment : List (Key × ℕ) → Option ℕ
least_moment rows = option_map (λ row. row.1) (first_of rows)

-- The key of the row, where its moment has come.
abbrev pub key_by : Option (Key × ℕ) → ℕ → Option Key
key_by None now = None
key_by (Some row) now = if nat_le row.1 now then Some row.0 else None

-- The key that is due first, where its moment has come.
abbrev pub due_key : Delayed → ℕ → Option Key
due_key d now = key_by (first_of d.moments) now

-- Without the moment of the key that was due.
abbrev pub left_by : Delayed → Option Key → Delayed
left_by d None = d
left_by d (Some k) = record { moments = takes same_key d.moments k; failures = d.failures }

-- The row's moment has come.
abbrev pub is_due : ℕ → Key × ℕ → Bool
is_due now row = nat_le row.1 now

-- The row among rows that stand in turn: behind those that are due before it.
abbrev pub put_in_turn : Key × ℕ → List (Key × ℕ) → List (Key × ℕ)
put_in_turn row [] = row ∷ []
put_in_turn row (first ∷ rows) = if is_before first row then first ∷ put_in_turn row rows else row ∷ first ∷ rows

-- The rows in the order in which they are due.
abbrev pub in_turn : List (Key × ℕ) → List (Key × ℕ)
in_turn [] = []
in_turn (row ∷ rows) = put_in_turn row (in_turn rows)

-- No row is due before one that stands in front of it.
abbrev pub IsInTurn : List (Key × ℕ) → Type 0
IsInTurn [] = Unit {0}
IsInTurn (row ∷ rows) = Each (λ later. is_before later row ≡ false) rows × IsInTurn rows

-- The keys that are due, in the order in which they are due.
abbrev pub due_keys : Delayed → ℕ → List Key
due_keys d now = keys_of (in_turn (filter (is_due now) d.moments))

-- Without the moments of the keys that are due.
abbrev pub left_after : Delayed → ℕ → Delayed
left_after d now = record { moments = filter (λ row. not (is_due now row)) d.moments; failures = d.failures }
