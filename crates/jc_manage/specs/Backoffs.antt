-- How long a Job waits after failures before it makes pods again (batch/v1).
--     failures_after .., last_after ..    the failures in a row, and when the last of them was seen, after a sync
--     backoff_after backoff counted now   both
--     pause n                             the seconds to wait after n failures in a row
--     opening backoff                     the second before which no pod is made, if there is one
--     is_delayed_until opening now        it has not come
use Rattle.std.specs.Prelude.{ℕ, ◌+◌, ◌*◌, ◌-◌, ◌^◌, ◌==◌, nat_lt, min, Bool, false, if◌then◌else◌, Option, Some, None}
use Rattle.std.specs.Option.{option_map}
use Rattle.jc_types.specs.declared.syncs.Backoff.{Backoff}
use Rattle.jc_types.specs.declared.syncs.CountIn.{CountIn}

-- A success ends the row of failures; else the new ones join it.
abbrev pub failures_after : ℕ → ℕ → ℕ → ℕ
failures_after failures new_failed new_succeeded = if nat_lt 0 new_succeeded then 0 else failures + new_failed

-- When the last failure was seen: now where the failures rose, and else as it was.
abbrev pub last_after : Option ℕ → ℕ → ℕ → ℕ → Option ℕ
last_after last now new_failed new_succeeded =
    if nat_lt 0 new_succeeded then last else if nat_lt 0 new_failed then Some now else last

-- The backoff after a sync that has counted so.
abbrev pub backoff_after : Backoff → CountIn → ℕ → Backoff
backoff_after backoff counted now = record {
  failures = failures_after backoff.failures counted.new_failed counted.new_succeeded;
  last = last_after backoff.last now counted.new_failed counted.new_succeeded;
}

-- The seconds to wait after n failures in a row: 10 after the first, twice as many after each further one, and
-- at most 360.
unfoldable pub pause : ℕ → ℕ
pause n = min (10 * 2 ^ (n - 1)) 360

-- The second before which no pod is made; none where there is no failure.
abbrev pub opening : Backoff → Option ℕ
opening backoff =
    if backoff.failures == 0 then None
    else option_map (λ last. last + pause backoff.failures) backoff.last

-- The opening has not come yet.
abbrev pub is_delayed_until : Option ℕ → ℕ → Bool
is_delayed_until None now = false
is_delayed_until (Some second) now = nat_lt now second
