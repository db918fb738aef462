-- What a watch is told after a version.
use Rattle.std.specs.Prelude.{◌≡◌, ℕ, ◌+◌, ◌-◌, ◌<◌, ◌≤◌, List, Some, length}
use Rattle.jc_types.specs.declared.numbers.Version.{Version}
use Rattle.jc_types.specs.declared.objects.Entry.{Entry}
use Rattle.jc_log.specs.Log.{entry_at}
use Rattle.jc_watch.specs.declared.told.Next.{Next}
use Rattle.jc_watch.specs.declared.told.Next.TheVariants as next

-- The floor: the log's length less the window, and at least 0.
abbrev pub window_floor : List Entry → ℕ → ℕ
window_floor log window = length log - window

-- Expired where the version is below the floor; up to date where it is the log's length; else the
-- entry after it.
abbrev pub Shows : List Entry → Version → ℕ → Next → Type 0
Shows log from window (next.Expired floor) =
    (floor.0 ≡ window_floor log window) × (from.0 < window_floor log window)
Shows log from window next.UpToDate = (window_floor log window ≤ from.0) × (from.0 ≡ length log)
Shows log from window (next.Entry entry) =
    (window_floor log window ≤ from.0) × (entry_at (from.0 + 1) log ≡ Some entry.now)
