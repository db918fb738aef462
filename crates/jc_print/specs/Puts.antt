-- How much a call puts behind a text, and when it may fail.
--     PutsAtMost most old new result      it puts so many bytes at most, and fails only where the text has no room for so many
use Rattle.std.specs.Prelude.{◌≤◌, ◌<◌, ◌+◌, ℕ, String, Result, OnErr}
use Rattle.std.specs.declared.alloc.AllocError.{AllocError}
use Rattle.std.specs.String.{string_len, string_capacity}

-- So many bytes at most are put behind the text, whose room does not shrink. It fails only where that had no room for so many.
abbrev pub PutsAtMost : {Z : Type 0} → ℕ → String Z → String Z → Result (Unit {0}) AllocError → Type 0
PutsAtMost most old new result =
    OnErr result (string_capacity old < string_len old + most)
    × ((string_len new ≤ string_len old + most)
    × (string_capacity old ≤ string_capacity new))
