-- What a sync has counted (KEP-2307).
--     counts counted     failed and succeeded: each total with the length of its list, and with what is left over
use Rattle.std.specs.Prelude.{ℕ, ◌+◌, length}
use Rattle.jc_types.specs.declared.syncs.CountIn.{CountIn}

-- The failed count and the succeeded count: each total, with those that are listed and those that are left over.
abbrev pub counts : CountIn → ℕ × ℕ
counts counted = (
  counted.failed + length counted.uncounted_failed + counted.left_failed,
  counted.succeeded + length counted.uncounted_succeeded + counted.left_succeeded,
)
