-- Which UIDs a status lists as uncounted (KEP-2307).
--     is_listed status u        the UID is in one of the two lists of uncounted UIDs
use Rattle.std.specs.Prelude.{Bool, ◌||◌}
use Rattle.jc_types.specs.declared.numbers.Uid.{Uid}
use Rattle.jc_types.specs.declared.statuses.JobStatus.{JobStatus}
use Rattle.jc_states.specs.UidLists.{is_in}

-- The UID is in one of the two lists of uncounted UIDs.
abbrev pub is_listed : JobStatus → Uid → Bool
is_listed status u = is_in u status.uncounted_succeeded || is_in u status.uncounted_failed
