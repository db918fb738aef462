-- What the controllers of a machine have noted.
--     diary_seen seen c     all that the controller has noted since it last started
use Rattle.std.specs.Prelude.{ℕ, List}
use Rattle.jc_history.specs.Notes.{Note}
use Rattle.jc_history.specs.Replies.{diary}
use Rattle.jc_runs.specs.Seen.{Seen, deeds_seen}

-- All that the controller has noted since it last started.
abbrev pub diary_seen : Seen → ℕ → List Note
diary_seen seen c = diary seen.shape c (deeds_seen seen)
