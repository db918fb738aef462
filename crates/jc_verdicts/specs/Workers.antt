-- The workers of a run, and with what the last sync of each began.
--     same_worker a b    the same controller, and the same of its workers
--     is_near q          the worker is one of the first of the first controllers
--     place_near q         the place of such a worker in a list of them
--     start_in near far q, last_start starts q
--                        with what the last sync of the worker began, if one did
use Rattle.std.specs.Prelude.{ℕ, ◌+◌, ◌*◌, ◌==◌, Bool, ◌&&◌, List, Option, None, get_or, if◌then◌else◌, nat_lt}
use Rattle.jc_log.specs.Tables.{at}
use Rattle.jc_verdicts.specs.declared.workers.Start.{Start}
use Rattle.jc_verdicts.specs.declared.workers.Starts.{Starts}
use Rattle.jc_verdicts.specs.declared.workers.Worker.{Worker}

-- The same controller, and the same of its workers.
abbrev pub same_worker : Worker → Worker → Bool
same_worker a b = (a.controller == b.controller) && (a.worker == b.worker)

-- The worker is one of the first of the first controllers.
abbrev pub is_near : Worker → Bool
is_near q = nat_lt q.controller 4 && nat_lt q.worker 16

-- The place of such a worker in a list of them.
abbrev pub place_near : Worker → ℕ
place_near q = q.controller * 16 + q.worker

-- With what the last sync of the worker began, if one did, where those of the first stand in a list.
abbrev pub start_in : List (Option Start) → List (Worker × Start) → Worker → Option Start
start_in near far q = if is_near q then get_or near (place_near q) None else at same_worker far q

-- So it is of all workers.
abbrev pub last_start : Starts → Worker → Option Start
last_start starts q = start_in starts.near.items starts.far.entries q
