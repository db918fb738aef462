use Rattle.std.proofs.Common.{Some, None, sym, ◌∙◌}
use Rattle.jc_runs.specs.Seen.{deeds_seen, log_seen}
use Rattle.jc_play.proofs.SystemFacts.{available-first}
use Rattle.jc_play.proofs.next.first_available.Goals as goal

pub returns-in-Some : goal.returns-in-Some
returns-in-Some c = available-first c.args.machine.now.shape (deeds_seen c.args.machine.now) (log_seen c.args.machine.now) (Some c.in-Some.event) (sym c.in-Some.is ∙ c.but_clock_event.ensures)

pub returns-in-None : goal.returns-in-None
returns-in-None c = c.clock_event.ensures ∙ available-first c.args.machine.now.shape (deeds_seen c.args.machine.now) (log_seen c.args.machine.now) None (sym c.in-None.is ∙ c.but_clock_event.ensures)
