use Rattle.std.proofs.Common.{◌∙◌}
use Rattle.jc_runs.specs.Seen.{deeds_seen, log_seen}
use Rattle.jc_play.proofs.UnheldFacts.{first-held}
use Rattle.jc_play.proofs.unheld.held_step.Goals as goal

pub returns : goal.returns
returns c =
    let seen = c.args.machine.now in
    c.first_step.ensures ∙ first-held c.args.slots.now seen.shape (deeds_seen seen) (log_seen seen) c.requires
