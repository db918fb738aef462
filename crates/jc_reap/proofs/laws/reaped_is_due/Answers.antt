use Rattle.std.proofs.Common.{◌++◌, ◌∷◌, List, [], subst}
use Rattle.jc_log.specs.Deeds.{Deed}
use Rattle.jc_log.specs.Writes.{Stored}
use Rattle.jc_log.proofs.WriteFacts.{Stored-from_legal}
use Rattle.jc_types.specs.declared.runs.Shape.{Shape}
use Rattle.jc_runs.specs.Legal.{IsLegal}
use Rattle.jc_runs.specs.Seen.{deeds_seen}
use Rattle.jc_runs.proofs.LegalRuns.{legal_run}
use Rattle.jc_reap.specs.Reaping.{ttl_seen}
use Rattle.jc_reap.proofs.FindFacts.{acts_of, front-due, listed-good}
use Rattle.jc_reap.specs.Reaping.{reap_list}
use Rattle.jc_reap.proofs.laws.reaped_is_due.Goals as goal
use Rattle.jc_core.proofs.QuietSyncs.{legal-before as before}

pub returns : goal.returns
returns c = λ seen ttls more left valid legal is.
    let start = deeds_seen seen in
    let m = legal_run c.allowed_updates_stay_valid.ensures seen.shape start (before seen.shape more start legal) valid in
    let stored = subst Stored m.run.log_is (Stored-from_legal m.log m.run.syncs.tied.legal) in
    let good = listed-good (ttl_seen seen ttls) seen.shape start stored in
    (front-due (ttl_seen seen ttls) seen.shape start (acts_of (reap_list seen ttls)) good more left is legal).due
