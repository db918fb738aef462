use Rattle.jc_sync.proofs.QuietSync.{begun_current, fewer_left, quiet_ends, quiet_goes}
use Rattle.jc_sync.proofs.ReachFacts.{ended_all, has_next}
use Rattle.jc_sync.proofs.laws.quiet_syncs_come_to_the_next_status.Goals as goal

pub returns : goal.returns
returns c = record {
  begun = begun_current;
  goes = quiet_goes;
  ends = quiet_ends;
  next = has_next;
  ended = ended_all;
  fewer = fewer_left;
}
