-- The lemmas on writes.
use Rattle.jc_log.proofs.WriteFacts.{place_is_version, lost_stays, Stored-from_legal}
use Rattle.jc_log.proofs.laws.writes_last.Goals as goal

pub returns : goal.returns
returns c = record {
  version = place_is_version;
  lost = lost_stays;
  stored = Stored-from_legal;
}
