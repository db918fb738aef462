use Rattle.jc_plan.specs.Plans.{planned}
use Rattle.jc_asks.specs.Readings.{steps_of}
use Rattle.jc_sync.proofs.BeginFacts.{begun_syncs}
use Rattle.jc_sync.proofs.ReadFacts.{reads_next}
use Rattle.jc_sync.proofs.RegisterFacts.{free_syncs, quiet_syncs, restart_syncs, step_syncs}
use Rattle.jc_sync.proofs.laws.syncs_keep_their_registers.Goals as goal

pub returns : goal.returns
returns c = record {
  start = free_syncs;
  quiet = λ d past log rs h quiet tells. quiet_syncs d past log rs h quiet tells.began tells.step;
  stepped = step_syncs;
  begun = begun_syncs;
  restarted = λ d past log rs c h quiet tells. restart_syncs d past log rs c h quiet tells.began tells.step;
  next = λ past log rs c w sync h is. reads_next (planned sync.flight.basis) (steps_of c w past) sync.left (h.each c w sync is).reads;
}
