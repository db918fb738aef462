-- The history that is worked out.
use Rattle.jc_promise.proofs.SampleFacts.{sync-legal, sync-quiet}
use Rattle.jc_promise.proofs.laws.a_sync_is_quiet.Goals as goal

pub returns : goal.returns
returns c = record { legal = sync-legal; quiet = sync-quiet }
