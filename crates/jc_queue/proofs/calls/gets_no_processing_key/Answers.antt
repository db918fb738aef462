use Rattle.jc_queue.proofs.CallFacts.{all_idle}
use Rattle.jc_queue.proofs.calls.gets_no_processing_key.Goals as goal

pub returns : goal.returns
returns c = all_idle
