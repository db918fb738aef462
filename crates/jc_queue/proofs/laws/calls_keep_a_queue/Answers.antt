use Rattle.jc_queue.proofs.BackFacts.{retracted_is, sent_back_is}
use Rattle.jc_queue.proofs.QueueFacts.{added_is, finished_is, got_first_is}
use Rattle.jc_queue.proofs.laws.calls_keep_a_queue.Goals as goal

pub returns : goal.returns
returns c = record {
  added = added_is;
  got = got_first_is;
  finished = finished_is;
  sent_back = sent_back_is;
  retracted = retracted_is;
}
