use Rattle.jc_history.proofs.QueueSteps.{queued-added, queued-began, queued-ended, queued-sent}
use Rattle.jc_history.proofs.laws.queue_follows_the_notes.Goals as goal

pub returns : goal.returns
returns c = record {
  added = queued-added;
  began = λ older schedule new k rest worker basis queue q first. queued-began older schedule new k rest queue q first worker basis;
  sent = λ older schedule new k rest queue q first. queued-sent older schedule new k rest queue q first;
  ended = queued-ended;
}
