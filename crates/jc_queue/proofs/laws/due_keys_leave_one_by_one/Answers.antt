use Rattle.jc_queue.proofs.DueFacts.{due_keys-none, due_keys-some, fewer-left, left_after-none, left_after-some, once-left}
use Rattle.jc_queue.proofs.laws.due_keys_leave_one_by_one.Goals as goal

pub returns : goal.returns
returns c = record {
  last = due_keys-none;
  rest = left_after-none;
  first = due_keys-some;
  left = left_after-some;
  fewer = fewer-left;
  once = once-left;
}
