use Rattle.jc_queue.proofs.OrderFacts.{first-least, in_turn-permutation, in_turn-sorted}
use Rattle.jc_queue.proofs.laws.rows_are_due_in_turn.Goals as goal

pub returns : goal.returns
returns c = record {
  least = first-least;
  sorted = in_turn-sorted;
  same = in_turn-permutation;
}
