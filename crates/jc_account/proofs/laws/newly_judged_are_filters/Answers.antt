-- The lemmas on newly judged pods.
use Rattle.jc_account.proofs.AccountFacts.{judged-member, left-member, newly-member, newly-order, newly-room, staying-member}
use Rattle.jc_account.proofs.JudgementFacts.{newly-none}
use Rattle.jc_account.proofs.StayingFacts.{staying-length}
use Rattle.jc_account.proofs.laws.newly_judged_are_filters.Goals as goal

pub returns : goal.returns
returns c = record {
  judged = judged-member;
  left = left-member;
  member = newly-member;
  none = newly-none;
  order = newly-order;
  few_judged = newly-room;
  staying = staying-member;
  staying_length = λ job pods rises lists. staying-length job pods rises lists.succeeded lists.failed lists.apart;
}
