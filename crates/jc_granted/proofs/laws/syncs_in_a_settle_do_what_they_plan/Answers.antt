-- The lemmas on the end of a sync in a settle.
use Rattle.jc_granted.proofs.SettleGrants.{ended-lost, next-had, planned-done}
use Rattle.jc_granted.proofs.laws.syncs_in_a_settle_do_what_they_plan.Goals as goal

pub returns : goal.returns
returns c = record {
  plan = λ shape run past k w basis d it.
      planned-done c.allowed_updates_stay_valid.ensures shape it.sync.some past run k w basis d it.sync.legal it.sync.valid it.sync.settling it.sync.controller it.sync.worker it.sync.begun it.sync.alone it.next it.act it.reply_is;
  next = λ shape run past k w basis d job it this.
      next-had c.allowed_updates_stay_valid.ensures shape it.sync.some past run k w basis d it.sync.legal it.sync.valid it.sync.settling it.sync.controller it.sync.worker it.sync.begun it.sync.alone job this it.next it.act it.reply_is;
  ended = λ shape run past k w basis d job it this.
      ended-lost c.allowed_updates_stay_valid.ensures shape it.sync.some past run k w basis d it.sync.legal it.sync.valid it.sync.settling it.sync.controller it.sync.worker it.sync.begun it.sync.alone job this it.next it.act it.reply_is;
}
