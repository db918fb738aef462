-- Both are kept from event to event.
use Rattle.jc_ledger.proofs.laws.each_version_can_be_planned.Goals as goal

pub returns : goal.returns
returns c = record {
  indexes = λ w t. t.numbered;
  totals = λ w t. t.totals;
}
