use Rattle.jc_control.proofs.LawFacts.{begun-fresh, begun-ready}
use Rattle.jc_control.proofs.laws.syncs_begin_on_fresh_caches.Goals as goal

pub returns : goal.returns
returns c = record {
  fresh = begun-fresh;
  ready = begun-ready;
}
