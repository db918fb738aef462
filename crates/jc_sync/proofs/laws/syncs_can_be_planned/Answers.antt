use Rattle.jc_sync.proofs.FitFacts.{asked_fits, create_fits, delete_fits, mark_fits, release_fits, report_fits, update_fits}
use Rattle.jc_sync.proofs.PlanReady.{can_plan, plannable_more}
use Rattle.jc_sync.proofs.laws.syncs_can_be_planned.Goals as goal

pub returns : goal.returns
returns c = record {
  can = can_plan;
  more = plannable_more;
  asked = asked_fits;
  created = create_fits;
  updated = λ log legal p. update_fits log legal p c.allowed_updates_stay_valid.ensures;
  deleted = delete_fits;
  marked = mark_fits;
  stripped = release_fits;
  reported = report_fits;
}
