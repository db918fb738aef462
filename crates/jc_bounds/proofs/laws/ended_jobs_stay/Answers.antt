-- The lemmas on Jobs that have ended.
use Rattle.jc_bounds.proofs.Whole.{keeps, nothing_open, stands}
use Rattle.jc_bounds.proofs.laws.ended_jobs_stay.Goals as goal

pub returns : goal.returns
returns c = record { nothing_open = nothing_open; kept = keeps; stands = stands }
