-- The set has all numbers of a run that ends before the first number that is missing, and of no other.
use Rattle.std.proofs.lemmas.Bool.{lt-ltb, ltb-true}
use Rattle.jc_ranges.proofs.Within.{run_within, within_run}
use Rattle.jc_ranges.proofs.set.has_run.Goals as goal

pub returns : goal.returns
returns c = (
  λ t. run_within c.args.set.now c.args.run c.first_missing.result c.first_missing.ensures.missing (ltb-true c.args.run.last c.first_missing.result t),
  λ all. lt-ltb c.args.run.last c.first_missing.result (within_run c.args.set.now c.args.run c.first_missing.result c.first_missing.ensures.missing all),
)
