-- The lemmas on the Jobs of a log.
use Rattle.jc_cache.proofs.ListedFacts.{listed-apart, listed-filled}
use Rattle.jc_cache.proofs.laws.listed_jobs_fill_the_table.Goals as goal

pub returns : goal.returns
returns c = record {
  apart = listed-apart;
  filled = listed-filled;
}
