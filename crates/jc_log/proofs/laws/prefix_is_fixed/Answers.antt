-- The lemmas on prefixes and places.
use Rattle.jc_log.proofs.LogFacts.{upto-fixed, entry_at-older, entry_at-newest}
use Rattle.jc_log.proofs.laws.prefix_is_fixed.Goals as goal

pub returns : goal.returns
returns c = record {
  prefix = upto-fixed;
  entry = entry_at-older;
  newest = entry_at-newest;
}
