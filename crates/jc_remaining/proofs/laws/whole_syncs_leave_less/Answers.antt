-- The lemmas on a whole sync.
use Rattle.jc_remaining.proofs.SyncFacts.{sync-creations-fewer, sync-creations-most, sync-left-less, sync-left-most}
use Rattle.jc_remaining.proofs.laws.whole_syncs_leave_less.Goals as goal

pub returns : goal.returns
returns c = record {
  none_more = λ fates keys log new basis lasts fits saw all. sync-creations-most fates log lasts new basis saw all fits keys;
  fewer = λ fates keys log new basis lasts fits saw all each some. sync-creations-fewer fates log lasts new basis saw all fits keys each some;
  same = λ most fates log new basis saw all none. sync-left-most log basis saw most fates new all none;
  less = λ most fates log new basis saw all none some. sync-left-less log basis saw most fates new all none some;
}
