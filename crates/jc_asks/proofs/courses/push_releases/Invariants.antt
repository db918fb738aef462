use Rattle.std.proofs.Common.{◌≡◌, ◌++◌, map, take}
use Rattle.jc_asks.specs.declared.asks.Ask.TheVariants.{ReleasePod}
use Rattle.jc_asks.proofs.courses.push_releases.Given as goal

abbrev pub invariant-loop-pod : goal.invariant-loop-pod
invariant-loop-pod l = l.items.items ≡ l.initial.items.items ++ map ReleasePod (take l.pod-index l.releases)
