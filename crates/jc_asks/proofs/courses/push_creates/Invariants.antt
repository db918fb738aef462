use Rattle.std.proofs.Common.{◌≡◌, ◌++◌, map, take}
use Rattle.jc_asks.specs.declared.asks.Ask.TheVariants.{MakePod}
use Rattle.jc_asks.proofs.courses.push_creates.Given as goal

abbrev pub invariant-loop-index : goal.invariant-loop-index
invariant-loop-index l = l.items.items ≡ l.initial.items.items ++ map MakePod (take l.index-index l.creates)
