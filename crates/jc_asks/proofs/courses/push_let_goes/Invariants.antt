use Rattle.std.proofs.Common.{◌≡◌, ◌++◌, map, take}
use Rattle.jc_asks.specs.Asks.{let_go_ask}
use Rattle.jc_asks.proofs.courses.push_let_goes.Given as goal

abbrev pub invariant-loop-row : goal.invariant-loop-row
invariant-loop-row l = l.items.items ≡ l.initial.items.items ++ map let_go_ask (take l.row-index l.let_goes)
