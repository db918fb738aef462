use Rattle.std.proofs.Common.{◌≡◌, ◌++◌, map, take}
use Rattle.jc_asks.specs.declared.asks.Ask.TheVariants.{MarkPod}
use Rattle.jc_asks.proofs.courses.push_marks.Given as goal

abbrev pub invariant-loop-pod : goal.invariant-loop-pod
invariant-loop-pod l = l.items.items ≡ l.initial.items.items ++ map MarkPod (take l.pod-index l.marks)
