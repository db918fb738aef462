use Rattle.std.proofs.Common.{List, reverse, subst}
use mathlib.Core.List.{IsPrefix}
use Rattle.jc_types.specs.declared.runs.Past.{Past}
use Rattle.jc_shared.proofs.by_turn_lock.wait_for.Goals as goal

pub returns-in-Value-clause-begins : goal.returns-in-Value-clause-begins
returns-in-Value-clause-begins g c =
    subst (λ (xs : List Past). IsPrefix xs (reverse c.in-Value.kept.seen.pasts)) c.loop.invariant.2 c.in-Value.ensures.value.2
