use Rattle.jc_policies.proofs.NamedFacts.{found_name}
use Rattle.jc_policies.proofs.failure_policies.find_name.Goals as goal

pub returns-then-is_text : goal.returns-then-is_text
returns-then-is_text c =
    found_name c.args.names.now c.loop-name.name-index _ c.args.text.now _ _ c.loop-name-test.true c.name-item.is c.loop-name.invariant
    c.is_text.ensures c.if-is_text.true c.in_ok-copy.ensures
