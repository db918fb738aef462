use Rattle.jc_audit.proofs.UniqueFacts.{one_verdict}
use Rattle.jc_audit.proofs.laws.verdicts_are_unique.Goals as goal

pub returns : goal.returns
returns c = λ shape controllers workers events.
    one_verdict c.printed_fronts_are_read_back.ensures shape (record { few_controllers = controllers; few_workers = workers; few_events = events })
