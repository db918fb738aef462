use Rattle.std.proofs.Common.{ap, ◌∙◌}
use Rattle.jc_queue.proofs.CallFacts.{first_is_busy}
use Rattle.jc_queue.proofs.calls.finish_oldest.Goals as goal
use Rattle.jc_queue.specs.Queued.{has_key}

-- The oldest of the processing keys is one of them.
pub done-requires : goal.done-requires
done-requires c =
    record { processing = ap (λ k. has_key k c.args.queue.now.queue.processing) c.in_ok-key.ensures ∙ first_is_busy c.in-Some.oldest.now c.args.queue.now.queue.processing c.in-Some.ensures }
