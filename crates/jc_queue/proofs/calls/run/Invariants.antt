use Rattle.std.proofs.Common.{◌≡◌, take}
use Rattle.jc_queue.specs.QueueCalls.{after, keys_got}
use Rattle.jc_queue.proofs.calls.run.Given as goal

-- The calls so far are made.
abbrev pub invariant-loop-call : goal.invariant-loop-call
invariant-loop-call l = (l.queue.queue ≡ after l.fn.queue.queue (take l.call-index l.calls)) × (l.keys.items ≡ keys_got l.fn.queue.queue (take l.call-index l.calls))
