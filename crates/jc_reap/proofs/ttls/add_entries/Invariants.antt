-- The entry was added so many times.
use Rattle.std.proofs.Common.{◌≡◌, ◌++◌, replicate}
use Rattle.jc_reap.proofs.ttls.add_entries.Given as goal

abbrev pub invariant-loop : goal.invariant-loop
invariant-loop l = l.ttls ≡ l.fn.ttls ++ replicate l.counter l.given.ttl
