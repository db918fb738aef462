use Rattle.std.proofs.Common.{◌≡◌, drop, filter, nat_lt}
use Rattle.jc_states.specs.UidLists.{join}
use Rattle.jc_account.specs.Judgements.{indexes_judged}
use Rattle.jc_account.proofs.judgements.with_indexes.Given as goal

-- The set so far has the indexes below the completions of the successes from the place on.
abbrev pub invariant-loop-place : goal.invariant-loop-place
invariant-loop-place l = l.set ≡ join l.fn.kept (filter (λ n. nat_lt n l.completions) (indexes_judged (drop l.place l.rows)))
