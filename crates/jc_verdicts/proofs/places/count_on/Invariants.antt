use Rattle.std.proofs.Common.{ℕ, ◌<◌, get_or}
use Rattle.jc_verdicts.proofs.places.count_on.Given as goal

-- The places before this one are below the number.
abbrev pub invariant-loop-count : goal.invariant-loop-count
invariant-loop-count l = (i : ℕ) → i < l.count → get_or l.places i 0 < l.n
