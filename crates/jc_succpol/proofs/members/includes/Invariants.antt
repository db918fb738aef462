use Rattle.std.proofs.Common.{◌≡◌, drop}
use Rattle.jc_succpol.specs.SuccessRules.{includes}
use Rattle.jc_succpol.proofs.members.includes.Given as goal

-- The indexes are all completed where those from this place on are.
abbrev pub invariant-loop-place : goal.invariant-loop-place
invariant-loop-place l = includes l.completed l.indexes ≡ includes l.completed (drop l.place l.indexes)
