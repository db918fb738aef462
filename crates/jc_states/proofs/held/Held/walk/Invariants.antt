use Rattle.std.proofs.Common.{◌≡◌, ◌<◌, ◌≤◌, ℕ, true}
use Rattle.std.specs.List.{list_any}
use Rattle.jc_states.specs.Held.{is_between}
use Rattle.jc_states.proofs.held.Held.walk.Given as goal

-- Each index up to this one is there.
abbrev pub invariant-loop-index : goal.invariant-loop-index
invariant-loop-index l = (n : ℕ) → l.from ≤ n → n < l.index → list_any (is_between n n) l.self ≡ true
