use Rattle.std.proofs.Common.{◌≡◌, ◌*◌, ◌^◌, ◌≤◌, take, sum_by}
use Rattle.jc_states.proofs.tallies.restarts_in.Given as goal

-- The restarts of the containers before the index, each below 2 ^ 32.
abbrev pub invariant-loop-container : goal.invariant-loop-container
invariant-loop-container l = record {
  sum : l.restarts ≡ sum_by (λ container. container.restarts) (take l.container-index l.container-items);
  few : l.restarts ≤ l.container-index * 2 ^ 32;
}
