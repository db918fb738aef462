-- All these pods are own pods, of which there are fewer than 2^31.
use Rattle.std.proofs.Common.{◌≡◌, ◌&&◌, ap, arith}
use Rattle.jc_states.specs.Bases.{is_own, own_pods}
use Rattle.jc_states.specs.declared.tallies.Tally.{Tally}
use Rattle.jc_states.specs.Pods.{is_ready}
use Rattle.jc_plan.specs.PodNumbers.{keeps_on}
use Rattle.jc_plan.proofs.Going.{open-few}
use Rattle.jc_account.proofs.Owned.{filter-least as filter-few}
use Rattle.jc_plan.proofs.numbers.numbers_after.Goals as goal

-- What the numbers of the Job's pods say of the active ones, and of those that are ending.
active-is : {one other : Tally} → one ≡ other → one.active ≡ other.active
active-is same = ap (λ (t : Tally). t.active) same

ending-is : {one other : Tally} → one ≡ other → one.open_marked ≡ other.open_marked
ending-is same = ap (λ (t : Tally). t.open_marked) same

pub overflow_add-going : goal.overflow_add-going
overflow_add-going c =
    let pods = c.args.pods.now in
    let own = own_pods c.args.job.now pods in
    omega (arith, c.len.ensures, c.len-2.ensures, c.requires.few_pods, c.requires.going, open-few own, filter-few (is_own c.args.job.now) pods)

pub overflow_add-result : goal.overflow_add-result
overflow_add-result c =
    let pods = c.args.pods.now in
    let own = own_pods c.args.job.now pods in
    omega (arith, c.len-3.ensures, active-is c.tally-tally.ensures, c.requires.few_pods, c.requires.created, open-few own, filter-few (is_own c.args.job.now) pods)

pub overflow_cast-result-2 : goal.overflow_cast-result-2
overflow_cast-result-2 c =
    let pods = c.args.pods.now in
    let own = own_pods c.args.job.now pods in
    omega (arith, c.len-3.ensures, active-is c.tally-tally.ensures, c.requires.few_pods, c.requires.created, open-few own, filter-few (is_own c.args.job.now) pods)

pub overflow_cast-result-3 : goal.overflow_cast-result-3
overflow_cast-result-3 c =
    let pods = c.args.pods.now in
    let own = own_pods c.args.job.now pods in
    omega (arith, c.ready_after.ensures, c.requires.few_pods, filter-few (λ pod. is_ready pod && keeps_on c.args.wants.now pod) own, filter-few (is_own c.args.job.now) pods)

pub overflow_add-result-2 : goal.overflow_add-result-2
overflow_add-result-2 c =
    let pods = c.args.pods.now in
    let own = own_pods c.args.job.now pods in
    omega (arith, c.len.ensures, c.len-2.ensures, ending-is c.tally-tally.ensures, c.requires.few_pods, c.requires.going, open-few own, filter-few (is_own c.args.job.now) pods)

pub overflow_cast-result-5 : goal.overflow_cast-result-5
overflow_cast-result-5 c =
    let pods = c.args.pods.now in
    let own = own_pods c.args.job.now pods in
    omega (arith, c.len.ensures, c.len-2.ensures, ending-is c.tally-tally.ensures, c.requires.few_pods, c.requires.going, open-few own, filter-few (is_own c.args.job.now) pods)
