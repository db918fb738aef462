-- What both members say is said one after the other.
use Rattle.std.proofs.Common.{subst, sym}
use Rattle.std.proofs.lemmas.Result.{err_from_is_err_and}
use Rattle.jc_json.specs.View.{view}
use Rattle.jc_members.specs.LineCauses.{IsFault, Says}
use Rattle.jc_members.specs.Items.{all_said}
use Rattle.jc_members.specs.Phases.{containers_in, container_change, names_in_either}
use Rattle.jc_members.proofs.Both.{both_said, second_bad}
use Rattle.jc_members.proofs.containers.read_given.Goals as goal

pub returns-in_err-restarts : goal.returns-in_err-restarts
unfolding containers_in
returns-in_err-restarts c =
    let p = err_from_is_err_and c.from_residual-in_err-restarts.result c.from_residual-in_err-restarts.ensures.1 in
    subst (λ r. Says (λ changes. changes) r (containers_in (view c.args.value.now))) (sym p.1)
    (subst (λ fault. IsFault fault (containers_in (view c.args.value.now))) (sym p.2)
    (second_bad _ _ (λ exits restarts. all_said (container_change exits restarts) (names_in_either exits restarts)) _ _
    c.in_ok-exits.ensures c.in_err-restarts.ensures))

pub returns : goal.returns
unfolding containers_in
returns c =
    subst (λ r. Says (λ changes. changes) c.read_both.result r)
    (both_said _ _ (λ exits restarts. all_said (container_change exits restarts) (names_in_either exits restarts)) _ _
    c.in_ok-exits.ensures c.in_ok-restarts.ensures) c.read_both.ensures
