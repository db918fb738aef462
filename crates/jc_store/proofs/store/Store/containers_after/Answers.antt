-- A report that names no container leaves them.
use Rattle.std.proofs.Common.{◌≡◌, IfOk, ap, map, subst, sym, ◌∙◌}
use Rattle.std.proofs.lemmas.List.{map-id}
use Rattle.jc_log.specs.Requests.{changed_container}
use Rattle.jc_store.proofs.store.Store.containers_after.Goals as goal

pub returns-then-is_empty-clause-containers : goal.returns-then-is_empty-clause-containers
returns-then-is_empty-clause-containers c =
    subst (λ l. IfOk c.copy.result (λ r. r ≡ l))
    (sym (ap (λ changes. map (changed_container changes) c.args.containers.now) (c.is_empty.ensures.0 c.if-is_empty.true) ∙ map-id c.args.containers.now))
    c.copy.ensures
