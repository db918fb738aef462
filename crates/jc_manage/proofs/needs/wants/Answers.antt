-- What is made is that of the Job of the basis, and so is the moment of what is delayed.
use Rattle.std.proofs.Common.{◌≡◌, ℕ, List, Option, IfSome, ap, sym, subst, ◌∙◌}
use Rattle.jc_types.specs.declared.objects.Job.{Job}
use Rattle.jc_types.specs.declared.objects.Pod.{Pod}
use Rattle.jc_types.specs.declared.syncs.Backoff.{Backoff}
use Rattle.jc_states.specs.Bases.{own_pods}
use Rattle.jc_manage.specs.Backoffs.{opening}
use Rattle.jc_manage.specs.Creations.{creatable, creates, next}
use Rattle.jc_manage.specs.Planned.{creatable_in, creates_in, next_in}
use Rattle.jc_manage.proofs.Fronts.{creates_front, next_front}
use Rattle.jc_manage.proofs.needs.wants.Goals as goal

pub returns-clause-creates : goal.returns-clause-creates
returns-clause-creates c =
    let basis = c.args.basis.now in
    let counted = c.args.counted.now in
    let made = λ (job : Job) (pods : List Pod). creatable c.args.target job (own_pods job pods) counted in
    let opens = c.opening-opening.result in
    subst (λ (o : Option Job). IfSome o (λ job. c.creates.result ≡ creates_in c.args.target job basis counted)) (sym c.in-Some.is)
    (c.creates.ensures
    ∙ ap (creates opens basis.now) c.in_ok-found.ensures
    ∙ creates_front c.is_delayed_until-held_back.result opens basis.now (made c.deref.result.now c.deref-pods.result.now) (sym c.is_delayed_until-held_back.ensures)
    ∙ ap (λ (job : Job). creates opens basis.now (made job c.deref-pods.result.now)) c.deref.ensures
    ∙ ap (λ (pods : List Pod). creates opens basis.now (made c.in-Some.job pods)) c.deref-pods.ensures
    ∙ ap (λ (o : Option ℕ). creates o basis.now (creatable_in c.args.target c.in-Some.job basis counted))
    (c.opening-opening.ensures ∙ ap (λ (b : Backoff). opening b) c.backoff_after-backoff.ensures))

pub returns-clause-next : goal.returns-clause-next
returns-clause-next c =
    let basis = c.args.basis.now in
    let counted = c.args.counted.now in
    let made = λ (job : Job) (pods : List Pod). creatable c.args.target job (own_pods job pods) counted in
    let opens = c.opening-opening.result in
    subst (λ (o : Option Job). IfSome o (λ job. c.next.result ≡ next_in c.args.target job basis counted)) (sym c.in-Some.is)
    (c.next.ensures
    ∙ ap (next opens basis.now) c.in_ok-found.ensures
    ∙ next_front c.is_delayed_until-held_back.result opens basis.now (made c.deref.result.now c.deref-pods.result.now)
    ∙ ap (λ (job : Job). next opens basis.now (made job c.deref-pods.result.now)) c.deref.ensures
    ∙ ap (λ (pods : List Pod). next opens basis.now (made c.in-Some.job pods)) c.deref-pods.ensures
    ∙ ap (λ (o : Option ℕ). next o basis.now (creatable_in c.args.target c.in-Some.job basis counted))
    (c.opening-opening.ensures ∙ ap (λ (b : Backoff). opening b) c.backoff_after-backoff.ensures))
