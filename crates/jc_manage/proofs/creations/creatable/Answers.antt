-- As many are looked for as matter.
use Rattle.std.proofs.Common.{◌≡◌, ◌∙◌, ◌||◌, ℕ, Bool, false, List, Option, IfOk, Some, ap, map, replicate, take, None, subst, sym, unwrap_or, [], if◌then◌else◌}
use Rattle.jc_states.specs.Bases.{own_pods}
use Rattle.jc_types.specs.declared.specifications.JobSpec.{JobSpec}
use Rattle.jc_types.specs.declared.specifications.Mode.{Mode}
use Rattle.jc_types.specs.declared.specifications.Mode.TheVariants.{NonIndexed, Indexed}
use Rattle.jc_manage.specs.Creations.{creatable, free, foremost, job_lacks, keepers, looked_for, new_pods}
use Rattle.jc_manage.proofs.Fronts.{front_pods}
use Rattle.jc_manage.proofs.creations.creatable.Goals as goal

pub returns-in-NonIndexed : goal.returns-in-NonIndexed
returns-in-NonIndexed c =
    let job = c.args.job.now in
    let own = own_pods job c.args.pods.now in
    let counted = c.args.counted.now in
    let offered = free (unwrap_or job.spec.completions 0) counted (keepers job.spec.replacement own) in
    let mode : NonIndexed ≡ job.spec.mode = sym c.in-NonIndexed.is ∙ ap (λ (spec : JobSpec). spec.mode) c.deref-2.ensures in
    let looked : c.looked_for-lacking.result ≡ looked_for c.args.one (job_lacks job own counted) = c.looked_for-lacking.ensures ∙ ap (looked_for c.args.one) c.job_lacks.ensures in
    let going : creatable c.args.target job own counted ≡ new_pods job.spec.mode (job_lacks job own counted) offered =
    ap (λ (b : Bool). if b || job.spec.suspend then [] else new_pods job.spec.mode (job_lacks job own counted) offered) c.if-target.false
    ∙ ap (λ (b : Bool). if b then [] else new_pods job.spec.mode (job_lacks job own counted) offered) (sym (ap (λ (spec : JobSpec). spec.suspend) c.deref.ensures) ∙ c.if-deref.false) in
    subst (λ (xs : List (Option ℕ)). IfOk c.without_index.result (λ indexes. indexes ≡ xs))
    (ap (λ n. new_pods NonIndexed n offered) looked ∙ front_pods c.args.one NonIndexed (job_lacks job own counted) offered
    ∙ ap (λ (m : Mode). foremost c.args.one (new_pods m (job_lacks job own counted) offered)) mode ∙ ap (foremost c.args.one) (sym going))
    c.without_index.ensures

pub returns-in-Indexed : goal.returns-in-Indexed
returns-in-Indexed c =
    let job = c.args.job.now in
    let own = own_pods job c.args.pods.now in
    let counted = c.args.counted.now in
    let offered = free (unwrap_or job.spec.completions 0) counted (keepers job.spec.replacement own) in
    let mode : Indexed ≡ job.spec.mode = sym c.in-Indexed.is ∙ ap (λ (spec : JobSpec). spec.mode) c.deref-2.ensures in
    let looked : c.looked_for-lacking.result ≡ looked_for c.args.one (job_lacks job own counted) = c.looked_for-lacking.ensures ∙ ap (looked_for c.args.one) c.job_lacks.ensures in
    let going : creatable c.args.target job own counted ≡ new_pods job.spec.mode (job_lacks job own counted) offered =
    ap (λ (b : Bool). if b || job.spec.suspend then [] else new_pods job.spec.mode (job_lacks job own counted) offered) c.if-target.false
    ∙ ap (λ (b : Bool). if b then [] else new_pods job.spec.mode (job_lacks job own counted) offered) (sym (ap (λ (spec : JobSpec). spec.suspend) c.deref.ensures) ∙ c.if-deref.false) in
    subst (λ (xs : List (Option ℕ)). IfOk c.first_free.result (λ indexes. indexes ≡ xs))
    (ap (λ n. new_pods Indexed n offered) looked ∙ front_pods c.args.one Indexed (job_lacks job own counted) offered
    ∙ ap (λ (m : Mode). foremost c.args.one (new_pods m (job_lacks job own counted) offered)) mode ∙ ap (foremost c.args.one) (sym going))
    c.first_free.ensures
