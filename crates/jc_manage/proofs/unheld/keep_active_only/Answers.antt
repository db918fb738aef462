use Rattle.std.proofs.Common.{ap, sym, ◌∙◌}
use Rattle.std.proofs.lemmas.Bool.{eqb-true}
use Rattle.jc_types.specs.declared.specifications.JobSpec.{JobSpec}
use Rattle.jc_states.specs.Bases.{own_pods}
use Rattle.jc_manage.specs.Creations.{keepers}
use Rattle.jc_manage.proofs.UnheldFacts.{keepers-active}
use Rattle.jc_manage.proofs.unheld.keep_active_only.Goals as goal

pub returns-in-FailedOnly : goal.returns-in-FailedOnly
returns-in-FailedOnly c none =
    let own = own_pods c.args.job.now c.args.pods.now in
    ap (λ replacement. keepers replacement own) (sym (ap (λ (spec : JobSpec). spec.replacement) c.deref.ensures) ∙ c.in-FailedOnly.is)
    ∙ keepers-active own (sym c.count_ending.ensures ∙ eqb-true c.count_ending.result 0 none)
