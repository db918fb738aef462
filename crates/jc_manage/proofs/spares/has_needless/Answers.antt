use Rattle.std.proofs.Common.{◌≡◌, ℕ, nat_le, unwrap_or, ap, false, ◌∙◌}
use Rattle.std.specs.List.{list_any}
use Rattle.std.specs.Option.{option_map_or}
use Rattle.jc_types.specs.declared.objects.Pod.{Pod}
use Rattle.jc_types.specs.declared.specifications.JobSpec.{JobSpec}
use Rattle.jc_manage.specs.Creations.{is_done_index}
use Rattle.jc_manage.specs.LetGoes.{own_tracked}
use Rattle.jc_manage.proofs.SpareFacts.{any-first, any-second}
use Rattle.jc_manage.proofs.spares.has_needless.Goals as goal

pub returns-then-has_done : goal.returns-then-has_done
returns-then-has_done c =
    any-first (is_done_index c.args.counted.now) (λ n. nat_le (unwrap_or c.args.job.now.spec.completions 0) n) (own_tracked c.args.job.now c.args.pods.now) c.has_done.result c.if-has_done.true c.has_done.ensures

pub returns-else-has_done : goal.returns-else-has_done
returns-else-has_done c =
    let tracked = own_tracked c.args.job.now c.args.pods.now in
    let completions : c.unwrap_or-completions.result ≡ unwrap_or c.args.job.now.spec.completions 0 = c.unwrap_or-completions.ensures ∙ ap (λ (spec : JobSpec). unwrap_or spec.completions 0) c.deref.ensures in
    any-second (is_done_index c.args.counted.now) (λ n. nat_le (unwrap_or c.args.job.now.spec.completions 0) n) tracked c.has_done.result _ c.if-has_done.false c.has_done.ensures
    (c.holds_from.ensures ∙ ap (λ (m : ℕ). list_any (λ (pod : Pod). option_map_or (λ n. nat_le m n) pod.index false) tracked) completions)
