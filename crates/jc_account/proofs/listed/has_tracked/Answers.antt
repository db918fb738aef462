use Rattle.std.proofs.Common.{◌&&◌, sym, ◌∙◌}
use Rattle.jc_types.specs.declared.objects.Pod.{Pod}
use Rattle.jc_states.specs.Bases.{is_own}
use Rattle.jc_types.specs.Keys.{same_uid}
use Rattle.jc_states.specs.Pods.{is_tracked}
use Rattle.jc_types.proofs.ListFacts.{any_filter}
use Rattle.jc_account.proofs.listed.has_tracked.Goals as goal

pub returns : goal.returns
returns c =
    c.finds_tracked.ensures ∙ sym (any_filter (λ (pod : Pod). is_tracked pod && same_uid pod.uid c.args.uid) (is_own c.args.job.now) c.args.pods.now)
