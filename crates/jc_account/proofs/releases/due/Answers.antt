use Rattle.std.proofs.Common.{filter, ap, ◌∙◌, arith}
use Rattle.jc_states.specs.Bases.{is_own, own_pods}
use Rattle.jc_states.specs.UidLists.{uids_of}
use Rattle.jc_states.proofs.PodListFacts.{rises_filter}
use Rattle.jc_account.specs.Judgements.{is_to_go}
use Rattle.jc_account.proofs.Owned.{own_uids}
use Rattle.jc_account.proofs.RoomFacts.{due-released}
use Rattle.jc_account.proofs.releases.due.Goals as goal

pub returns : goal.returns
returns c =
    let job = c.args.job.now in
    let pods = c.args.pods.now in
    own_uids (is_to_go c.args.first job) job pods c.loop-pod.pod-index c.loop-pod.uids (omega arith) c.loop-pod.invariant
    ∙ ap (λ first. uids_of (filter (is_to_go first job) (own_pods job pods))) c.requires.first
    ∙ ap uids_of (due-released job (own_pods job pods) 0 (rises_filter 0 (is_own job) pods c.requires.rising))
