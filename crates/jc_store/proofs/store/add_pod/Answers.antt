-- A pod that was put where none had its UID is taken again.
use Rattle.std.proofs.Common.{ap, ◌∙◌}
use Rattle.jc_states.specs.PodLists.{drop_pod}
use Rattle.jc_states.proofs.PodListFacts.{drop-put}
use Rattle.jc_store.proofs.store.add_pod.Goals as goal

pub returns-in-Err-clause-row_kept : goal.returns-in-Err-clause-row_kept
returns-in-Err-clause-row_kept g c =
    c.take.ensures ∙ ap (λ p. drop_pod p.uid c.add.new.self) c.deref.ensures
    ∙ ap (drop_pod c.args.pod.uid) c.in_ok-add.ensures.puts
    ∙ drop-put c.args.pod c.args.pods.now c.requires.absent
