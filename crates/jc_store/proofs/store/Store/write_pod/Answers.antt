use Rattle.std.proofs.Common.{◌∷◌, ◌++◌, [], ap, ◌∙◌}
use Rattle.jc_types.specs.declared.objects.Entry.TheVariants.{PodPut}
use Rattle.jc_store.proofs.Keeps.{pod_stands, write_pod-keeps}
use Rattle.jc_store.proofs.store.Store.write_pod.Goals as goal

pub replace-requires : goal.replace-requires
replace-requires c =
    pod_stands c.self.inside.pods c.self.inside.log c.args.self.now c.args.pod c.self.invariant.pods_there c.self.view_is c.requires.step

pub invariant_of-self-2 : goal.invariant_of-self-2
invariant_of-self-2 c =
    write_pod-keeps c.self.inside.born c.self.inside.jobs c.self.inside.pods c.replace.new.self c.self.inside.made.entries
    c.self.inside.log c.push.new.self c.args.self.now c.args.pod c.self.invariant c.self.view_is c.requires.room
    (c.in_ok-push.ensures.added ∙ ap (λ p. c.self.inside.log ++ PodPut p ∷ []) c.in_ok-copy.ensures)
    c.replace.ensures c.requires.version c.requires.step c.requires.stays
