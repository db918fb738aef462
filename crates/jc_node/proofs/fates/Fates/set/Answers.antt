-- No list of ends is empty, with the one that is set.
use Rattle.jc_node.proofs.FateFacts.{have-put}
use Rattle.jc_node.proofs.fates.Fates.set.Goals as goal

pub invariant_of-self-2 : goal.invariant_of-self-2
invariant_of-self-2 c =
    have-put c.self.inside.rows.entries c.put.new.rows.entries c.in_ok-copy.field-0 c.args.ends c.put.result c.self.invariant
    c.requires.some_ends c.put.ensures.sets c.put.ensures.kept
