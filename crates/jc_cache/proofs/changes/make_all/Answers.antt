use Rattle.std.proofs.Common.{ap, ◌∙◌}
use Rattle.jc_cache.specs.Changes.{all_changed}
use Rattle.jc_cache.proofs.ChangeFacts.{making-same, making-step}
use Rattle.jc_cache.proofs.changes.make_all.Goals as goal

-- The first of the changes that are left is made.
pub loop-uid-preserved : goal.loop-uid-preserved
loop-uid-preserved c =
    making-step c.args.changes.now.entries c.loop-uid.uid-iterator c.next.new.self c.in-Some.uid.now c.in-Some.change.now c.args.pods.now c.loop-uid.pods c.make_copy.new.pods
    c.loop-uid.invariant c.in-Some.ensures.steps c.in_ok-make_copy.ensures.makes

-- All of them lead to the same pods, where one can't be made and where all are.
pub returns-in_err-make_copy-clause-same : goal.returns-in_err-make_copy-clause-same
returns-in_err-make_copy-clause-same c =
    ap (all_changed c.args.changes.now.entries) c.in_err-make_copy.ensures.kept
    ∙ making-same c.args.changes.now.entries c.loop-uid.uid-iterator c.args.pods.now c.loop-uid.pods c.loop-uid.invariant c.requires.rising c.requires.named c.requires.once

pub returns-clause-same : goal.returns-clause-same
returns-clause-same c =
    making-same c.args.changes.now.entries c.loop-uid.uid-iterator c.args.pods.now c.loop-uid.pods c.loop-uid.invariant c.requires.rising c.requires.named c.requires.once
