-- The index of a count that has failed joins the set of those before it.
use Rattle.std.proofs.Common.{refl, sym, ap, ◌∙◌}
use Rattle.jc_ranges.specs.Sets.{with_member}
use Rattle.jc_perindex.specs.Failures.{has_failed}
use Rattle.jc_perindex.proofs.Sets.{joins-next, skips-next}
use Rattle.jc_perindex.proofs.filling.add_failed.Goals as goal
use Rattle.jc_perindex.proofs.filling.add_failed.Goals.{then-has_failed+in_ok-insert, else-has_failed}

pub loop-count-preserved : goal.loop-count-preserved
loop-count-preserved c =
    elim c.if-has_failed.branch [
      | then-has_failed+in_ok-insert w ↦
          w.set-is ∙ w.in_ok-insert.ensures.members ∙ ap (with_member _) c.loop-count.invariant
          ∙ joins-next (has_failed c.args.limit c.args.completions c.args.completed.now) c.args.set.now c.args.counts.now c.loop-count.count-index _ _ c.requires.ascending c.loop-count-test.true refl
          (sym c.has_failed.ensures ∙ w.if-has_failed.true)
      | else-has_failed w ↦
          w.set-is ∙ c.loop-count.invariant
          ∙ skips-next (has_failed c.args.limit c.args.completions c.args.completed.now) c.args.set.now c.args.counts.now c.loop-count.count-index _ _ c.requires.ascending c.loop-count-test.true refl
          (sym c.has_failed.ensures ∙ w.if-has_failed.false)
    ]
