use Rattle.std.proofs.Common.{[], ◌∷◌, ◌++◌, append-nil, append_assoc, ap, sym, ◌∙◌}
use Rattle.std.specs.BTreeMap.{insert_entry}
use Rattle.jc_queue.specs.Delayed.{key_order}
use Rattle.jc_lines.specs.Reports.{by_key}
use Rattle.jc_lines.proofs.job_lists.ordered.Goals as goal

pub loop-row-init : goal.loop-row-init
loop-row-init c = (
  [],
  sym (append-nil c.into_iter-row-iterator.result.iter
      ∙ ap (λ it. it.iter) c.into_iter-row-iterator.ensures.into_iter_gives
      ∙ c.rev-row-items.ensures.source
      ∙ c.rows.ensures.rows),
  c.new-rows.ensures.empty,
)

pub loop-row-preserved : goal.loop-row-preserved
loop-row-preserved c =
    let done = c.loop-row.invariant.0 in
    let row = c.in-Some.row.now in (
      row ∷ done,
      c.loop-row.invariant.1
          ∙ ap (λ left. left ++ done) c.in-Some.ensures.steps
          ∙ append_assoc c.next.new.self.iter (row ∷ []) done,
      c.in_ok-put_copy.ensures ∙ ap (λ rows. insert_entry key_order rows row.0 row.1) c.loop-row.invariant.2,
    )

pub returns : goal.returns
returns c =
    c.loop-row.invariant.2
    ∙ ap by_key (sym (c.loop-row.invariant.1 ∙ ap (λ left. left ++ c.loop-row.invariant.0) c.in-None.ensures.steps.0))
