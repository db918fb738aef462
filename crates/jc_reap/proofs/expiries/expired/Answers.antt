use Rattle.std.proofs.Common.{[], ◌∷◌, ◌++◌, append-nil, append_assoc, ap, sym, ◌∙◌}
use Rattle.jc_types.specs.Keys.{same_uid}
use Rattle.jc_log.specs.Tables.{at}
use Rattle.jc_reap.specs.Expiries.{expired, expires_at, ttl_at, with_expiry}
use Rattle.jc_reap.proofs.expiries.expired.Goals as goal

pub loop-row-init : goal.loop-row-init
loop-row-init c = (
  [],
  sym (append-nil c.into_iter-row-iterator.result.iter
      ∙ ap (λ it. it.iter) c.into_iter-row-iterator.ensures.into_iter_gives
      ∙ c.rev-row-items.ensures.source
      ∙ c.rows.ensures.rows),
  c.new-rows.ensures.empty,
)

pub loop-row-preserved : goal.loop-row-preserved
loop-row-preserved c =
    let done = c.loop-row.invariant.0 in
    let row = c.in-Some.row.now in
    let moment = expires_at row.1 (ttl_at c.args.ttls.now (at same_uid c.args.makers.now row.1.uid)) in (
      row ∷ done,
      c.loop-row.invariant.1
          ∙ ap (λ left. left ++ done) c.in-Some.ensures.steps
          ∙ append_assoc c.next.new.self.iter (row ∷ []) done,
      c.in_ok-put_made.ensures ∙ ap (λ rows. with_expiry moment row.1 rows) c.loop-row.invariant.2,
    )

pub returns : goal.returns
returns c =
    c.loop-row.invariant.2
    ∙ ap (expired (λ u. ttl_at c.args.ttls.now (at same_uid c.args.makers.now u)))
    (sym (c.loop-row.invariant.1 ∙ ap (λ left. left ++ c.loop-row.invariant.0) c.in-None.ensures.steps.0))
