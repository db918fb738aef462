-- The rows against the pods.
use Rattle.std.proofs.Common.{All, length, unwrap_or, ap, subst, sym, ◌∙◌, arith}
use Rattle.jc_states.specs.Conditions.{has_end}
use Rattle.jc_failpol.specs.declared.outcomes.Outcome.TheVariants.{Failed, Succeeded}
use Rattle.jc_account.specs.Judgements.{completed_judged, HasSmall, uids_judged}
use Rattle.jc_account.proofs.JudgementFacts.{completed-newly, first-is, judged-few, judged-is, left-is, rows-few, rows-small, uids-newly}
use Rattle.jc_account.proofs.judgements.judge.Goals as goal

pub returns-clause-first_left : goal.returns-clause-first_left
returns-clause-first_left c =
    let job = c.args.job.now in
    let pods = c.args.pods.now in
    first-is job pods c.requires.rising c.deref.result.now c.first_beyond-first_left.result c.args.room c.as_slice.result.now
    c.deref.ensures c.requires.room (c.as_slice.ensures.value ∙ c.in_ok-rows.ensures) c.first_beyond-first_left.ensures

pub completed-requires : goal.completed-requires
completed-requires c =
    let job = c.args.job.now in
    let pods = c.args.pods.now in
    let first = first-is job pods c.requires.rising c.deref.result.now c.first_beyond-first_left.result c.args.room c.as_slice.result.now
    c.deref.ensures c.requires.room (c.as_slice.ensures.value ∙ c.in_ok-rows.ensures) c.first_beyond-first_left.ensures in
    let rows = judged-is job pods c.requires.rising c.deref.result.now c.deref.ensures c.first_beyond-first_left.result first c.in_ok-rows.rows.items
    c.in_ok-rows.ensures c.retain_within.new.rows.items c.retain_within.ensures in
    subst (All HasSmall) (sym (c.as_slice-6.ensures.value ∙ rows)) (rows-small job pods c.requires.indexes)

pub returns-clause-succeeded : goal.returns-clause-succeeded
returns-clause-succeeded c =
    let job = c.args.job.now in
    let pods = c.args.pods.now in
    let first = first-is job pods c.requires.rising c.deref.result.now c.first_beyond-first_left.result c.args.room c.as_slice.result.now
    c.deref.ensures c.requires.room (c.as_slice.ensures.value ∙ c.in_ok-rows.ensures) c.first_beyond-first_left.ensures in
    let rows = judged-is job pods c.requires.rising c.deref.result.now c.deref.ensures c.first_beyond-first_left.result first c.in_ok-rows.rows.items
    c.in_ok-rows.ensures c.retain_within.new.rows.items c.retain_within.ensures in
    c.in_ok-uids_judged.ensures ∙ ap (uids_judged Succeeded) (c.as_slice-4.ensures.value ∙ rows) ∙ uids-newly job pods Succeeded

pub returns-clause-failed : goal.returns-clause-failed
returns-clause-failed c =
    let job = c.args.job.now in
    let pods = c.args.pods.now in
    let first = first-is job pods c.requires.rising c.deref.result.now c.first_beyond-first_left.result c.args.room c.as_slice.result.now
    c.deref.ensures c.requires.room (c.as_slice.ensures.value ∙ c.in_ok-rows.ensures) c.first_beyond-first_left.ensures in
    let rows = judged-is job pods c.requires.rising c.deref.result.now c.deref.ensures c.first_beyond-first_left.result first c.in_ok-rows.rows.items
    c.in_ok-rows.ensures c.retain_within.new.rows.items c.retain_within.ensures in
    c.in_ok-uids_judged-2.ensures ∙ ap (uids_judged Failed) (c.as_slice-5.ensures.value ∙ rows) ∙ uids-newly job pods Failed

pub returns-clause-completed : goal.returns-clause-completed
returns-clause-completed c =
    let job = c.args.job.now in
    let pods = c.args.pods.now in
    let first = first-is job pods c.requires.rising c.deref.result.now c.first_beyond-first_left.result c.args.room c.as_slice.result.now
    c.deref.ensures c.requires.room (c.as_slice.ensures.value ∙ c.in_ok-rows.ensures) c.first_beyond-first_left.ensures in
    let rows = judged-is job pods c.requires.rising c.deref.result.now c.deref.ensures c.first_beyond-first_left.result first c.in_ok-rows.rows.items
    c.in_ok-rows.ensures c.retain_within.new.rows.items c.retain_within.ensures in
    c.in_ok-completed.ensures
    ∙ ap (completed_judged job.spec.mode (has_end job.status.conditions) (unwrap_or job.spec.completions 0) job.status.completed) (c.as_slice-6.ensures.value ∙ rows)
    ∙ completed-newly job pods

pub count_beyond-left_succeeded-requires : goal.count_beyond-left_succeeded-requires
count_beyond-left_succeeded-requires c =
    omega (arith, ap length (c.as_slice-2.ensures.value ∙ c.in_ok-rows.ensures), rows-few c.args.job.now c.args.pods.now, c.requires.few_pods)

pub count_beyond-left_failed-requires : goal.count_beyond-left_failed-requires
count_beyond-left_failed-requires c =
    omega (arith, ap length (c.as_slice-3.ensures.value ∙ c.in_ok-rows.ensures), rows-few c.args.job.now c.args.pods.now, c.requires.few_pods)

pub returns-clause-left_succeeded : goal.returns-clause-left_succeeded
returns-clause-left_succeeded c =
    let job = c.args.job.now in
    let pods = c.args.pods.now in
    let first = first-is job pods c.requires.rising c.deref.result.now c.first_beyond-first_left.result c.args.room c.as_slice.result.now
    c.deref.ensures c.requires.room (c.as_slice.ensures.value ∙ c.in_ok-rows.ensures) c.first_beyond-first_left.ensures in
    left-is job pods c.requires.rising c.deref.result.now c.deref.ensures c.first_beyond-first_left.result first c.as_slice-2.result.now
    (c.as_slice-2.ensures.value ∙ c.in_ok-rows.ensures) Succeeded c.count_beyond-left_succeeded.result c.count_beyond-left_succeeded.ensures

pub returns-clause-left_failed : goal.returns-clause-left_failed
returns-clause-left_failed c =
    let job = c.args.job.now in
    let pods = c.args.pods.now in
    let first = first-is job pods c.requires.rising c.deref.result.now c.first_beyond-first_left.result c.args.room c.as_slice.result.now
    c.deref.ensures c.requires.room (c.as_slice.ensures.value ∙ c.in_ok-rows.ensures) c.first_beyond-first_left.ensures in
    left-is job pods c.requires.rising c.deref.result.now c.deref.ensures c.first_beyond-first_left.result first c.as_slice-3.result.now
    (c.as_slice-3.ensures.value ∙ c.in_ok-rows.ensures) Failed c.count_beyond-left_failed.result c.count_beyond-left_failed.ensures

pub returns-clause-few_succeeded : goal.returns-clause-few_succeeded
returns-clause-few_succeeded c =
    let job = c.args.job.now in
    let pods = c.args.pods.now in
    let first = first-is job pods c.requires.rising c.deref.result.now c.first_beyond-first_left.result c.args.room c.as_slice.result.now
    c.deref.ensures c.requires.room (c.as_slice.ensures.value ∙ c.in_ok-rows.ensures) c.first_beyond-first_left.ensures in
    let rows = judged-is job pods c.requires.rising c.deref.result.now c.deref.ensures c.first_beyond-first_left.result first c.in_ok-rows.rows.items
    c.in_ok-rows.ensures c.retain_within.new.rows.items c.retain_within.ensures in
    judged-few job pods Succeeded c.in_ok-uids_judged.field-0 c.count_beyond-left_succeeded.result
    (c.in_ok-uids_judged.ensures ∙ ap (uids_judged Succeeded) (c.as_slice-4.ensures.value ∙ rows) ∙ uids-newly job pods Succeeded)
    (left-is job pods c.requires.rising c.deref.result.now c.deref.ensures c.first_beyond-first_left.result first c.as_slice-2.result.now
    (c.as_slice-2.ensures.value ∙ c.in_ok-rows.ensures) Succeeded c.count_beyond-left_succeeded.result c.count_beyond-left_succeeded.ensures)

pub returns-clause-few_failed : goal.returns-clause-few_failed
returns-clause-few_failed c =
    let job = c.args.job.now in
    let pods = c.args.pods.now in
    let first = first-is job pods c.requires.rising c.deref.result.now c.first_beyond-first_left.result c.args.room c.as_slice.result.now
    c.deref.ensures c.requires.room (c.as_slice.ensures.value ∙ c.in_ok-rows.ensures) c.first_beyond-first_left.ensures in
    let rows = judged-is job pods c.requires.rising c.deref.result.now c.deref.ensures c.first_beyond-first_left.result first c.in_ok-rows.rows.items
    c.in_ok-rows.ensures c.retain_within.new.rows.items c.retain_within.ensures in
    judged-few job pods Failed c.in_ok-uids_judged-2.field-0 c.count_beyond-left_failed.result
    (c.in_ok-uids_judged-2.ensures ∙ ap (uids_judged Failed) (c.as_slice-5.ensures.value ∙ rows) ∙ uids-newly job pods Failed)
    (left-is job pods c.requires.rising c.deref.result.now c.deref.ensures c.first_beyond-first_left.result first c.as_slice-3.result.now
    (c.as_slice-3.ensures.value ∙ c.in_ok-rows.ensures) Failed c.count_beyond-left_failed.result c.count_beyond-left_failed.ensures)
