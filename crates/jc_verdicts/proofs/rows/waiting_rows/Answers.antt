use Rattle.std.proofs.Common.{rules, ◌≡◌, ◌+◌, ◌<◌, ◌≤◌, [], ◌∷◌, ◌++◌, None, Some, ap, arith, length, sym, subst, take, ◌∙◌, map}
use Rattle.std.specs.Prelude.{Vec}
use Rattle.std.specs.declared.alloc.Global.{Global}
use Rattle.std.proofs.lemmas.List.{append-nil, take_more}
use Rattle.jc_types.specs.Keys.{same_uid}
use Rattle.jc_log.specs.Tables.{at}
use Rattle.jc_account.specs.declared.judgements.Judgement.{Judgement as Row}
use Rattle.jc_verdicts.specs.Verdicts.{fresh_row, row_for, waiting}
use Rattle.jc_verdicts.proofs.FrontFacts.{few-more, rows-full, rows-whole}
use Rattle.jc_verdicts.proofs.VerdictRows.{one-row}
use Rattle.jc_verdicts.proofs.rows.waiting_rows.Goals as goal
use Rattle.jc_verdicts.proofs.rows.waiting_rows.Goals.{in-Some+in_ok-push, in_default}

-- One row more, or a pod that is not judged.
pub loop-pod-preserved : goal.loop-pod-preserved
loop-pod-preserved c =
    let spec = c.args.spec.now in
    let pods = c.args.pods.now in
    let i = c.loop-pod.pod-index in
    let pod = c.pod-item.result in
    let known = at same_uid c.args.known.now.entries in
    let rows = c.loop-pod.new.items in
    let most = c.args.most in
    let short : length rows < most = omega (arith, c.len.ensures, c.if-len-most.false) in
    let more : take (i + 1) pods ≡ take i pods ++ pod ∷ [] = search (rules, take_more) in
    elim c.match-fresh_row.branch [
      | in-Some+in_ok-push w ↦ record {
        rows =
            ap (λ (v : Vec Row Global). v.items) w.new-is
            ∙ one-row spec known (take i pods) pod rows w.push.new.self.items (Some w.in-Some.row) c.loop-pod.invariant.rows
            (sym w.in-Some.is ∙ c.fresh_row.ensures ∙ ap (fresh_row spec known) c.deref.ensures) w.in_ok-push.ensures.items
            ∙ ap (λ ps. map (row_for spec) (waiting spec known ps)) (sym more);
        few = subst (λ (v : Vec Row Global). length v.items ≤ most) (sym w.new-is) (few-more rows w.push.new.self.items (Some w.in-Some.row) most short w.in_ok-push.ensures.items);
      }
      | in_default w ↦ record {
        rows =
            ap (λ (v : Vec Row Global). v.items) w.new-is
            ∙ one-row spec known (take i pods) pod rows rows None c.loop-pod.invariant.rows
            (sym w.in_default.is ∙ c.fresh_row.ensures ∙ ap (fresh_row spec known) c.deref.ensures) (sym (append-nil rows))
            ∙ ap (λ ps. map (row_for spec) (waiting spec known ps)) (sym more);
        few = subst (λ (v : Vec Row Global). length v.items ≤ most) (sym w.new-is) (few-more rows rows None most short (sym (append-nil rows)));
      }
    ]

-- There are as many as there may be.
pub returns-then-len-most : goal.returns-then-len-most
returns-then-len-most c =
    let few = c.loop-pod.invariant.few in
    rows-full c.args.spec.now (at same_uid c.args.known.now.entries) c.args.pods.now c.loop-pod.pod-index c.args.most c.loop-pod.new.items c.loop-pod.invariant.rows
    (omega (arith, c.len.ensures, c.if-len-most.true, few))

-- They are those of all pods.
pub returns : goal.returns
returns c =
    rows-whole c.args.spec.now (at same_uid c.args.known.now.entries) c.args.pods.now c.loop-pod.pod-index c.args.most c.loop-pod.new.items c.loop-pod.invariant.rows
    (omega (arith, c.loop-pod-test.false)) c.loop-pod.invariant.few
