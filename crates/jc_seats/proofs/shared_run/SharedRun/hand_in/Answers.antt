use Rattle.std.proofs.Common.{rules, ◌≡◌, IfOk, reverse, sym, subst}
use mathlib.Core.List.{IsPrefix}
use Rattle.jc_core.specs.Shared.{Shared}
use Rattle.jc_core.specs.declared.holding.Work.{Work}
use Rattle.jc_seats.specs.Names.{IsOfName}
use Rattle.jc_seats.proofs.HandFacts.{handed}
use Rattle.jc_seats.proofs.shared_run.SharedRun.hand_in.Goals as goal

-- What was marked is a beginning of what has happened, so the plan is of what the sync had begun with at the mark.
pub hand_in-requires : goal.hand_in-requires
hand_in-requires g c =
    let now : c.self-2.inside.kept ≡ c.self.inside.kept = search rules in
    let of = subst (λ (k : Shared). IsOfName g.J.Naming.script g.J.Naming.shape k.seen) (sym now) c.keeps.ensures.named in
    let begins = subst (λ (k : Shared). IsPrefix c.task.inside.mark.seen (reverse k.seen.pasts)) (sym c.self-2.view_is) c.recall.ensures.begins in
    let same = subst (λ (w : Work). IfOk c.args.made (λ plan. plan.basis ≡ w.basis)) (sym c.task.view_is) c.requires.of in
    let kept = c.task.invariant in
    record {
      begun =
          handed g.J.Naming.script g.J.Naming.shape c.self-2.inside.kept.seen of (λ plan. plan.basis) c.task.inside.mark.seen
          c.task.inside.events c.task.inside.work c.args.made begins kept.1 kept.2 same;
    }
