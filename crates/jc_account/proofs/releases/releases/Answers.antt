-- Where all pods are new ones of one outcome, those that are judged are those that lose their finalizer.
use Rattle.std.proofs.Common.{◌≡◌, IfOk, List, refl, subst}
use Rattle.jc_types.specs.declared.numbers.Uid.{Uid}
use Rattle.jc_failpol.specs.declared.outcomes.Outcome.TheVariants.{Failed, Succeeded}
use Rattle.jc_account.proofs.ShortFacts.{alike-released}
use Rattle.jc_account.proofs.releases.releases.Goals as goal

pub returns-then-are_all : goal.returns-then-are_all
returns-then-are_all c =
    subst (λ (us : List Uid). IfOk c.copy.result (λ uids. uids ≡ us))
    (alike-released c.args.job.now c.args.pods.now Succeeded _ _ refl c.requires.succeeded c.requires.left_succeeded (c.are_all.ensures.0 c.if-are_all.true))
    c.copy.ensures

pub returns-then-are_all-2 : goal.returns-then-are_all-2
returns-then-are_all-2 c =
    subst (λ (us : List Uid). IfOk c.copy-then-are_all-2.result (λ uids. uids ≡ us))
    (alike-released c.args.job.now c.args.pods.now Failed _ _ refl c.requires.failed c.requires.left_failed (c.are_all-2.ensures.0 c.if-are_all-2.true))
    c.copy-then-are_all-2.ensures
