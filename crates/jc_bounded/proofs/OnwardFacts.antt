-- What a settle keeps, event by event: pods that were made stay made, and it gives no fate, creates no Job and puts no fault.
use Rattle.std.proofs.Common.{◌≡◌, ℕ, zero, suc, ◌≤◌, List, ◌∷◌, Option, Some, None, refl, ◌∙◌, subst, arith}
use Rattle.jc_types.specs.declared.numbers.Uid.{Uid}
use Rattle.jc_types.specs.declared.objects.Entry.{Entry}
use Rattle.jc_types.specs.declared.objects.KeyNames.{KeyNames as Key}
use Rattle.jc_types.specs.declared.runs.Shape.{Shape}
use Rattle.jc_types.specs.declared.runs.Sys.{Sys}
use Rattle.jc_types.specs.declared.runs.Sys.TheVariants as sys
use Rattle.jc_log.specs.Deeds.{Deed, act_of_system}
use Rattle.jc_log.specs.Log.{made_for}
use Rattle.jc_log.specs.Requests.{grown}
use Rattle.jc_runs.specs.Machines.{AllAskValid}
use Rattle.jc_runs.specs.Replies.{gives, log_given, next_deed}
use Rattle.jc_settle.specs.Settles.{next_of_settle, settled_on, with_next}
use Rattle.jc_settle.proofs.OnFacts.{next-is}
use Rattle.jc_making.specs.Nodes.{fate}
use Rattle.jc_counted.proofs.UnmadeFacts.{made-more}
use Rattle.jc_bounded.specs.Faultless.{PutsNoFault}

-- ---- pods that were made

grown-more : (u : Uid) (log : List Entry) (o : Option Entry) → made_for u log ≤ made_for u (grown log o)
grown-more u log None = omega arith
grown-more u log (Some e) = made-more u e log

pub next-more : (shape : Shape) (past : List Deed) (d : Deed) (u : Uid) → made_for u (log_given shape past) ≤ made_for u (log_given shape (d ∷ past))
unfolding log_given
next-more shape past d u = grown-more u (log_given shape past) (gives shape past (log_given shape past) d.act).entry

pub on-more : (shape : Shape) (n : ℕ) (past : List Deed) (u : Uid) → made_for u (log_given shape past) ≤ made_for u (log_given shape (settled_on shape n past))
on-more shape zero past u = omega arith
on-more shape (suc n) past u =
    let rest = on-more shape n (with_next (next_of_settle shape past) past) u in
    let one = by (next_of_settle shape past) in omega (arith, one, rest)
  where
    by : (o : Option Deed) → made_for u (log_given shape past) ≤ made_for u (log_given shape (with_next o past))
    by None = omega arith
    by (Some d) = next-more shape past d u

-- ---- commands

-- The deeds are as valid as before, and give no fate and no fault.
pub record SaysNothing (past now : List Deed) : Type 0 where
  pub valid : AllAskValid past → AllAskValid now
  pub fates : (k : Key) → fate now k ≡ fate past k
  pub faults : PutsNoFault past → PutsNoFault now

event-says : (shape : Shape) (past : List Deed) (x : Sys) → SaysNothing past (next_deed shape past None (act_of_system x) ∷ past)
event-says shape past (sys.List c kind) = record { valid = λ v. (tt, v); fates = λ k. refl; faults = λ v. (refl, v) }
event-says shape past (sys.Deliver c kind) = record { valid = λ v. (tt, v); fates = λ k. refl; faults = λ v. (refl, v) }
event-says shape past (sys.Begin c w) = record { valid = λ v. (tt, v); fates = λ k. refl; faults = λ v. (refl, v) }
event-says shape past (sys.Step c w) = record { valid = λ v. (tt, v); fates = λ k. refl; faults = λ v. (refl, v) }
event-says shape past sys.Node = record { valid = λ v. (tt, v); fates = λ k. refl; faults = λ v. (refl, v) }
event-says shape past (sys.Clock add) = record { valid = λ v. (tt, v); fates = λ k. refl; faults = λ v. (refl, v) }

pub on-says : (shape : Shape) (n : ℕ) (past : List Deed) → SaysNothing past (settled_on shape n past)
on-says shape zero past = record { valid = λ v. v; fates = λ k. refl; faults = λ v. v }
on-says shape (suc n) past =
    let rest = on-says shape n (with_next (next_of_settle shape past) past) in
    let one = by (next_of_settle shape past) refl in
    record { valid = λ v. rest.valid (one.valid v); fates = λ k. rest.fates k ∙ one.fates k; faults = λ v. rest.faults (one.faults v) }
  where
    by : (o : Option Deed) → next_of_settle shape past ≡ o → SaysNothing past (with_next o past)
    by None e = record { valid = λ v. v; fates = λ k. refl; faults = λ v. v }
    by (Some d) e = let x = next-is shape past d e in subst (λ (y : Deed). SaysNothing past (y ∷ past)) x.is (event-says shape past x.comes)
