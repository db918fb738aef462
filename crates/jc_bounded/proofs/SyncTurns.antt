-- A whole sync from a calm state where no fault is pending for its worker, and how many pods are allowed then.
use Rattle.std.proofs.Common.{◌≡◌, ℕ, zero, suc, ◌+◌, ◌<◌, Bool, true, false, List, ◌∷◌, ◌++◌, length, Option, Some, None, IfSome, refl, sym, ap, ◌∙◌, arith, true≢false}
use Rattle.std.proofs.lemmas.Bool.{false_from_ne_true}
use Rattle.std.proofs.lemmas.List.{length-append}
use Rattle.jc_types.proofs.KeyFacts.{same_key-eq, same_key-itself}
use Rattle.jc_types.specs.Keys.{same_key, same_uid}
use Rattle.jc_types.specs.declared.actions.End.{End}
use Rattle.jc_types.specs.declared.objects.Job.{Job}
use Rattle.jc_types.specs.declared.runs.Shape.{Shape}
use Rattle.jc_log.specs.Deeds.{Deed}
use Rattle.jc_log.specs.Log.{job_in}
use Rattle.jc_runs.specs.Basis.{Basis}
use Rattle.jc_runs.specs.Registers.{pending}
use Rattle.jc_runs.specs.Replies.{diary, log_given}
use Rattle.jc_settle.specs.Settles.{settled_on}
use Rattle.jc_calm.specs.SettleTurns.{BeginsAlone}
use Rattle.jc_bearing.specs.Whole.{HasAllFor, RunsWhole}
use Rattle.jc_bearing.proofs.AtMostFacts.{no-more, no-other}
use Rattle.jc_bearing.proofs.WholeFacts.{runs-whole}
use Rattle.jc_counted.proofs.CountedFacts.{Stay, legal-counted, legal-one-key}
use Rattle.jc_bounded.specs.Faultless.{AllowsNoMore, IsBetweenTurns, SucceedsAtLast, TurnsOver}
use Rattle.jc_bounded.proofs.NodeTurns.{fates-then, goes-to}

module _ (stay : Stay) (shape : Shape) (past : List Deed) (f : IsBetweenTurns shape past) (c w : ℕ) (basis : Basis) (begin : Deed) (b : BeginsAlone shape past c w basis begin) where
  module _ (r : RunsWhole shape past c w basis begin) where
    abbrev now : List Deed
    now = r.run ++ begin ∷ past

    -- It takes an event at least.
    some-event : (n : ℕ) → settled_on shape n past ≡ r.run ++ begin ∷ past → 0 < n
    some-event zero are = let long : length past ≡ length r.run + length (begin ∷ past) = ap length are ∙ length-append r.run (begin ∷ past) in absurd (omega (arith, long))
    some-event (suc n) are = omega arith

    module _ (ends : List End) (job : Job) (well : SucceedsAtLast shape past ends job) where
      -- It is the sync's Job.
      its : basis.key ≡ job.key → AllowsNoMore ends (log_given shape past) (log_given shape (r.run ++ begin ∷ past)) job
      its key = of _ all.job_is refl
        where
          under : job_in basis.key (log_given shape past) ≡ Some job
          under = ap (λ k. job_in k (log_given shape past)) key ∙ well.there

          all : HasAllFor (log_given shape past) basis job (log_given shape (r.run ++ begin ∷ past))
          all = r.all.its job (r.saw.job ∙ under)

          of : (then : Job) → job_in basis.key (log_given shape (r.run ++ begin ∷ past)) ≡ Some then → then.uid ≡ job.uid → AllowsNoMore ends (log_given shape past) (log_given shape (r.run ++ begin ∷ past)) job
          of then is uid = record {
            now = then;
            there = ap (λ k. job_in k (log_given shape (r.run ++ begin ∷ past))) (sym key) ∙ is;
            uid = uid;
            few = no-more ends (log_given shape past) (log_given shape (r.run ++ begin ∷ past)) basis job then r.saw r.all under is
                (legal-counted stay shape past f.legal f.valid basis.key job under) well.last;
          }

      -- It is another.
      others : same_key basis.key job.key ≡ false → AllowsNoMore ends (log_given shape past) (log_given shape (r.run ++ begin ∷ past)) job
      others apart = record {
        now = job;
        there = r.all.others.jobs job.key apart ∙ well.there;
        uid = refl;
        few = let same = no-other ends (log_given shape past) (log_given shape (r.run ++ begin ∷ past)) basis job r.all apart (uids basis.job r.saw.job) in omega (arith, same);
      }
        where
          uids : (o : Option Job) → o ≡ job_in basis.key (log_given shape past) → IfSome o (λ seen. same_uid seen.uid job.uid ≡ false)
          uids None is = tt
          uids (Some seen) is =
              false_from_ne_true (same_uid seen.uid job.uid) (λ same. true≢false (sym (same_key-itself job.key)
              ∙ ap (λ k. same_key k job.key) (sym (legal-one-key stay shape past f.legal f.valid basis.key job.key seen job (sym is) well.there same)) ∙ apart))

      bounded : AllowsNoMore ends (log_given shape past) (log_given shape (r.run ++ begin ∷ past)) job
      bounded = by (same_key basis.key job.key) refl
        where
          by : (t : Bool) → same_key basis.key job.key ≡ t → AllowsNoMore ends (log_given shape past) (log_given shape (r.run ++ begin ∷ past)) job
          by true s = its (same_key-eq basis.key job.key s)
          by false s = others s

    whole-turns : TurnsOver shape past
    whole-turns = record {
      events = r.events;
      now = r.run ++ begin ∷ past;
      are = r.are;
      some = some-event r.events r.are;
      between = goes-to shape past r.events (r.run ++ begin ∷ past) r.are f r.calm;
      faults = r.faults;
      fates = fates-then shape past r.events (r.run ++ begin ∷ past) r.are;
      jobs = bounded;
    }

  pub sync-turns : pending w (diary shape c past) ≡ None → TurnsOver shape past
  sync-turns fine = whole-turns (runs-whole stay shape f.workers past f.legal f.valid f.calm c w basis begin b fine)
