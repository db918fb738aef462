-- A pod without a finalizer lost it to a command, or to a sync that had a cause.
use Rattle.std.proofs.Common.{◌≡◌, ℕ, ◌≤◌, ◌<◌, ◌⊎◌, Bool, true, false, List, [], ◌∷◌, length, Option, Some, None, refl, sym, ap, ◌∙◌, subst, arith, lt-ltb, true≢false, inl, inr}
use Rattle.std.proofs.lemmas.Bool.{cases_lt, not-false}
use Rattle.jc_types.specs.declared.numbers.Uid.{Uid}
use Rattle.jc_types.specs.declared.objects.Entry.{Entry}
use Rattle.jc_types.specs.declared.objects.Job.{Job}
use Rattle.jc_types.specs.declared.objects.Pod.{Pod}
use Rattle.jc_types.specs.declared.runs.Shape.{Shape}
use Rattle.jc_log.specs.Deeds.{Deed}
use Rattle.jc_log.specs.Log.{Live, is_lost, life, upto}
use Rattle.jc_log.specs.Requests.{grown}
use Rattle.jc_log.specs.Writes.{Stored}
use Rattle.jc_log.proofs.LogFacts.{upto-all, upto-fixed, upto-upto}
use Rattle.jc_log.proofs.WriteFacts.{Kept, kept_to}
use Rattle.jc_sync.specs.Ledger.{ledger_of}
use Rattle.jc_sync.specs.Once.{AllJustified, IsJustified, Taking, taking_of}
use Rattle.jc_sync.specs.Syncs.{appends, reach, request_of}
use Rattle.jc_sync.proofs.QuietFacts.{IfSome-at}
use Rattle.jc_history.specs.Legal.{IsLegal}
use Rattle.jc_history.specs.Replies.{gives, log_given}
use Rattle.jc_rest.specs.Lost.{AreLostWell, ByCommand, BySync, HowLost, Takes, WasLost}
use Rattle.jc_rest.proofs.HoldFacts.{Held, Holds, OfAct, Otherwise, Strips, Taken, acts}

-- The length that the last deed tells is that of the log.
reach-is : (shape : Shape) (deeds : List Deed) → IsLegal shape deeds → reach deeds ≡ length (log_given shape deeds)
unfolding log_given
reach-is shape [] legal = refl
reach-is shape (d ∷ past) legal = legal.0.length

-- The log of the deeds before the last is a prefix of the log of all.
prefix : (old log : List Entry) (o : Option Entry) → upto (length (grown old o)) log ≡ grown old o → upto (length old) log ≡ old
prefix old log None is = is
prefix old log (Some e) is =
    sym (upto-upto (length old) (length (e ∷ old)) log (omega arith))
    ∙ ap (upto (length old)) is ∙ upto-fixed (length old) e old (omega arith) ∙ upto-all (length old) old (omega arith)

-- Two pods that lived under a UID were made for one Job.
one-owner : (u : Uid) (m n : ℕ) (log : List Entry) → Stored log → (old new : Pod) → life u (upto m log) ≡ Live old → life u (upto n log) ≡ Live new → m ≤ n → new.owner_uid ≡ old.owner_uid
one-owner u m n log stored old new was is le =
    subst (Kept (λ p. p.owner_uid ≡ old.owner_uid)) is
    (kept_to (λ p. p.owner_uid ≡ old.owner_uid) (λ x y s h. s.owner_uid ∙ h) u m n log stored le old was refl)

module _ (shape : Shape) (job : Job) (u : Uid) (log : List Entry) (stored : Stored log) (n : ℕ) (its : Pod) (lived : life u (upto n log) ≡ Live its) (own : its.owner_uid ≡ job.uid) where
  owned : (m : ℕ) (pod : Pod) → life u (upto m log) ≡ Live pod → pod.owner_uid ≡ job.uid
  owned m pod stood = by (cases_lt m n)
    where
      by : (m < n) ⊎ (n ≤ m) → pod.owner_uid ≡ job.uid
      by (inl lt) = sym (one-owner u m n log stored pod its stood lived (omega (arith, lt))) ∙ own
      by (inr le) = one-owner u n m log stored its pod lived stood le ∙ own

  was-lost : (deeds : List Deed) → IsLegal shape deeds → AllJustified job deeds log → upto (length (log_given shape deeds)) log ≡ log_given shape deeds
      → is_lost (life u (log_given shape deeds)) ≡ true → WasLost job u log deeds
  unfolding log_given
  was-lost [] legal just front out = absurd (true≢false (sym out))
  was-lost (d ∷ past) legal just front out = by (is_lost (life u (log_given shape past))) refl (was-lost past legal.1 just.1 before)
    where
      before : upto (length (log_given shape past)) log ≡ log_given shape past
      before = prefix (log_given shape past) log (gives shape past (log_given shape past) d.act).entry front

      -- The deed took it.
      takes : (pod : Pod) → life u (log_given shape past) ≡ Live pod → Holds (life u (log_given shape past)) → (e : Entry) → (gives shape past (log_given shape past) d.act).entry ≡ Some e → Takes u log d past
      takes pod is holds e there = record {
        pod = pod;
        stood = ap (λ n. life u (upto n log)) (reach-is shape past legal.1) ∙ ap (life u) before ∙ is;
        held = not-false pod.tracked (subst Holds is holds);
        wrote = lt-ltb (reach past) d.length.0 (let a = reach-is shape past legal.1 in let b = length-is in omega (arith, a, b));
        lost = ap (λ n. is_lost (life u (upto n log))) legal.0.length ∙ ap (λ l. is_lost (life u l)) front ∙ out;
      }
        where
          length-is : d.length.0 ≡ length (e ∷ log_given shape past)
          length-is = legal.0.length ∙ ap (λ o. length (grown (log_given shape past) o)) there

      -- A sync took it.
      taken : (taking : Taking) → taking_of (request_of (gives shape past (log_given shape past) d.act).reply) ≡ Some taking → taking.pod ≡ u → Takes u log d past → HowLost job u log d past
      taken taking asked same took =
          BySync took taking.lets_go
          (ap (λ r. taking_of (request_of r)) legal.0.reply ∙ asked ∙ ap (λ v. Some (record { pod = v; lets_go = taking.lets_go })) same)
          (IfSome-at (taking_of (request_of d.reply))
          (λ t. appends d past ≡ true → (pod : Pod) → life t.pod (upto (reach past) log) ≡ Live pod → pod.owner_uid ≡ job.uid → IsJustified job (ledger_of job.uid past log).records d.length.0 log t.lets_go pod)
          taking (ap (λ r. taking_of (request_of r)) legal.0.reply ∙ asked) just.0 took.wrote took.pod (ap (λ v. life v (upto (reach past) log)) same ∙ took.stood)
          (owned (reach past) took.pod took.stood))

      of-act : Holds (life u (log_given shape past)) → OfAct u (log_given shape past) d.act (gives shape past (log_given shape past) d.act) → WasLost job u log (d ∷ past)
      of-act holds (Strips strips pod is e there) = inl (ByCommand (takes pod is holds e there) strips)
      of-act holds (Otherwise (Held h)) = absurd (true≢false (sym out ∙ h))
      of-act holds (Otherwise (Taken taking asked same pod is e there)) = inl (taken taking asked same (takes pod is holds e there))

      by : (b : Bool) → is_lost (life u (log_given shape past)) ≡ b → (is_lost (life u (log_given shape past)) ≡ true → WasLost job u log past) → WasLost job u log (d ∷ past)
      by true was more = inr (more was)
      by false was more = of-act was (acts u (log_given shape past) was shape past d.act)

-- So it is of each pod of a Job that ever was there.
pub lost-well : (shape : Shape) (deeds : List Deed) → IsLegal shape deeds → Stored (log_given shape deeds) → (job : Job) → AllJustified job deeds (log_given shape deeds) → AreLostWell job deeds (log_given shape deeds)
lost-well shape deeds legal stored job just u n pod lived own lost =
    was-lost shape job u (log_given shape deeds) stored n pod lived own deeds legal just
    (upto-all (length (log_given shape deeds)) (log_given shape deeds) (omega arith)) lost
