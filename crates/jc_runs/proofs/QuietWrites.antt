-- Such a sync writes no status where its Job has its next one already.
use Rattle.std.proofs.Common.{◌≡◌, ℕ, zero, suc, Bool, true, false, cond, List, [], ◌∷◌, ◌++◌, length, map, drop, Option, Some, None, is_some, refl, sym, ap, ◌∙◌, subst, true≢false, inl, inr}
use Rattle.std.specs.List.{AllByRecursion as Each}
use Rattle.jc_log.specs.Acts as does
use Rattle.jc_plan.specs.declared.plans.Planned.{Planned}
use Rattle.jc_plan.specs.Plans.{planned}
use Rattle.jc_types.specs.declared.numbers.Uid.{Uid}
use Rattle.jc_types.specs.declared.numbers.Version.{Version}
use Rattle.jc_types.specs.declared.objects.Entry.{Entry}
use Rattle.jc_types.specs.declared.objects.Job.{Job}
use Rattle.jc_types.specs.declared.replies.Answer.{Answer}
use Rattle.jc_types.specs.declared.replies.Request.{Request}
use Rattle.jc_types.specs.declared.runs.Shape.{Shape}
use Rattle.jc_states.specs.declared.bases.Basis.{Basis}
use Rattle.jc_log.specs.Deeds.{Deed}
use Rattle.jc_states.specs.Bases.{own_pods}
use Rattle.jc_types.specs.declared.objects.KeyNames.{KeyNames as Key}
use Rattle.jc_types.specs.Keys.{same_key}
use Rattle.jc_states.specs.UidLists.{is_in}
use Rattle.jc_states.specs.PodLists.{IsRising}
use Rattle.jc_log.specs.Log.{pods_in, pods_under}
use Rattle.jc_log.specs.Writes.{Stored}
use Rattle.jc_log.proofs.PodFacts.{pods_in-rises}
use Rattle.jc_states.proofs.PodListFacts.{rises_filter}
use Rattle.jc_log.proofs.WriteFacts.{job_in-key}
use Rattle.jc_plan.specs.Next.{next_status}
use Rattle.jc_plan.proofs.NextFacts.{unwritten}
use Rattle.jc_ledger.specs.Tied.{HasOrderedLists}
use Rattle.jc_types.specs.declared.actions.Fault.{Fault}
use Rattle.jc_types.specs.declared.actions.Fault.TheVariants.{Drop, Lose}
use Rattle.jc_ledger.specs.declared.flights.Flight.{Flight}
use Rattle.jc_ledger.specs.Flights.{Flies}
use Rattle.jc_asks.specs.declared.asks.Ask.{Ask}
use Rattle.jc_asks.specs.declared.asks.Ask.TheVariants.{MakePod, MarkPod, LetPodGo, WriteFirst, ReleasePod, WriteSecond}
use Rattle.jc_asks.specs.Asks.{asks_of, first_asks, let_go_ask, as_request, second_asks}
use Rattle.jc_asks.specs.Readings.{gone_in, with_marks}
use Rattle.jc_sync.specs.AllRegisters.{Registers, flights_of_all, put_at}
use Rattle.jc_asks.specs.Steps.{stepped_at}
use Rattle.jc_sync.proofs.ReachFacts.{tidy}
use Rattle.jc_sync.proofs.RegisterFacts.{Around, around}
use Rattle.jc_history.specs.SoFar.{so_far}
use Rattle.jc_history.specs.Diaries.{moment, notes}
use Rattle.jc_history.specs.Legal.{IsLegal, IsLegalNext}
use Rattle.jc_history.specs.Registers.{backoff, asks_status, made, pending, register}
use Rattle.jc_history.specs.Replies.{gives, log_given, reply_given, step_done, step_gives}
use Rattle.jc_runs.specs.QuietRuns.{AreSteps, WritesNoStatus}
use Rattle.jc_runs.proofs.QuietBegins.{BeginsKnown, basis-then, begins-under-way, pods-then, saw-then}
use Rattle.jc_runs.proofs.QuietSteps.{HasEnded, Runs, all-steps, last-step, stored-before}

-- ---- nothing is written where the Job has its next status

abbrev NoStatus : Ask → Type 0
NoStatus ask = asks_status (as_request ask) ≡ false

each-both : (xs ys : List Ask) → Each NoStatus xs → Each NoStatus ys → Each NoStatus (xs ++ ys)
each-both [] ys h g = g
each-both (x ∷ xs) ys h g = (h.0, each-both xs ys h.1 g)

each-drop : (n : ℕ) (xs : List Ask) → Each NoStatus xs → Each NoStatus (drop n xs)
each-drop zero [] h = tt
each-drop (suc n) [] h = tt
each-drop zero (x ∷ xs) h = h
each-drop (suc n) (x ∷ xs) h = each-drop n xs h.1

makes-none : (indexes : List (Option ℕ)) → Each NoStatus (map MakePod indexes)
makes-none [] = tt
makes-none (index ∷ indexes) = (refl, makes-none indexes)

marks-none : (uids : List Uid) → Each NoStatus (map MarkPod uids)
marks-none [] = tt
marks-none (u ∷ uids) = (refl, marks-none uids)

frees-none : (uids : List Uid) → Each NoStatus (map ReleasePod uids)
frees-none [] = tt
frees-none (u ∷ uids) = (refl, frees-none uids)

lets-none : (rows : List (Uid × Version)) → Each NoStatus (map let_go_ask rows)
lets-none [] = tt
lets-none (row ∷ rows) = (refl, lets-none rows)

marked-none : (gone : List Uid) (xs : List Ask) → Each NoStatus xs → Each NoStatus (with_marks gone xs)
marked-none gone [] h = tt
marked-none gone (LetPodGo u v ∷ xs) h = by (is_in u gone) (marked-none gone xs h.1)
  where
    by : (b : Bool) → Each NoStatus (with_marks gone xs) → Each NoStatus (LetPodGo u v ∷ cond b (MarkPod u ∷ with_marks gone xs) (with_marks gone xs))
    by true g = (refl, (refl, g))
    by false g = (refl, g)
marked-none gone (MakePod index ∷ xs) h = (h.0, marked-none gone xs h.1)
marked-none gone (MarkPod u ∷ xs) h = (h.0, marked-none gone xs h.1)
marked-none gone (WriteFirst ∷ xs) h = (h.0, marked-none gone xs h.1)
marked-none gone (ReleasePod u ∷ xs) h = (h.0, marked-none gone xs h.1)
marked-none gone (WriteSecond ∷ xs) h = (h.0, marked-none gone xs h.1)

asks-none : (plan : Planned) → plan.first ≡ None → plan.second ≡ None → Each NoStatus (asks_of plan)
asks-none plan f s =
    each-both (map MakePod plan.creates ++ (map MarkPod plan.marks ++ map let_go_ask plan.let_goes)) _
    (each-both (map MakePod plan.creates) _ (makes-none plan.creates) (each-both (map MarkPod plan.marks) _ (marks-none plan.marks) (lets-none plan.let_goes)))
    (each-both (first_asks plan.first) _ (subst (λ o. Each NoStatus (first_asks o)) (sym f) tt)
    (each-both (map ReleasePod plan.releases) _ (frees-none plan.releases) (subst (λ o. Each NoStatus (second_asks o)) (sym s) tt)))

step-writes-none : (log : List Entry) (now : ℕ) (made : List (Request × Answer)) (fault : Option Fault) (basis : Basis) → (planned basis).first ≡ None → (planned basis).second ≡ None → WritesNoStatus (step_gives log now made fault (Some basis)).reply
step-writes-none log now made fault basis f s = by fault (so_far basis made).left (each-drop (length made) _ (marked-none (gone_in made) (asks_of (planned basis)) (asks-none (planned basis) f s)))
  where
    by : (fault : Option Fault) (left : List Ask) → Each NoStatus left → WritesNoStatus (step_done (stepped_at now fault log (so_far basis made).flight left)).reply
    by fault [] h = tt
    by None (ask ∷ left) h = h.0
    by (Some Drop) (ask ∷ left) h = h.0
    by (Some Lose) (ask ∷ left) h = h.0

module _ (shape : Shape) (c w : ℕ) (d : Deed) (past : List Deed) (k : Key) (job : Job) (rs : Registers) (b : BeginsKnown shape c w d past k job rs) where
  abbrev the-basis : Basis
  the-basis = basis-then shape c w d past k job rs b

  abbrev key-named : job.key ≡ the-basis.key
  key-named = job_in-key k (log_given shape (d ∷ past)) job b.there

  -- The plan writes nothing.
  no-writes : HasOrderedLists job → next_status (moment shape past) (backoff k (notes shape c past (log_given shape past))) job (own_pods job (pods_under k (log_given shape (d ∷ past)))) ≡ job.status
      → ((planned the-basis).first ≡ None) × ((planned the-basis).second ≡ None)
  no-writes tidy same =
      (unwritten job the-basis (saw-then shape c w d past k job rs b)
      (subst IsRising (sym (pods-then shape c w d past k job rs b)) (rises_filter 0 (λ pod. same_key pod.owner k) (pods_in (log_given shape (d ∷ past))) (pods_in-rises (log_given shape (d ∷ past)))))
      tidy.none).1 (ap (λ pods. next_status (moment shape past) (backoff k (notes shape c past (log_given shape past))) job (own_pods job pods)) (pods-then shape c w d past k job rs b) ∙ same)

  module _ (none : ((planned the-basis).first ≡ None) × ((planned the-basis).second ≡ None)) where
    one-none : (x : Deed) (more : List Deed) → IsLegalNext shape (more ++ d ∷ past) x → x.act ≡ does.Step c w → register w (notes shape c (more ++ d ∷ past) (log_given shape (more ++ d ∷ past))) ≡ Some the-basis → WritesNoStatus x.reply
    unfolding gives
    one-none x more next act its =
        subst WritesNoStatus
        (sym (next.reply ∙ ap (reply_given shape (more ++ d ∷ past) (log_given shape (more ++ d ∷ past))) act
        ∙ ap (λ o. (step_gives (log_given shape (more ++ d ∷ past)) (moment shape (more ++ d ∷ past))
        (made w (notes shape c (more ++ d ∷ past) (log_given shape (more ++ d ∷ past))))
        (pending w (notes shape c (more ++ d ∷ past) (log_given shape (more ++ d ∷ past)))) o).reply) its))
        (step-writes-none (log_given shape (more ++ d ∷ past)) (moment shape (more ++ d ∷ past))
        (made w (notes shape c (more ++ d ∷ past) (log_given shape (more ++ d ∷ past))))
        (pending w (notes shape c (more ++ d ∷ past) (log_given shape (more ++ d ∷ past)))) the-basis none.0 none.1)

    none-written : (run : List Deed) → IsLegal shape (run ++ d ∷ past) → AreSteps shape c w run (d ∷ past) → Stored (log_given shape (run ++ d ∷ past)) → Each (λ x. WritesNoStatus x.reply) run
    none-written [] legal steps stays = tt
    none-written (x ∷ run) legal steps stays = (
      by run legal.0 steps (all-steps shape c w the-basis job (saw-then shape c w d past k job rs b) key-named run
          (d ∷ past) legal.1 steps.2 (stored-before shape c w the-basis job (saw-then shape c w d past k job rs b)
          key-named x (run ++ d ∷ past) stays) (begins-under-way shape c w d past k job rs b)),
      none-written run legal.1
          steps.2 (stored-before shape c w the-basis job (saw-then shape c w d past k job rs b) key-named x
          (run ++ d ∷ past) stays),
    )
      where
        by : (run : List Deed) → IsLegalNext shape (run ++ d ∷ past) x → AreSteps shape c w (x ∷ run) (d ∷ past) → Runs shape c w the-basis job (saw-then shape c w d past k job rs b) key-named run (d ∷ past) → WritesNoStatus x.reply
        by run next steps (inl u) = one-none x run next steps.0 u.register_is
        by [] next steps (inr e) = absurd e
        by (last ∷ more) next steps (inr e) = absurd (true≢false (sym steps.1 ∙ ap is_some e.freed))

  tidy-then : (last : Deed) (run : List Deed) → HasEnded shape c w the-basis job (saw-then shape c w d past k job rs b) key-named last (run ++ d ∷ past) → HasOrderedLists job
  tidy-then last run h =
      tidy (run ++ d ∷ past) (log_given shape (run ++ d ∷ past)) (flights_of_all h.registers) h.sync.flight job h.known.tied
      (fly (around c w h.registers (Some h.sync) h.in_register)) (ap (λ (x : Basis). x.job) h.of_basis ∙ saw-then shape c w d past k job rs b) h.leaves
    where
      one : (front back : List Flight) → Each (Flies (log_given shape (run ++ d ∷ past))) (front ++ h.sync.flight ∷ back) → Flies (log_given shape (run ++ d ∷ past)) h.sync.flight
      one [] back e = e.0
      one (x ∷ front) back e = one front back e.1

      fly : Around (flights_of_all h.registers) (λ new. flights_of_all (put_at c w new h.registers)) (Some h.sync) → Flies (log_given shape (run ++ d ∷ past)) h.sync.flight
      fly a = one a.front a.back (subst (λ l. Each (Flies (log_given shape (run ++ d ∷ past))) l) a.is h.known.tied.flying)

  -- Where the Job had its next status already no status is written.
  pub writes-nothing : (last : Deed) (run : List Deed) → IsLegal shape (last ∷ run ++ d ∷ past) → AreSteps shape c w (last ∷ run) (d ∷ past) → Stored (log_given shape (last ∷ run ++ d ∷ past))
      → register w (notes shape c (last ∷ run ++ d ∷ past) (log_given shape (last ∷ run ++ d ∷ past))) ≡ None
      → next_status (moment shape past) (backoff k (notes shape c past (log_given shape past))) job (own_pods job (pods_under k (log_given shape (d ∷ past)))) ≡ job.status
      → Each (λ x. WritesNoStatus x.reply) (last ∷ run)
  writes-nothing last run legal steps stays free same =
      none-written (no-writes (tidy-then last run (last-step shape c w the-basis job (saw-then shape c w d past k job rs b) key-named last run (d ∷ past)
      (all-steps shape c w the-basis job (saw-then shape c w d past k job rs b) key-named (last ∷ run) (d ∷ past) legal steps stays (begins-under-way shape c w d past k job rs b)) free)) same)
      (last ∷ run) legal steps stays
