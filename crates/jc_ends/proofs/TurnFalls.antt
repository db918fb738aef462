-- What is still to come falls with a turn that writes no pod.
use Rattle.std.proofs.Common.{◌≡◌, ℕ, ◌+◌, ◌-◌, ◌<◌, ◌≤◌, ◌==◌, nat_lt, Bool, true, false, cond, List, [], ◌∷◌, ◌++◌, length, Some, refl, sym, ap, ◌∙◌, subst, arith, ltb-true, ltb-false, eqb-true, eq-eqb}
use Rattle.jc_types.specs.declared.objects.Entry.{Entry}
use Rattle.jc_types.specs.declared.objects.Entry.TheVariants.{JobPut}
use Rattle.jc_types.specs.declared.objects.Job.{Job}
use Rattle.jc_types.specs.declared.runs.Shape.{Shape}
use Rattle.jc_types.specs.declared.statuses.JobStatus.{JobStatus}
use Rattle.jc_states.specs.declared.bases.Basis.{Basis}
use Rattle.jc_log.specs.Deeds.{Deed}
use Rattle.jc_log.specs.Log.{job_in}
use Rattle.jc_log.specs.Requests.{with_status}
use Rattle.jc_log.proofs.LogFacts.{upto-all}
use Rattle.jc_log.specs.Range.{IsMoment}
use Rattle.jc_history.specs.Diaries.{moment}
use Rattle.jc_history.specs.Legal.{IsLegal}
use Rattle.jc_history.specs.Notes.{Note, Ticked}
use Rattle.jc_history.specs.Replies.{diary, log_given}
use Rattle.jc_runs.specs.Machines.{AllAskValid}
use Rattle.jc_settle.specs.Settles.{settled_on}
use Rattle.jc_settle.specs.Totals.{total}
use Rattle.jc_settle.proofs.ClockFacts.{moments-are}
use Rattle.jc_settle.proofs.OnFacts.{next-legal}
use Rattle.jc_settle.proofs.TotalFacts.{total-less, total-most}
use Rattle.jc_calm.specs.SettleTurns.{BeginsAlone, EndsAtOnce, MovesTheClock, WritesStatus, WritesNoMore, notes_of_nothing}
use Rattle.jc_ends.proofs.Descent.{Falls, InKeys, InMoments, InStatuses}
use Rattle.jc_ends.proofs.DueFacts.{IsDueOf, due-of}
use Rattle.jc_ends.proofs.EqualTotals.{parts-equal}
use Rattle.jc_ends.proofs.FallFacts.{FallWithTurns, count_of}
use Rattle.jc_ends.proofs.TidyFacts.{Stay, legal-lists-none}

-- ---- each turn lowers the count

module _ (statuses : ℕ → List Entry → ℕ) (moments keys : ℕ → List Entry → List Note → ℕ) (known : FallWithTurns statuses moments keys) (stay : Stay) (shape : Shape) (start : IsMoment shape.start) where
  module _ (past : List Deed) (legal : IsLegal shape past) (valid : AllAskValid past) where
    abbrev log : List Entry
    log = log_given shape past

    abbrev now : ℕ
    now = moment shape past

    -- ---- the clock

    pub clock-falls : (d : Deed) (due : ℕ) → MovesTheClock shape past d due → Falls (count_of statuses moments keys shape past) (count_of statuses moments keys shape (d ∷ past))
    clock-falls d due h = by (nat_lt (total moments-then shape.controllers) (total moments-now shape.controllers)) refl
      where
        later : ℕ
        later = moment shape past + (due - moment shape past)

        onward : now ≤ later
        onward = omega arith

        in-time : IsMoment later
        in-time = subst IsMoment h.now_is (moments-are shape (d ∷ past) start (next-legal shape past d h.next, legal))

        moments-now : ℕ → ℕ
        moments-now c = moments now log (diary shape c past)

        moments-then : ℕ → ℕ
        moments-then c = moments (moment shape (d ∷ past)) (log_given shape (d ∷ past)) (diary shape c (d ∷ past))

        keys-now : ℕ → ℕ
        keys-now c = keys now log (diary shape c past)

        keys-then : ℕ → ℕ
        keys-then c = keys (moment shape (d ∷ past)) (log_given shape (d ∷ past)) (diary shape c (d ∷ past))

        few-statuses : statuses (moment shape (d ∷ past)) (log_given shape (d ∷ past)) ≤ statuses now log
        few-statuses = let le = known.no_status now later log onward in-time in let same : statuses (moment shape (d ∷ past)) (log_given shape (d ∷ past)) ≡ statuses later log = (λ i. statuses (h.now_is i) (h.log_is i)) in omega (arith, le, same)

        moments-at : (c : ℕ) → moments-then c ≡ moments later log (Ticked later ∷ diary shape c past)
        moments-at c = λ i. moments (h.now_is i) (h.log_is i) (h.notes c i)

        keys-at : (c : ℕ) → keys-then c ≡ keys later log (Ticked later ∷ diary shape c past)
        keys-at c = λ i. keys (h.now_is i) (h.log_is i) (h.notes c i)

        few-moments : (c : ℕ) → c < shape.controllers → moments-then c ≤ moments-now c
        few-moments c lt = let le = known.no_moment now later log (diary shape c past) onward in let same = moments-at c in omega (arith, le, same)

        no-more : total moments-then shape.controllers ≤ total moments-now shape.controllers
        no-more = total-most moments-now moments-then shape.controllers few-moments

        -- Where no moment has passed a delay was due.
        equal : total moments-now shape.controllers ≤ total moments-then shape.controllers → (c : ℕ) → c < shape.controllers → moments later log (Ticked later ∷ diary shape c past) ≡ moments-now c
        equal all c lt = sym (moments-at c) ∙ parts-equal moments-now moments-then shape.controllers few-moments all c lt

        few-keys : total moments-now shape.controllers ≤ total moments-then shape.controllers → (c : ℕ) → c < shape.controllers → keys-then c ≤ keys-now c
        few-keys all c lt = let le = known.no_key now later log (diary shape c past) onward (h.lines c lt) (equal all c lt) in let same = keys-at c in omega (arith, le, same)

        less-keys : total moments-now shape.controllers ≤ total moments-then shape.controllers → IsDueOf shape past due → total keys-then shape.controllers < total keys-now shape.controllers
        less-keys all x =
            let less = known.due_key now later log (diary shape x.controller past) due onward (h.lines x.controller x.within) x.is (omega arith) (equal all x.controller x.within) in
            let same = keys-at x.controller in
            total-less keys-now keys-then shape.controllers x.controller x.within (few-keys all) (omega (arith, less, same))

        by : (b : Bool) → nat_lt (total moments-then shape.controllers) (total moments-now shape.controllers) ≡ b → Falls (count_of statuses moments keys shape past) (count_of statuses moments keys shape (d ∷ past))
        by true s = InMoments h.faults few-statuses (ltb-true (total moments-then shape.controllers) (total moments-now shape.controllers) s)
        by false s = InKeys h.faults few-statuses no-more (less-keys (ltb-false (total moments-then shape.controllers) (total moments-now shape.controllers) s) (due-of shape past due h.least))

    -- ---- a sync

    module _ (c w : ℕ) (basis : Basis) (begin : Deed) (b : BeginsAlone shape past c w basis begin) where
      pub finds-falls : (end : Deed) → EndsAtOnce shape past c w basis begin end → Falls (count_of statuses moments keys shape past) (count_of statuses moments keys shape (end ∷ begin ∷ past))
      finds-falls end h = InKeys h.faults few-statuses few-moments less-keys
        where
          done : List Deed
          done = end ∷ begin ∷ past

          few-statuses : statuses (moment shape done) (log_given shape done) ≤ statuses now log
          few-statuses = let same : statuses (moment shape done) (log_given shape done) ≡ statuses now log = (λ i. statuses (h.now_is i) (h.log_is i)) in omega (arith, same)

          moments-same : (e : ℕ) → moments (moment shape done) (log_given shape done) (diary shape e done) ≡ moments now log (diary shape e past)
          moments-same e = (λ i. moments (h.now_is i) (h.log_is i) (h.notes e i)) ∙ by (c == e)
            where
              by : (t : Bool) → moments now log (cond t (notes_of_nothing w basis now) [] ++ diary shape e past) ≡ moments now log (diary shape e past)
              by true = known.same_moments (diary shape e past) log now w basis
              by false = refl

          few-moments : total (λ e. moments (moment shape done) (log_given shape done) (diary shape e done)) shape.controllers ≤ total (λ e. moments now log (diary shape e past)) shape.controllers
          few-moments = total-most _ _ shape.controllers (λ e lt. let same = moments-same e in omega (arith, same))

          less-own : keys (moment shape done) (log_given shape done) (diary shape c done) < keys now log (diary shape c past)
          less-own =
              let less = known.one_key (diary shape c past) log now w basis b.rest b.first b.saw h.writes in
              let same : keys (moment shape done) (log_given shape done) (diary shape c done)
              ≡ keys now log (notes_of_nothing w basis now ++ diary shape c past) =
              (λ i. keys (h.now_is i) (h.log_is i) (h.notes c i))
              ∙ ap (λ t. keys now log (cond t (notes_of_nothing w basis now) [] ++ diary shape c past))
              (eq-eqb c c refl) in
              omega (arith, less, same)

          keys-others : (e : ℕ) → e < shape.controllers → keys (moment shape done) (log_given shape done) (diary shape e done) ≤ keys now log (diary shape e past)
          keys-others e lt = by (c == e) refl
            where
              by : (t : Bool) → (c == e) ≡ t → keys (moment shape done) (log_given shape done) (diary shape e done) ≤ keys now log (diary shape e past)
              by true s = let less = subst (λ x. keys (moment shape done) (log_given shape done) (diary shape x done) < keys now log (diary shape x past)) (eqb-true c e s) less-own in omega (arith, less)
              by false s =
                  let same : keys (moment shape done) (log_given shape done) (diary shape e done)
                  ≡ keys now log (diary shape e past) = (λ i. keys (h.now_is i) (h.log_is i) (h.notes e i))
                  ∙ ap (λ t. keys now log (cond t (notes_of_nothing w basis now) [] ++ diary shape e past)) s in
                  omega (arith, same)

          less-keys : total (λ e. keys (moment shape done) (log_given shape done) (diary shape e done)) shape.controllers < total (λ e. keys now log (diary shape e past)) shape.controllers
          less-keys = total-less (λ e. keys now log (diary shape e past)) (λ e. keys (moment shape done) (log_given shape done) (diary shape e done)) shape.controllers c b.controller keys-others less-own

      pub writes-falls : (job : Job) (status : JobStatus) (write : Deed) → WritesStatus shape past c w basis job status begin write → (m : WritesNoMore shape past basis job status)
          → Falls (count_of statuses moments keys shape past) (count_of statuses moments keys shape (settled_on shape m.events past))
      writes-falls job status write h m = InStatuses m.faults less
        where
          there : job_in basis.key log ≡ Some job
          there = ap (job_in basis.key) (sym (upto-all (length log) log (omega arith))) ∙ sym (ap (λ (x : Basis). x.job) b.saw) ∙ h.job_is

          less : statuses (moment shape (settled_on shape m.events past)) (log_given shape (settled_on shape m.events past)) < statuses now log
          less =
              let few = known.written (diary shape c past) log now basis job status b.saw h.job_is (legal-lists-none stay shape past legal valid basis.key job there) h.creates h.marks h.let_goes m.releases h.status_is in
              let same : statuses (moment shape (settled_on shape m.events past)) (log_given shape (settled_on shape m.events past)) ≡ statuses now (JobPut (with_status log job status) ∷ log) = (λ i. statuses (m.now_is i) (m.log_is i)) in
              omega (arith, few, same)
