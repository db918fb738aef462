-- A step of a sync: what ties goes over, and the place goes on.
use Rattle.std.proofs.Common.{◌≡◌, ◌⊎◌, inl, inr, ℕ, Bool, true, false, cond, ◌||◌, List, [], ◌∷◌, ◌++◌, length, Option, Some, None, is_some, refl, sym, ap, ◌∙◌, subst, true≢false}
use Rattle.std.specs.Option.{unwrap_or}
use Rattle.std.proofs.lemmas.Bool.{or_cases, or_left, or_right}
use Rattle.std.proofs.lemmas.List.{append_assoc}
use Rattle.std.proofs.lemmas.List.Folds.{list_any-append}
use Rattle.jc_types.specs.declared.actions.Fault.{Fault}
use Rattle.jc_types.specs.declared.actions.Fault.TheVariants as fault
use Rattle.jc_types.specs.declared.numbers.Uid.{Uid}
use Rattle.jc_types.specs.declared.numbers.Version.{Version}
use Rattle.jc_types.specs.declared.objects.Entry.{Entry}
use Rattle.jc_types.specs.declared.objects.Job.{Job}
use Rattle.jc_types.specs.declared.replies.Answer.{Answer}
use Rattle.jc_types.specs.declared.replies.Answer.TheVariants as answer
use Rattle.jc_types.specs.declared.replies.Reply.TheVariants as reply
use Rattle.jc_types.specs.declared.statuses.JobStatus.{JobStatus}
use Rattle.jc_log.specs.Requests.{Answered, grown}
use Rattle.jc_log.specs.Deeds.{Deed}
use Rattle.jc_types.specs.Keys.{same_uid}
use Rattle.jc_states.specs.PodLists.{IsRising}
use Rattle.jc_log.specs.Log.{next_version}
use Rattle.jc_types.specs.Equality.{same_status}
use Rattle.jc_states.specs.UidLists.{is_in}
use Rattle.jc_log.specs.Writes.{Stored}
use Rattle.jc_plan.specs.Plans.{planned}
use Rattle.jc_plan.specs.Statuses.{first_value}
use Rattle.jc_ledger.specs.declared.flights.Flight.{Flight}
use Rattle.jc_ledger.specs.EventKinds.{began, with_released}
use Rattle.jc_ledger.specs.Flights.{Flies}
use Rattle.jc_ledger.specs.Syncs.{began_of, step_sync}
use Rattle.jc_ledger.specs.Tied.{Tied}
use Rattle.jc_ledger.proofs.QuietFacts.{IfSome-of, tied_dropped, tied_quiet}
use Rattle.jc_asks.specs.declared.asks.Ask.{Ask}
use Rattle.jc_asks.specs.declared.asks.Ask.TheVariants.{MakePod, MarkPod, LetPodGo, WriteFirst, ReleasePod, WriteSecond}
use Rattle.jc_asks.specs.Asks.{writes_status, asks_of, early_asks, is_gone, asks_after, as_request}
use Rattle.jc_sync.specs.SyncPlaces.{IsUnder, Before, After, IsAt, Under, Over, IfGoesOn}
use Rattle.jc_asks.specs.Steps.{SyncEnd, Stepped, as_answer, answered_to, end_given, first_answered, flight_after, flights_of, IsStepOf, next_unless, status_gives, written_gives, stepped_at}
use Rattle.jc_sync.proofs.ApiFacts.{StatusCases, Accepted, Same, Conflicts, Absent, status_cases}
use Rattle.jc_sync.proofs.EntryFacts.{quiet-by}
use Rattle.jc_sync.proofs.MakeFacts.{make_ties, mark_ties}
use Rattle.jc_sync.proofs.PlaceFacts.{IsEarlyAsk, at_early, at_first, at_release, at_second, IsFirstAsk, IsReleaseAsk}
use Rattle.jc_plan.proofs.PlanFacts.{plan-first}
use Rattle.jc_sync.proofs.PlanFacts.{changed-some, plan-no_first}
use Rattle.jc_sync.proofs.SeenFacts.{early_all}
use Rattle.jc_sync.proofs.StatusFacts.{first_ties, not_same, second_ties}
use Rattle.jc_sync.proofs.TakeFacts.{let_go_ties, release_ties}

-- ---- where a sync begins

pub begun_under : (flight : Flight) → IsRising flight.basis.pods → flight.written ≡ None → IsUnder flight (asks_of (planned flight.basis))
begun_under flight rising unwritten = Before (early_asks (planned flight.basis)) refl (early_all flight.basis rising) unwritten

pub begun_at : (flight : Flight) → IsRising flight.basis.pods → flight.written ≡ None → IsAt flight (asks_of (planned flight.basis))
begun_at flight rising unwritten = Under (begun_under flight rising unwritten)

-- ---- where it stands after an answer

pub first_basis : (first : Option JobStatus) (given : Answer) (flight : Flight) → (first_answered first given flight).basis ≡ flight.basis
first_basis first (answer.Written v) flight = refl
first_basis first other flight = refl

-- An answer keeps the basis.
pub after_basis : (ask : Ask) (given : Answer) (flight : Flight) → (flight_after ask given flight).basis ≡ flight.basis
after_basis WriteFirst given flight = first_basis (planned flight.basis).first given flight
after_basis (ReleasePod u) given flight = refl
after_basis other given flight = refl

module _ (log : List Entry) (now : ℕ) (flight : Flight) where
  early_next : (ask : Ask) (left : List Ask) → IsEarlyAsk flight ask left → IsUnder flight left
  early_next ask left early = Before early.front early.is early.others early.unwritten

  let_go_next : (u : Uid) (left : List Ask) (ask : Ask) → IsEarlyAsk flight ask left → (b : Bool) → IsUnder flight (cond b (MarkPod u ∷ left) left)
  let_go_next u left ask early true = Before (MarkPod u ∷ early.front) (ap (λ l. MarkPod u ∷ l) early.is) (tt, early.others) early.unwritten
  let_go_next u left ask early false = early_next ask left early

  release_next : (u : Uid) (left : List Ask) → IsReleaseAsk flight u left → IsUnder (with_released flight u) left
  release_next u left ask =
      After (ask.made ++ u ∷ []) ask.rest (ask.are ∙ sym (append_assoc ask.made (u ∷ []) ask.rest)) ask.is ask.knows
      (λ v h. list_any-append (λ w. same_uid w v) flight.released (u ∷ []) ∙ both v (or_cases (is_in v ask.made) (is_in v (u ∷ [])) (sym (list_any-append (λ w. same_uid w v) ask.made (u ∷ [])) ∙ h)))
    where
      both : (v : Uid) → (is_in v ask.made ≡ true) ⊎ (is_in v (u ∷ []) ≡ true) → (is_in v flight.released || is_in v (u ∷ [])) ≡ true
      both v (inl old) = or_left (is_in v flight.released) (is_in v (u ∷ [])) (ask.released v old)
      both v (inr new) = or_right (is_in v flight.released) (is_in v (u ∷ [])) new

  -- Of a request on pods, whatever its answer.
  pub pod_next : (ask : Ask) (left : List Ask) (given : Answer) → writes_status ask ≡ false → IsAt flight (ask ∷ left) → IsUnder (flight_after ask given flight) (asks_after ask given left)
  pod_next (MakePod index) left given pod at = early_next (MakePod index) left (at_early flight (MakePod index) left refl at)
  pod_next (MarkPod u) left given pod at = early_next (MarkPod u) left (at_early flight (MarkPod u) left refl at)
  pod_next (LetPodGo u v) left given pod at = let_go_next u left (LetPodGo u v) (at_early flight (LetPodGo u v) left refl at) (is_gone given)
  pod_next WriteFirst left given pod at = absurd (true≢false pod)
  pod_next (ReleasePod u) left given pod at = release_next u left (at_release flight u left at)
  pod_next WriteSecond left given pod at = absurd (true≢false pod)

  -- Of a first status that was written, at the version.
  pub first_next : (left : List Ask) (v : Version) (job : Job) → flight.basis.job ≡ Some job → IsFirstAsk flight left
      → IsUnder (record flight { written = (planned flight.basis).first; sends = v }) left
  first_next left v job is ask =
      let change = changed-some job.status (first_value job flight.basis) ask.status (sym (plan-first flight.basis job is) ∙ ask.first) in
      After [] (planned flight.basis).releases refl ask.is
      (IfSome-of flight.basis.job (λ j. unwrap_or (planned flight.basis).first j.status ≡ first_value j flight.basis)
      (λ j there. ap (λ o. unwrap_or o j.status) ask.first ∙ change.is ∙ ap (λ (o : Option Job). first_value (unwrap_or o job) flight.basis) (sym is ∙ there)))
      (λ u h. absurd (true≢false (sym h)))

module _ (log : List Entry) (now : ℕ) (flight : Flight) (stored : Stored log) (flies : Flies log flight) where
  abbrev AtNext : Ask → List Ask → Answered → Type 0
  AtNext ask left a = end_given ask (as_answer a.reply) ≡ None → IsAt (flight_after ask (as_answer a.reply) flight) (asks_after ask (as_answer a.reply) left)

  first_at : (left : List Ask) (job : Job) → flight.basis.job ≡ Some job → (ask : IsFirstAsk flight left)
      → (a : Answered) → StatusCases log flight.basis.key job.uid flight.sends ask.status a → AtNext WriteFirst left a
  first_at left job is ask a (Accepted current there own at differs e) =
      subst (AtNext WriteFirst left) (sym e) (λ goes. Under (first_next log now flight left (next_version log) job is ask))
  first_at left job is ask a (Same current there own at same e) =
      let change = changed-some job.status (first_value job flight.basis) ask.status (sym (plan-first flight.basis job is) ∙ ask.first) in
      absurd (not_same log flight job current ask.status stored flies is there at
      (ap (λ (w : Option JobStatus). same_status (unwrap_or w job.status) ask.status) ask.unwritten ∙ ap (same_status job.status) change.is ∙ change.differs) same)
  first_at left job is ask a (Conflicts current there own other e) = subst (AtNext WriteFirst left) (sym e) (λ goes. absurd (true≢false (ap is_some goes)))
  first_at left job is ask a (Absent gone e) = subst (AtNext WriteFirst left) (sym e) (λ goes. absurd (true≢false (ap is_some goes)))

  pub asked_next : (ask : Ask) (left : List Ask) → IsAt flight (ask ∷ left) → AtNext ask left (answered_to log now flight ask)
  asked_next (MakePod index) left at = λ goes. Under (pod_next log now flight (MakePod index) left (as_answer (answered_to log now flight (MakePod index)).reply) refl at)
  asked_next (MarkPod u) left at = λ goes. Under (pod_next log now flight (MarkPod u) left (as_answer (answered_to log now flight (MarkPod u)).reply) refl at)
  asked_next (LetPodGo u v) left at = λ goes. Under (pod_next log now flight (LetPodGo u v) left (as_answer (answered_to log now flight (LetPodGo u v)).reply) refl at)
  asked_next WriteFirst left at = subst (λ o. AtNext WriteFirst left (written_gives log flight o)) (sym ask.first) (by flight.basis.job refl)
    where
      ask : IsFirstAsk flight left
      ask = at_first flight left at

      by : (o : Option Job) → flight.basis.job ≡ o → AtNext WriteFirst left (status_gives log flight ask.status o)
      by None is = absurd (true≢false (ap is_some (sym ask.first ∙ plan-no_first flight.basis is)))
      by (Some job) is = first_at left job is ask (status_gives log flight ask.status (Some job)) (status_cases log flight.basis.key job.uid flight.sends ask.status)
  asked_next (ReleasePod u) left at = λ goes. Under (pod_next log now flight (ReleasePod u) left (as_answer (answered_to log now flight (ReleasePod u)).reply) refl at)
  asked_next WriteSecond left at = λ goes. let ask = at_second flight left at in Over ask.is ask.released

  -- The sync goes on to its next place.
  pub stepped_next : (pending : Option Fault) (left : List Ask) → IsAt flight left → IfGoesOn (stepped_at now pending log flight left).next (λ s. IsAt s.flight s.left)
  stepped_next pending [] at = tt
  stepped_next None (ask ∷ left) at = by (end_given ask given) (asked_next ask left at)
    where
      given : Answer
      given = as_answer (answered_to log now flight ask).reply

      by : (o : Option SyncEnd) → (o ≡ None → IsAt (flight_after ask given flight) (asks_after ask given left))
          → IfGoesOn (next_unless o (record { flight = flight_after ask given flight; left = asks_after ask given left })) (λ s. IsAt s.flight s.left)
      by None at = at refl
      by (Some end) at = tt
  stepped_next (Some fault.Drop) (ask ∷ left) at = tt
  stepped_next (Some fault.Lose) (ask ∷ left) at = tt

-- ---- what ties

module _ (d : Deed) (past : List Deed) (log : List Entry) (front back : List Flight) (flight : Flight) (now : ℕ)
    (t : Tied past log (front ++ flight ∷ back)) where
  -- With the request's answer, whatever the sync was told.
  pub asked_ties : (ask : Ask) (left : List Ask) (given : Answer) → IsAt flight (ask ∷ left) → d.reply ≡ reply.Stepped (as_request ask) given → step_sync d past ≡ Some (began flight.basis)
      → d.length.0 ≡ length (grown log (answered_to log now flight ask).entry) → Stored (grown log (answered_to log now flight ask).entry)
      → Tied (d ∷ past) (grown log (answered_to log now flight ask).entry) (front ++ flight_after ask (as_answer (answered_to log now flight ask).reply) flight ∷ back)
  asked_ties (MakePod index) left given at told sync = make_ties d past log front back flight given t index now (at_early flight (MakePod index) left refl at).early told
  asked_ties (MarkPod u) left given at told sync = mark_ties d past log front back flight given t u now told
  asked_ties (LetPodGo u v) left given at told sync = let_go_ties d past log front back flight given t u v (at_early flight (LetPodGo u v) left refl at).early told
  asked_ties WriteFirst left given at told sync = first_ties d past log front back flight given t told sync left (at_first flight left at)
  asked_ties (ReleasePod u) left given at told sync = release_ties d past log front back flight given t u left (at_release flight u left at) told
  asked_ties WriteSecond left given at told sync = second_ties d past log front back flight given t told sync left (at_second flight left at)

  abbrev Step : Stepped → Type 0
  Step step = IsStepOf d past log flight step → Stored (grown log step.entry) → Tied (d ∷ past) (grown log step.entry) (front ++ (flights_of step.next ++ back))

  -- A step of the sync, under a fault and without.
  pub stepped_ties : (pending : Option Fault) (left : List Ask) → IsAt flight left → Step (stepped_at now pending log flight left)
  stepped_ties pending [] at = λ s kept.
      tied_dropped (d ∷ past) log front (flight ∷ []) back
      (tied_quiet d past log (front ++ flight ∷ back) t (quiet-by d log (ap began_of s.reply) s.length_is))
  stepped_ties None (ask ∷ left) at = λ s kept.
      by (end_given ask given) (asked_ties ask left given at s.reply s.sync s.length_is kept)
    where
      given : Answer
      given = as_answer (answered_to log now flight ask).reply

      by : (o : Option SyncEnd)
          → Tied (d ∷ past) (grown log (answered_to log now flight ask).entry) (front ++ flight_after ask given flight ∷ back)
          → Tied (d ∷ past) (grown log (answered_to log now flight ask).entry) (front ++ (flights_of (next_unless o (record { flight = flight_after ask given flight; left = asks_after ask given left })) ++ back))
      by None tied = tied
      by (Some end) tied = tied_dropped (d ∷ past) (grown log (answered_to log now flight ask).entry) front (flight_after ask given flight ∷ []) back tied
  stepped_ties (Some fault.Drop) (ask ∷ left) at = λ s kept.
      tied_dropped (d ∷ past) log front (flight ∷ []) back
      (tied_quiet d past log (front ++ flight ∷ back) t (quiet-by d log (ap began_of s.reply) s.length_is))
  stepped_ties (Some fault.Lose) (ask ∷ left) at = λ s kept.
      tied_dropped (d ∷ past) (grown log (answered_to log now flight ask).entry) front (flight_after ask (as_answer (answered_to log now flight ask).reply) flight ∷ []) back
      (asked_ties ask left _ at s.reply s.sync s.length_is kept)
