-- Pods are bounded in a settle: turn by turn, and event by event.
use Rattle.std.proofs.Common.{◌≡◌, ◌⊎◌, inl, inr, ℕ, zero, suc, ◌+◌, ◌-◌, ◌≤◌, nat_lt, Bool, true, false, List, [], ◌∷◌, None, refl, sym, ap, ◌∙◌, subst, arith, ltb-true, ltb-false, slice_get, true≢false}
use Rattle.std.specs.Option.{option_map}
use Rattle.jc_types.specs.declared.actions.End.{End}
use Rattle.jc_types.specs.declared.objects.Job.{Job}
use Rattle.jc_types.specs.declared.runs.Shape.{Shape}
use Rattle.jc_types.specs.declared.runs.Sys.{Sys}
use Rattle.jc_log.specs.Deeds.{Deed, act_of_system}
use Rattle.jc_log.specs.Log.{job_in, made_for}
use Rattle.jc_log.proofs.WriteFacts.{job_in-key}
use Rattle.jc_runs.specs.Available.{available, is_empty, is_quiescent}
use Rattle.jc_runs.specs.Basis.{Basis}
use Rattle.jc_runs.specs.Replies.{log_given, next_deed}
use Rattle.jc_settle.specs.Settles.{settled_on}
use Rattle.jc_settle.proofs.OnFacts.{on-adds, on-none}
use Rattle.jc_calm.specs.SettleTurns.{Asks, ClockMoves, EndsAtOnce, Fails, Finds, MeetsFault, NodeActs, Rests, Turn, Writes, WritesAndAsks}
use Rattle.jc_calm.proofs.GoFacts.{goes-on}
use Rattle.jc_making.specs.Nodes.{fate}
use Rattle.jc_bearing.specs.AtMost.{pods_at_most}
use Rattle.jc_counted.proofs.CountedFacts.{Stay}
use Rattle.jc_bounded.specs.Faultless.{IsBetweenTurns, IsFaultless, SucceedsAtLast, TurnsOver, UsesUpAFault, made_on}
use Rattle.jc_bounded.proofs.NodeTurns.{clock-turns, fates-then, goes-to, node-turns}
use Rattle.jc_bounded.proofs.OnwardFacts.{on-more}
use Rattle.jc_bounded.proofs.SyncTurns.{sync-turns}

-- ---- a turn

module _ (stay : Stay) (shape : Shape) (past : List Deed) (f : IsBetweenTurns shape past) where
  -- A sync that finds nothing to do.
  found : (c w : ℕ) (basis : Basis) (begin end : Deed) → EndsAtOnce shape past c w basis begin end → TurnsOver shape past
  found c w basis begin end h = record {
    events = 2;
    now = end ∷ begin ∷ past;
    are = h.after;
    some = omega arith;
    between = goes-to shape past 2 (end ∷ begin ∷ past) h.after f h.calm;
    faults = h.faults;
    fates = fates-then shape past 2 (end ∷ begin ∷ past) h.after;
    jobs = λ ends job well. record {
      now = job;
      there = ap (job_in job.key) h.log_is ∙ well.there;
      uid = refl;
      few = let same : pods_at_most ends (log_given shape (end ∷ begin ∷ past)) job ≡ pods_at_most ends (log_given shape past) job = ap (λ log. pods_at_most ends log job) h.log_is in omega (arith, same);
    };
  }

  -- One that meets a fault.
  failed-turns : (c w : ℕ) (begin failed : Deed) → MeetsFault shape past c w begin failed → UsesUpAFault shape past
  failed-turns c w begin failed h = record {
    events = h.events;
    now = settled_on shape h.events past;
    are = refl;
    between = goes-to shape past h.events (settled_on shape h.events past) refl f h.calm;
    fates = fates-then shape past h.events (settled_on shape h.events past) refl;
    fewer = h.fewer;
  }

  pub any-turn : (is_quiescent shape past (log_given shape past) ≡ true) ⊎ (UsesUpAFault shape past ⊎ TurnsOver shape past)
  any-turn = by (goes-on shape past f.workers f.start f.legal f.calm)
    where
      by : Turn shape past → (is_quiescent shape past (log_given shape past) ≡ true) ⊎ (UsesUpAFault shape past ⊎ TurnsOver shape past)
      by (Rests rests) = inl rests
      by (NodeActs d e a) = inr (inr (node-turns stay shape past f d e a))
      by (ClockMoves d due h) = inr (inr (clock-turns stay shape past f d h.next due h))
      by (Finds c w basis begin end b h) = inr (inr (found c w basis begin end h))
      by (Asks c w basis begin b fine h at asked) = inr (inr (sync-turns stay shape past f c w basis begin b fine))
      by (WritesAndAsks c w basis job status begin write b h asks asked) = inr (inr (sync-turns stay shape past f c w basis begin b h.no_fault))
      by (Writes c w basis job status begin write b h m) = inr (inr (sync-turns stay shape past f c w basis begin b h.no_fault))
      by (Fails c w basis begin failed b h) = inr (inl (failed-turns c w begin failed h))

-- Where no fault is pending none is used up.
pub turns-over : (stay : Stay) (shape : Shape) (past : List Deed) → IsFaultless shape past → (is_quiescent shape past (log_given shape past) ≡ true) ⊎ TurnsOver shape past
turns-over stay shape past f = by (any-turn stay shape past f.between)
  where
    by : (is_quiescent shape past (log_given shape past) ≡ true) ⊎ (UsesUpAFault shape past ⊎ TurnsOver shape past) → (is_quiescent shape past (log_given shape past) ≡ true) ⊎ TurnsOver shape past
    by (inl rests) = inl rests
    by (inr (inl h)) = let fewer = h.fewer in let none = f.faults in absurd (omega (arith, fewer, none))
    by (inr (inr t)) = inr t

-- And then none is pending still.
pub still-faultless : (shape : Shape) (past : List Deed) → IsFaultless shape past → (t : TurnsOver shape past) → IsFaultless shape t.now
still-faultless shape past f t = record { between = t.between; faults = let few = t.faults in let none = f.faults in omega (arith, few, none) }

-- ---- all of them

-- Where nothing is available a settle adds nothing.
rests-on : (shape : Shape) (past : List Deed) (n : ℕ) → is_quiescent shape past (log_given shape past) ≡ true → settled_on shape n past ≡ past
rests-on shape past n h = on-none shape n past (by (available shape past (log_given shape past)) h)
  where
    by : (xs : List Sys) → is_empty xs ≡ true → option_map (λ event. next_deed shape past None (act_of_system event)) (slice_get xs 0) ≡ None
    by [] e = refl
    by (x ∷ xs) e = absurd (true≢false (sym e))

module _ (stay : Stay) (shape : Shape) (ends : List End) where
  -- No pod is made beyond those that are allowed at the state.
  abbrev StaysWithin : ℕ → List Deed → Type 0
  StaysWithin n past = (job : Job) → SucceedsAtLast shape past ends job → made_on shape n past job ≤ pods_at_most ends (log_given shape past) job

  -- Behind a turn.
  module _ (past : List Deed) (t : TurnsOver shape past) where
    turned : (m : ℕ) → StaysWithin m t.now → StaysWithin (t.events + m) past
    turned m within job well =
        let all = t.jobs ends job well in
        let keyed : all.now.key ≡ job.key = job_in-key job.key (log_given shape t.now) all.now all.there in
        let least = within all.now (record { there = ap (λ k. job_in k (log_given shape t.now)) keyed ∙ all.there; fated = ap (fate t.now) keyed ∙ t.fates job.key ∙ well.fated; last = well.last }) in
        let few = all.few in
        let same : made_on shape (t.events + m) past job ≡ made_on shape m t.now all.now =
        (λ i. made_for (sym all.uid i) (log_given shape ((on-adds shape t.events m past ∙ ap (settled_on shape m) t.are) i))) in
        omega (arith, least, few, same)

    -- In the middle of it.
    midway : (n m : ℕ) → n + m ≡ t.events → StaysWithin 0 t.now → StaysWithin n past
    midway n m sum within job well =
        let all = turned 0 within job well in
        let more = on-more shape m (settled_on shape n past) job.uid in
        let same : made_for job.uid (log_given shape (settled_on shape m (settled_on shape n past))) ≡ made_for job.uid (log_given shape (settled_on shape (t.events + 0) past)) =
        ap (λ deeds. made_for job.uid (log_given shape deeds)) (sym (on-adds shape n m past) ∙ ap (λ k. settled_on shape k past) (sum ∙ none)) in
        omega (arith, all, more, same)
      where
        none : t.events ≡ t.events + 0
        none = omega arith

  -- At once.
  at-once : (past : List Deed) → StaysWithin 0 past
  at-once past job well = omega arith

  -- By how many events there are.
  within : (most n : ℕ) (past : List Deed) → n ≤ most → IsFaultless shape past → StaysWithin n past
  within most zero past le f = at-once past
  within zero (suc n) past le f = absurd (omega (arith, le))
  within (suc most) (suc n) past le f = by (turns-over stay shape past f) (λ m now lt g. within most m now lt g)
    where
      by : (is_quiescent shape past (log_given shape past) ≡ true) ⊎ TurnsOver shape past → ((m : ℕ) (now : List Deed) → m ≤ most → IsFaultless shape now → StaysWithin m now) → StaysWithin (suc n) past
      by (inl rests) more = subst (λ deeds. (job : Job) → SucceedsAtLast shape past ends job → made_for job.uid (log_given shape deeds) ≤ pods_at_most ends (log_given shape past) job) (sym (rests-on shape past (suc n) rests)) (at-once past)
      by (inr t) more = at (nat_lt (suc n) t.events) refl
        where
          at : (s : Bool) → nat_lt (suc n) t.events ≡ s → StaysWithin (suc n) past
          at true s =
              let lt = ltb-true (suc n) t.events s in
              let sum : suc n + (t.events - suc n) ≡ t.events = omega (arith, lt) in
              midway past t (suc n) (t.events - suc n) sum (at-once t.now)
          at false s =
              let ge = ltb-false (suc n) t.events s in let some = t.some in
              let sum : t.events + (suc n - t.events) ≡ suc n = omega (arith, ge) in
              let few : suc n - t.events ≤ most = omega (arith, ge, some, le) in
              subst (λ k. StaysWithin k past) sum (turned past t (suc n - t.events) (more (suc n - t.events) t.now few (still-faultless shape past f t)))

  pub stays-within : (n : ℕ) (past : List Deed) → IsFaultless shape past → StaysWithin n past
  stays-within n past f = within n n past (omega arith) f
