-- The events of a sync on one thread.
use Rattle.std.proofs.Common.{◌≡◌, ℕ, ◌+◌, ◌-◌, ◌<◌, ◌≤◌, true, false, List, [], ◌∷◌, ◌++◌, map, slice_get, Option, Some, None, is_none, is_some, refl, sym, ap, ◌∙◌, subst, true≢false}
use Rattle.std.proofs.lemmas.List.{map-append}
use Rattle.std.specs.List.{AllByRecursion as Each}
use Rattle.jc_log.specs.Acts as does
use Rattle.jc_types.specs.declared.replies.Reply.{Reply}
use Rattle.jc_types.specs.declared.runs.Event.{Event}
use Rattle.jc_types.specs.declared.runs.Past.{Past}
use Rattle.jc_types.specs.declared.runs.Shape.{Shape}
use Rattle.jc_runs.specs.Basis.{Basis}
use Rattle.jc_log.specs.Deeds.{deed}
use Rattle.jc_history.specs.Registers.{register}
use Rattle.jc_history.specs.Replies.{diary}
use Rattle.jc_runs.specs.QuietRuns.{AreSteps}
use Rattle.jc_runs.specs.Seen.{Admits, Seen, deeds_in, deeds_seen, happened, past_seen, reply_seen}
use Rattle.jc_machine.specs.DiariesSeen.{diary_seen}
use Rattle.jc_machine.specs.SyncsSeen.{IsLast, StepsOn, begin_event, stepping_event}

module _ (c w : ℕ) where
  -- A begin and a step may come next at any time.
  pub admits-begin : (seen : Seen) → c < seen.shape.controllers → w < seen.shape.workers → Admits seen (begin_event c w)
  admits-begin seen of_shape worker = record { next = tt; within = (of_shape, worker); settled = tt; doable = tt }

  pub admits-step : (seen : Seen) → c < seen.shape.controllers → w < seen.shape.workers → Admits seen (stepping_event c w)
  admits-step seen of_shape worker = record { next = tt; within = (of_shape, worker); settled = tt; doable = tt }

  -- At first no step was made.
  pub steps-none : (old : Seen) → StepsOn c w old old
  steps-none old = record { run = []; script = refl; shape = refl; pasts = refl; events = tt; steps = tt }

  not-none : (o : Option Basis) → is_none o ≡ false → is_some o ≡ true
  not-none None e = absurd (true≢false e)
  not-none (Some x) e = refl

  -- What is seen after these steps.
  abbrev after : Seen → List Past → Seen
  after old run = record { script = old.script; shape = old.shape; pasts = run ++ old.pasts }

  noted-after : (old : Seen) (run : List Past) → diary_seen (after old run) c ≡ diary old.shape c (deeds_in old.script run ++ deeds_seen old)
  noted-after old run = ap (λ deeds. diary old.shape c deeds) (map-append (deed old.script) run old.pasts)

  one-at : (old : Seen) (run : List Past) → Each (λ (past : Past). past.event ≡ stepping_event c w) run
      → AreSteps old.shape c w (deeds_in old.script run) (deeds_seen old)
      → is_none (register w (diary_seen (after old run) c)) ≡ false
      → StepsOn c w old (happened (after old run) (stepping_event c w))
  one-at old run events steps busy = record {
    run = past_seen (after old run) (stepping_event c w) ∷ run;
    script = refl;
    shape = refl;
    pasts = refl;
    events = (refl, events);
    steps = (refl, ap (λ n. is_some (register w n)) (sym (noted-after old run)) ∙ not-none (register w (diary_seen (after old run) c)) busy, steps);
  }

  -- One more step.
  pub steps-one : (old mid new : Seen) → StepsOn c w old mid → is_none (register w (diary_seen mid c)) ≡ false → new ≡ happened mid (stepping_event c w) → StepsOn c w old new
  steps-one old mid new on busy is =
      subst (λ s. StepsOn c w old s) (sym (is ∙ ap (λ s. happened s (stepping_event c w)) same))
      (one-at old on.run on.events on.steps (ap (λ s. is_none (register w (diary_seen s c))) (sym same) ∙ busy))
    where
      same : mid ≡ after old on.run
      same = λ i. record { script = on.script i; shape = on.shape i; pasts = on.pasts i }

  -- The shape stays.
  pub same-controllers : (old mid : Seen) → StepsOn c w old mid → c < old.shape.controllers → c < mid.shape.controllers
  same-controllers old mid on h = subst (λ (s : Shape). c < s.controllers) (sym on.shape) h

  pub same-workers : (old mid : Seen) → StepsOn c w old mid → w < old.shape.workers → w < mid.shape.workers
  same-workers old mid on h = subst (λ (s : Shape). w < s.workers) (sym on.shape) h

  pub same-events : (old mid : Seen) → StepsOn c w old mid → (n : ℕ) → mid.shape.events ≤ n → old.shape.events ≤ n
  same-events old mid on n h = subst (λ (s : Shape). s.events ≤ n) on.shape h

  pub events-same : (old mid : Seen) → StepsOn c w old mid → (n : ℕ) → old.shape.events ≤ n → mid.shape.events ≤ n
  events-same old mid on n h = subst (λ (s : Shape). s.events ≤ n) (sym on.shape) h

-- The newest reply is that of the event that has happened.
pub last-one : (mid new : Seen) (event : Event) (r : Reply) → new ≡ happened mid event → r ≡ reply_seen mid event → IsLast r new.pasts
last-one mid new event r is told = ap (λ (s : Seen). slice_get (map (λ (past : Past). past.reply) s.pasts) 0) is ∙ ap (λ r. Some r) (sym told)
