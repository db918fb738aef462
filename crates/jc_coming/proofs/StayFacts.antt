-- Conditions that a sync leaves as they are: then it decides nothing, its Job does not begin, and at another moment it
-- leaves them too.
use Rattle.std.proofs.Common.{◌≡◌, ℕ, ◌≤◌, Bool, true, false, cond, not, ◌&&◌, ◌||◌, List, [], ◌∷◌, ◌++◌, map, find, length, Option, Some, None, is_none, is_some, option_map, refl, sym, ap, ◌∙◌, arith, true≢false}
use Rattle.std.specs.List.{list_any}
use Rattle.jc_types.specs.declared.objects.Job.{Job}
use Rattle.jc_types.specs.declared.statuses.CondKind.{CondKind}
use Rattle.jc_types.specs.declared.statuses.CondKind.TheVariants.{Complete, Failed, Suspended}
use Rattle.jc_types.specs.declared.statuses.Condition.{Condition}
use Rattle.jc_types.specs.declared.statuses.Reason.{Reason}
use Rattle.jc_types.specs.Equality.{same_bool}
use Rattle.jc_types.proofs.EqualityFacts.{bool-exact}
use Rattle.jc_states.specs.Conditions.{has_end, has_target, stands}
use Rattle.jc_finish.specs.Settled.{end_kind, end_of, in_place, is_suspension, is_target, settled, settled_suspended, suspension, true_since, with_end, with_last, with_suspension}
use Rattle.jc_finish.specs.Starts.{begins, start_of}
use Rattle.jc_finish.proofs.SettledFacts.{settled-suspended}
use Rattle.jc_plan.specs.Statuses.{completed_at, conditions_at}
use Rattle.jc_coming.proofs.Lists.{length-last, length-mapped, not-longer}

-- ---- no step leaves fewer conditions

longer-last : (o : Option Condition) (cs : List Condition) → length cs ≤ length (with_last o cs)
longer-last None cs = omega arith
longer-last (Some last) cs = let more = length-last cs last in omega (arith, more)

longer-suspended : (now : ℕ) (suspend b : Bool) (cs : List Condition) → length cs ≤ length (settled_suspended now suspend b cs)
longer-suspended now suspend b cs = by (b || has_target cs || same_bool suspend (stands Suspended cs)) (list_any is_suspension cs)
  where
    by : (t s : Bool) → length cs ≤ length (cond t cs (cond s (map (in_place (suspension now suspend)) cs) (cs ++ suspension now suspend ∷ [])))
    by true s = omega arith
    by false true = let same = length-mapped (in_place (suspension now suspend)) cs in omega (arith, same)
    by false false = let more = length-last cs (suspension now suspend) in omega (arith, more)

longer-end : (now : ℕ) (due : Bool) (cs : List Condition) → length cs ≤ length (with_end now due cs)
longer-end now due cs = by (due && not (has_end cs))
  where
    by : (b : Bool) → length cs ≤ length (cond b (with_last (end_of now cs) cs) cs)
    by true = longer-last (end_of now cs) cs
    by false = omega arith

module _ (now : ℕ) (suspend : Bool) (target : Option (CondKind × Reason)) (due : Bool) (cs : List Condition) (stays : settled now suspend target due cs ≡ cs) where
  -- ---- nothing is decided

  pub none-decided : target ≡ None
  none-decided = by target refl
    where
      by : (o : Option (CondKind × Reason)) → target ≡ o → target ≡ None
      by None e = e
      by (Some pair) e =
          let before = settled_suspended now suspend true cs in
          let long = ap length (ap (λ o. settled now suspend o due cs) (sym e) ∙ stays) in
          let first = longer-suspended now suspend true cs in
          let more = length-last before (true_since now pair.0 pair.1) in
          let last = longer-end now due (before ++ true_since now pair.0 pair.1 ∷ []) in
          absurd (omega (arith, long, first, more, last))

  stays-none : settled now suspend None due cs ≡ cs
  stays-none = ap (λ o. settled now suspend o due cs) (sym none-decided) ∙ stays

  -- ---- the Suspended condition stands just where the Job is suspended

  pub suspended : has_target cs ≡ false → stands Suspended cs ≡ suspend
  suspended e = ap (stands Suspended) (sym stays-none) ∙ settled-suspended now suspend due cs e

  steady : (has_target cs || same_bool suspend (stands Suspended cs)) ≡ true
  steady = by (has_target cs) refl
    where
      by : (t : Bool) → has_target cs ≡ t → (t || same_bool suspend (stands Suspended cs)) ≡ true
      by true e = refl
      by false e = (bool-exact suspend (stands Suspended cs)).1 (sym (suspended e))

  still : (later : ℕ) → settled_suspended later suspend false cs ≡ cs
  still later = ap (λ b. cond b cs (with_suspension (suspension later suspend) cs)) steady

  -- ---- no end is new

  endless : (later : ℕ) → with_end later due cs ≡ cs
  endless later = by (due && not (has_end cs)) refl
    where
      at-now : with_end now due cs ≡ cs
      at-now = ap (with_end now due) (sym (still now)) ∙ stays-none

      by : (b : Bool) → (due && not (has_end cs)) ≡ b → cond b (with_last (end_of later cs) cs) cs ≡ cs
      by false e = refl
      by true e = found (find is_target cs) refl
        where
          now-is : with_last (end_of now cs) cs ≡ cs
          now-is = sym (ap (λ b. cond b (with_last (end_of now cs) cs) cs) e) ∙ at-now

          at : ℕ → Option Condition → List Condition
          at t o = with_last (option_map (λ (target : Condition). true_since t (end_kind target.kind) target.reason) o) cs

          found : (o : Option Condition) → find is_target cs ≡ o → at later o ≡ cs
          found None f = refl
          found (Some one) f = absurd (not-longer cs (true_since now (end_kind one.kind) one.reason) (ap (at now) (sym f) ∙ now-is))

  -- At each moment the conditions stay.
  pub stays-later : (later : ℕ) → settled later suspend None due cs ≡ cs
  stays-later later = ap (with_end later due) (still later) ∙ endless later

-- ---- the Job does not begin

-- Where its start stays, and it is suspended just where the condition stands.
pub none-begins : (now : ℕ) (suspend : Bool) (start : Option ℕ) (cs : List Condition) → (has_target cs ≡ false → stands Suspended cs ≡ suspend)
    → cond (begins suspend start cs) (Some now) start ≡ start → begins suspend start cs ≡ false
none-begins now suspend start cs h stays = by suspend refl (has_target cs) refl (has_end cs) start (stands Suspended cs) refl stays
  where
    by : (s : Bool) → suspend ≡ s → (t : Bool) → has_target cs ≡ t → (e : Bool) (o : Option ℕ) (w : Bool) → stands Suspended cs ≡ w
        → cond (not s && (not (t || e) && (is_none o || w))) (Some now) o ≡ o → (not s && (not (t || e) && (is_none o || w))) ≡ false
    by true i t j e o w k g = refl
    by false i true j e o w k g = refl
    by false i false j true o w k g = refl
    by false i false j false None w k g = absurd (true≢false (ap is_some g))
    by false i false j false (Some x) false k g = refl
    by false i false j false (Some x) true k g = absurd (true≢false (sym k ∙ h j ∙ i))

-- ---- a Job whose start and conditions stay

module _ (now : ℕ) (job : Job) (target : Option (CondKind × Reason)) (due : Bool) (start : start_of now job.spec job.status ≡ job.status.start) (conditions : conditions_at now job target due ≡ job.status.conditions) where
  pub target-none : target ≡ None
  target-none = none-decided now job.spec.suspend target due job.status.conditions conditions

  pub not-begun : begins job.spec.suspend job.status.start job.status.conditions ≡ false
  not-begun = none-begins now job.spec.suspend job.status.start job.status.conditions (suspended now job.spec.suspend target due job.status.conditions conditions) start

  pub start-later : (later : ℕ) → start_of later job.spec job.status ≡ job.status.start
  start-later later = ap (λ b. cond b (Some later) job.status.start) not-begun

  pub conditions-later : (later : ℕ) → conditions_at later job None due ≡ job.status.conditions
  conditions-later later = stays-later now job.spec.suspend target due job.status.conditions conditions later

-- Where the conditions stay, no completion is new.
pub none-completed : (now : ℕ) (job : Job) (cs : List Condition) → cs ≡ job.status.conditions → completed_at now job.status cs ≡ job.status.completion
none-completed now job cs e = ap (completed_at now job.status) e ∙ by (stands Complete job.status.conditions) (stands Failed job.status.conditions)
  where
    by : (c f : Bool) → cond (c && not (f || c)) (Some now) job.status.completion ≡ job.status.completion
    by true true = refl
    by true false = refl
    by false f = refl
