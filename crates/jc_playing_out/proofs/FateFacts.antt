-- What is so of each fate that a script puts is so of the fates in each play of it.
use Rattle.std.proofs.Common.{◌≡◌, ◌⊎◌, inl, inr, ℕ, zero, suc, Bool, true, false, cond, List, [], ◌∷◌, map, slice_get, Option, Some, None, refl, sym, ap, ◌∙◌, subst}
use Rattle.std.proofs.lemmas.Option.{none-some as none_some, same_Some}
use Rattle.std.specs.List.{AllByRecursion as Each}
use Rattle.std.specs.Option.{option_or, unwrap_or}
use Rattle.jc_types.specs.declared.objects.KeyNames.{KeyNames as Key}
use Rattle.jc_types.specs.Keys.{same_key}
use Rattle.jc_types.specs.declared.actions.Action1.{Action1}
use Rattle.jc_types.specs.declared.actions.Action1.TheVariants as action
use Rattle.jc_types.specs.declared.actions.Command.{Command}
use Rattle.jc_types.specs.declared.actions.End.{End}
use Rattle.jc_types.specs.declared.actions.Script.{Script}
use Rattle.jc_types.specs.declared.runs.Event.{Event}
use Rattle.jc_types.specs.declared.runs.Event.TheVariants as event
use Rattle.jc_types.specs.declared.runs.Past.{Past}
use Rattle.jc_types.specs.declared.runs.Sys.{Sys}
use Rattle.jc_types.specs.declared.runs.Sys.TheVariants as sys
use Rattle.jc_types.specs.declared.specifications.JobSpec.{JobSpec}
use Rattle.jc_types.proofs.ListFacts.{Each-weaker}
use Rattle.jc_log.specs.Acts as does
use Rattle.jc_log.specs.Acts.{Act}
use Rattle.jc_log.specs.Deeds.{Deed, act_of_action, act_of_command, act_of_event, act_of_system, deed}
use Rattle.jc_history.specs.Nodes.{fate, fate_told}
use Rattle.jc_finite.specs.Remaining.{ends_of}
use Rattle.jc_finite.specs.Finite.{CountSuccesses, EndInTheEnd, LastEndCounts, RestartsEnd, RestartsStop, StopWhereKept, SucceedAll, SucceedAlways}
use Rattle.jc_finite.specs.Restarts.{NeverDeleted, deletes}
use Rattle.jc_finite.specs.Retries.{CountsAtLast}
use Rattle.jc_finite.proofs.SuccessCounts.{success-counts}
use Rattle.jc_playing_out.specs.PlayingOut.{CountsFor, CountsInTheEnd, EndsSucceed, EndsSucceedFor, FatesEndWell, FatesStopWell, FatesSucceed, KeepsJob, LastEndCountsFor, LastEndSucceeds, RestartsUntilStopped, RestartsWell}

module _ (Q : List End → Type 0) (k : Key) where
  -- It is so of a fate of the key that the act puts.
  abbrev Puts : Act → Type 0
  Puts (does.Fate key ends) = same_key key k ≡ true → Q ends
  Puts other = Unit {0}

  -- So it is of a command.
  abbrev PutsBy : Action1 → Type 0
  PutsBy (action.Fate key ends) = same_key key k ≡ true → Q ends
  PutsBy other = Unit {0}

  action-puts : (a : Action1) → PutsBy a → Puts (act_of_action a)
  action-puts (action.Fate key ends) h = h
  action-puts other h = tt

  system-puts : (s : Sys) → Puts (act_of_system s)
  system-puts (sys.List controller kind) = tt
  system-puts (sys.Deliver controller kind) = tt
  system-puts (sys.Begin controller worker) = tt
  system-puts (sys.Step controller worker) = tt
  system-puts sys.Node = tt
  system-puts (sys.Clock add) = tt

  command-puts : (commands : List Command) (n : ℕ) → Each (λ (command : Command). PutsBy command.action) commands → Puts (act_of_command (slice_get commands n))
  command-puts [] zero h = tt
  command-puts [] (suc n) h = tt
  command-puts (command ∷ commands) zero h = action-puts command.action h.0
  command-puts (command ∷ commands) (suc n) h = command-puts commands n h.1

  told-puts : (d : Deed) (a : Act) → d.act ≡ a → Puts a → (ends : List End) → fate_told k d ≡ Some ends → Q ends
  told-puts d (does.Fate key given) e h ends is = by (same_key key k) refl (sym (ap (λ act. fate_told k (record d { act = act })) e) ∙ is)
    where
      by : (b : Bool) → same_key key k ≡ b → cond b (Some given) None ≡ Some ends → Q ends
      by true s is = subst Q (same_Some given ends is) (h s)
      by false s is = absurd (none_some ends is)
  told-puts d other e h ends is = absurd (none_some ends (sym (ap (λ act. fate_told k (record d { act = act })) e) ∙ is))

  module _ (script : Script) (h : Each (λ (command : Command). PutsBy command.action) script.commands) where
    event-puts : (e : Event) → Puts (act_of_event script.commands e)
    event-puts (event.Command lane number) = command-puts script.commands number h
    event-puts (event.System s) = system-puts s

    fates-are : (pasts : List Past) (ends : List End) → fate (map (deed script) pasts) k ≡ Some ends → Q ends
    fates-are [] ends is = absurd (none_some ends is)
    fates-are (past ∷ pasts) ends is = by (fate_told k (deed script past)) refl is (fates-are pasts ends)
      where
        by : (o : Option (List End)) → fate_told k (deed script past) ≡ o → option_or o (fate (map (deed script) pasts) k) ≡ Some ends
            → (fate (map (deed script) pasts) k ≡ Some ends → Q ends) → Q ends
        by None e is more = more is
        by (Some told) e is more = told-puts (deed script past) (act_of_event script.commands past.event) refl (event-puts past.event) ends (e ∙ is)

-- ---- where each end is a success

pub fates-succeed : (script : Script) → FatesSucceed script → (pasts : List Past) → SucceedAlways (map (deed script) pasts)
fates-succeed script h pasts key ends is =
    fates-are SucceedAll key script
    (Each-weaker (λ (command : Command). EndsSucceed command.action) (λ (command : Command). PutsBy SucceedAll key command.action) (λ command. by command.action) script.commands h)
    pasts ends is
  where
    by : (a : Action1) → EndsSucceed a → PutsBy SucceedAll key a
    by (action.Fate other ends) h = λ s. h
    by other h = tt

-- ---- where the last one counts

-- What is so of each command, and of each act of the system, is so of each deed of a play.
module _ (P : Act → Type 0) (unknown : P does.Unknown) (system : (x : Sys) → P (act_of_system x)) (script : Script) (h : Each (λ (command : Command). P (act_of_action command.action)) script.commands) where
  so-at : (commands : List Command) (n : ℕ) → Each (λ (command : Command). P (act_of_action command.action)) commands → P (act_of_command (slice_get commands n))
  so-at [] zero all = unknown
  so-at [] (suc n) all = unknown
  so-at (command ∷ commands) zero all = all.0
  so-at (command ∷ commands) (suc n) all = so-at commands n all.1

  so-by : (e : Event) → P (act_of_event script.commands e)
  so-by (event.Command lane number) = so-at script.commands number h
  so-by (event.System x) = system x

  so-all : (pasts : List Past) → Each (λ (d : Deed). P d.act) (map (deed script) pasts)
  so-all [] = tt
  so-all (past ∷ pasts) = (so-by past.event, so-all pasts)

module _ (script : Script) (lasts : Each (λ (command : Command). CountsInTheEnd script.commands command.action) script.commands) (pasts : List Past) where
  abbrev Counts : Act → Type 0
  Counts act = LastEndCounts (fate (map (deed script) pasts)) act

  lasts-of : (a : Action1) → CountsInTheEnd script.commands a → Counts (act_of_action a)
  lasts-of (action.Create key spec) counts = by (fate (map (deed script) pasts) key) refl
    where
      of : (a : Action1) → LastEndCountsFor key spec a → PutsBy (λ ends. CountsAtLast ends spec) key a
      of (action.Fate other ends) h = h
      of other h = tt

      by : (o : Option (List End)) → fate (map (deed script) pasts) key ≡ o → CountsAtLast (unwrap_or o []) spec
      by None is = tt
      by (Some ends) is =
          fates-are (λ ends. CountsAtLast ends spec) key script
          (Each-weaker (λ (command : Command). LastEndCountsFor key spec command.action) (λ (command : Command). PutsBy (λ ends. CountsAtLast ends spec) key command.action) (λ command. of command.action) script.commands counts)
          pasts ends is
  lasts-of other counts = tt

  system-counts : (x : Sys) → Counts (act_of_system x)
  system-counts (sys.List controller kind) = tt
  system-counts (sys.Deliver controller kind) = tt
  system-counts (sys.Begin controller worker) = tt
  system-counts (sys.Step controller worker) = tt
  system-counts sys.Node = tt
  system-counts (sys.Clock add) = tt

  lasts-all : Each (λ (d : Deed). Counts d.act) (map (deed script) pasts)
  lasts-all =
      so-all Counts tt system-counts script
      (Each-weaker (λ (command : Command). CountsInTheEnd script.commands command.action) (λ (command : Command). Counts (act_of_action command.action)) (λ command. lasts-of command.action) script.commands lasts)
      pasts

module _ (script : Script) (h : FatesEndWell script) (pasts : List Past) where
  restarts-of : (a : Action1) → RestartsWell script.commands a → RestartsEnd (fate (map (deed script) pasts)) (act_of_action a)
  restarts-of (action.Create key spec) well = λ policy. by (well policy) (fate (map (deed script) pasts) key) refl
    where
      of : (a : Action1) → EndsSucceedFor key a → PutsBy SucceedAll key a
      of (action.Fate other ends) h = h
      of other h = tt

      by : Each (λ (command : Command). EndsSucceedFor key command.action) script.commands → (o : Option (List End)) → fate (map (deed script) pasts) key ≡ o → SucceedAll (unwrap_or o [])
      by all None is = tt
      by all (Some ends) is =
          fates-are SucceedAll key script
          (Each-weaker (λ (command : Command). EndsSucceedFor key command.action) (λ (command : Command). PutsBy SucceedAll key command.action) (λ command. of command.action) script.commands all)
          pasts ends is
  restarts-of other well = tt

  abbrev Restarts : Act → Type 0
  Restarts act = RestartsEnd (fate (map (deed script) pasts)) act

  system-restarts : (x : Sys) → Restarts (act_of_system x)
  system-restarts (sys.List controller kind) = tt
  system-restarts (sys.Deliver controller kind) = tt
  system-restarts (sys.Begin controller worker) = tt
  system-restarts (sys.Step controller worker) = tt
  system-restarts sys.Node = tt
  system-restarts (sys.Clock add) = tt

  restarts-all : Each (λ (d : Deed). Restarts d.act) (map (deed script) pasts)
  restarts-all =
      so-all Restarts tt system-restarts script
      (Each-weaker (λ (command : Command). RestartsWell script.commands command.action) (λ (command : Command). Restarts (act_of_action command.action)) (λ command. restarts-of command.action) script.commands h.restarts)
      pasts

  pub fates-end-well : EndInTheEnd (map (deed script) pasts)
  fates-end-well = record { lasts = lasts-all script h.lasts pasts; restarts = restarts-all }

-- ---- where the last one is a success

pub successes-count : (commands : List Command) → Each (λ (command : Command). LastEndSucceeds command.action) commands → Each (λ (command : Command). CountsInTheEnd commands command.action) commands
successes-count commands h = each commands
  where
    of : (key : Key) (spec : JobSpec) (a : Action1) → LastEndSucceeds a → LastEndCountsFor key spec a
    of key spec (action.Fate other ends) last = λ same. success-counts ends spec last
    of key spec other last = tt

    by : (a : Action1) → CountsInTheEnd commands a
    by (action.Create key spec) = Each-weaker (λ (command : Command). LastEndSucceeds command.action) (λ (command : Command). LastEndCountsFor key spec command.action) (λ command. of key spec command.action) commands h
    by other = tt

    each : (some : List Command) → Each (λ (command : Command). CountsInTheEnd commands command.action) some
    each [] = tt
    each (command ∷ some) = (by command.action, each some)

-- ---- where Jobs that are there stop containers

module _ (script : Script) (key : Key) (kept : Each (λ (command : Command). KeepsJob key command.action) script.commands) where
  action-keeps : (a : Action1) → KeepsJob key a → deletes key (act_of_action a) ≡ false
  action-keeps (action.Delete other) h = h
  action-keeps other h = refl

  system-keeps : (x : Sys) → deletes key (act_of_system x) ≡ false
  system-keeps (sys.List controller kind) = refl
  system-keeps (sys.Deliver controller kind) = refl
  system-keeps (sys.Begin controller worker) = refl
  system-keeps (sys.Step controller worker) = refl
  system-keeps sys.Node = refl
  system-keeps (sys.Clock add) = refl

  never-deleted : (pasts : List Past) → NeverDeleted key (map (deed script) pasts)
  never-deleted =
      so-all (λ act. deletes key act ≡ false) refl system-keeps script
      (Each-weaker (λ (command : Command). KeepsJob key command.action) (λ (command : Command). deletes key (act_of_action command.action) ≡ false) (λ command. action-keeps command.action) script.commands kept)

module _ (script : Script) (h : FatesStopWell script) (pasts : List Past) where
  stops-of : (a : Action1) → RestartsUntilStopped script.commands a → RestartsStop (map (deed script) pasts) (act_of_action a)
  stops-of (action.Create key spec) well = λ policy. by (well policy)
    where
      all-succeed : (a : Action1) → EndsSucceedFor key a → PutsBy SucceedAll key a
      all-succeed (action.Fate other ends) g = g
      all-succeed other g = tt

      all-count : (a : Action1) → CountsFor key a → PutsBy CountSuccesses key a
      all-count (action.Fate other ends) g = g
      all-count other g = tt

      of-ends : (Q : List End → Type 0) → Q [] → Each (λ (command : Command). PutsBy Q key command.action) script.commands → Q (unwrap_or (fate (map (deed script) pasts) key) [])
      of-ends Q none all = at (fate (map (deed script) pasts) key) refl
        where
          at : (o : Option (List End)) → fate (map (deed script) pasts) key ≡ o → Q (unwrap_or o [])
          at None is = none
          at (Some ends) is = fates-are Q key script all pasts ends is

      by : Each (λ (command : Command). EndsSucceedFor key command.action) script.commands
          ⊎ (Each (λ (command : Command). CountsFor key command.action) script.commands × Each (λ (command : Command). KeepsJob key command.action) script.commands)
          → SucceedAll (ends_of (fate (map (deed script) pasts)) key) ⊎ (CountSuccesses (ends_of (fate (map (deed script) pasts)) key) × NeverDeleted key (map (deed script) pasts))
      by (inl all) =
          inl (of-ends SucceedAll tt
          (Each-weaker (λ (command : Command). EndsSucceedFor key command.action) (λ (command : Command). PutsBy SucceedAll key command.action) (λ command. all-succeed command.action) script.commands all))
      by (inr both) = inr (
        of-ends CountSuccesses tt
            (Each-weaker (λ (command : Command). CountsFor key command.action) (λ (command : Command). PutsBy CountSuccesses key command.action) (λ command. all-count command.action) script.commands both.0),
        never-deleted script key both.1 pasts,
      )
  stops-of other well = tt

  abbrev Stops : Act → Type 0
  Stops act = RestartsStop (map (deed script) pasts) act

  system-stops : (x : Sys) → Stops (act_of_system x)
  system-stops (sys.List controller kind) = tt
  system-stops (sys.Deliver controller kind) = tt
  system-stops (sys.Begin controller worker) = tt
  system-stops (sys.Step controller worker) = tt
  system-stops sys.Node = tt
  system-stops (sys.Clock add) = tt

  stops-all : Each (λ (d : Deed). Stops d.act) (map (deed script) pasts)
  stops-all =
      so-all Stops tt system-stops script
      (Each-weaker (λ (command : Command). RestartsUntilStopped script.commands command.action) (λ (command : Command). Stops (act_of_action command.action)) (λ command. stops-of command.action) script.commands h.restarts)
      pasts

  pub fates-stop-well : StopWhereKept (map (deed script) pasts)
  fates-stop-well = record { lasts = lasts-all script h.lasts pasts; restarts = stops-all }

-- What restarts well does so until it is stopped.
pub well-stops : (script : Script) → FatesEndWell script → FatesStopWell script
well-stops script h = record {
  lasts = h.lasts;
  restarts =
      Each-weaker (λ (command : Command). RestartsWell script.commands command.action) (λ (command : Command). RestartsUntilStopped script.commands command.action) (λ command. of command.action) script.commands h.restarts;
}
  where
    of : (a : Action1) → RestartsWell script.commands a → RestartsUntilStopped script.commands a
    of (action.Create key spec) well = λ policy. inl (well policy)
    of other well = tt
