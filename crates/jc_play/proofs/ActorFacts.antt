-- What each actor's look-up finds is its only event that can come.
use Rattle.std.proofs.Common.{◌≡◌, ℕ, ◌-◌, ◌<◌, nat_lt, Bool, true, false, cond, [], ◌∷◌, length, Option, Some, None, is_none, is_some, refl, sym, ap, ◌∙◌, subst, true≢false, ltb-true, ◌⊎◌, inl, inr}
use Rattle.std.specs.Prelude.{IfSome}
use Rattle.std.specs.Option.{option_or}
use Rattle.jc_types.proofs.ListFacts.{find_passes}
use Rattle.jc_log.specs.Deeds.{act_of_system}
use Rattle.jc_types.specs.declared.numbers.Version.{Version}
use Rattle.jc_types.specs.declared.objects.Kind.{Kind}
use Rattle.jc_types.specs.declared.runs.Event.{Event}
use Rattle.jc_types.specs.declared.runs.Event.TheVariants.{System}
use Rattle.jc_types.specs.declared.runs.Sys.{Sys}
use Rattle.jc_types.specs.declared.runs.Sys.TheVariants as sys
use Rattle.jc_history.specs.Available.{available, below, but_clock, clock_events, delivery_event, free_worker, least_of_all, list_event, node_events}
use Rattle.jc_history.specs.Diaries.{moment}
use Rattle.jc_history.specs.Fresh.{may_begin}
use Rattle.jc_history.specs.Legal.{IsOfShape}
use Rattle.jc_history.specs.Nodes.{fate, node_step}
use Rattle.jc_history.specs.Numbers.{number}
use Rattle.jc_history.specs.Play.{first_event}
use Rattle.jc_history.specs.Registers.{register}
use Rattle.jc_machine.specs.DiariesSeen.{diary_seen}
use Rattle.jc_runs.specs.Seen.{Seen, deeds_seen, log_seen}
use Rattle.jc_order.proofs.AvailFacts.{Is, delivery-in, list-in, step-in}
use Rattle.jc_play.specs.Actors.{CanCome, IsOnly}
use Rattle.jc_play.specs.declared.actors.Actor.TheVariants as actor
use Rattle.jc_play.proofs.KindFacts.{some-of}
use Rattle.jc_play.proofs.SystemFacts.{coming-admits}
use Rattle.jc_play.proofs.TellFacts.{Tells, all-tell, begin-in, clock-in, known, node-in}

module _ (seen : Seen) where
  -- What an event of the system that can come says.
  tells : (system : Sys) → CanCome seen (System system) → Tells seen.shape (deeds_seen seen) (log_seen seen) (act_of_system system)
  tells system h =
      known (Tells seen.shape (deeds_seen seen) (log_seen seen)) (act_of_system system) (available seen.shape (deeds_seen seen) (log_seen seen))
      (all-tell seen.shape (deeds_seen seen) (log_seen seen)) h.among

  -- One that is available, of the shape, can come.
  pub comes : (system : Sys) → IsOfShape seen.shape (act_of_system system) → Is (act_of_system system) (available seen.shape (deeds_seen seen) (log_seen seen)) → CanCome seen (System system)
  comes system within among = record {
    admits = coming-admits seen (System system) (record { system = system; is = refl; within = within; among = among });
    among = among;
  }

  -- ---- caches

  -- The list or the delivery.
  pub cache-only : (c : ℕ) (kind : Kind) → c < seen.shape.controllers → (list delivery found : Option Event) → list ≡ first_event (list_event c kind (number kind (diary_seen seen c)))
      → delivery ≡ first_event (delivery_event (log_seen seen) c kind (number kind (diary_seen seen c))) → found ≡ option_or list delivery → IsOnly (actor.Cache c kind) seen found
  cache-only c kind lt list delivery found e f g =
      subst (IsOnly (actor.Cache c kind) seen) (sym (g ∙ ap (λ o. option_or o delivery) e ∙ ap (option_or (first_event (list_event c kind (number kind (diary_seen seen c))))) f)) (by (number kind (diary_seen seen c)) refl)
    where
      lists : (event : Event) → event ≡ System (sys.List c kind) → CanCome seen event → first_event (list_event c kind (number kind (diary_seen seen c))) ≡ Some (System (sys.List c kind))
      lists event e h = tells (sys.List c kind) (subst (CanCome seen) e h)

      delivers : (event : Event) → event ≡ System (sys.Deliver c kind) → CanCome seen event → first_event (delivery_event (log_seen seen) c kind (number kind (diary_seen seen c))) ≡ Some (System (sys.Deliver c kind))
      delivers event e h = tells (sys.Deliver c kind) (subst (CanCome seen) e h)

      by : (n : Option Version) → number kind (diary_seen seen c) ≡ n → IsOnly (actor.Cache c kind) seen (option_or (first_event (list_event c kind n)) (first_event (delivery_event (log_seen seen) c kind n)))
      by None s = record {
        own = inl refl;
        can_come = comes (sys.List c kind) lt (list-in seen.shape (deeds_seen seen) (log_seen seen) c lt kind s);
        exactly = only;
      }
        where
          only : (event : Event) → (event ≡ System (sys.List c kind)) ⊎ (event ≡ System (sys.Deliver c kind)) → CanCome seen event → Some (System (sys.List c kind)) ≡ Some event
          only event (inl e) h = ap Some (sym e)
          only event (inr e) h = absurd (true≢false (ap is_some (sym (delivers event e h) ∙ ap (λ (o : Option Version). first_event (delivery_event (log_seen seen) c kind o)) s)))
      by (Some version) s = at (nat_lt version.0 (length (log_seen seen))) refl
        where
          unlisted : (event : Event) → event ≡ System (sys.List c kind) → CanCome seen event → ⊥
          unlisted event e h = true≢false (ap is_some (sym (lists event e h) ∙ ap (λ (o : Option Version). first_event (list_event c kind o)) s))

          at : (b : Bool) → nat_lt version.0 (length (log_seen seen)) ≡ b → IsOnly (actor.Cache c kind) seen (first_event (cond b (sys.Deliver c kind ∷ []) []))
          at true t = record {
            own = inr refl;
            can_come = comes (sys.Deliver c kind) lt (delivery-in seen.shape (deeds_seen seen) (log_seen seen) c lt kind version s (ltb-true version.0 (length (log_seen seen)) t));
            exactly = only;
          }
            where
              only : (event : Event) → (event ≡ System (sys.List c kind)) ⊎ (event ≡ System (sys.Deliver c kind)) → CanCome seen event → Some (System (sys.Deliver c kind)) ≡ Some event
              only event (inl e) h = absurd (unlisted event e h)
              only event (inr e) h = ap Some (sym e)
          at false t = record { own = tt; can_come = tt; exactly = only }
            where
              only : (event : Event) → (event ≡ System (sys.List c kind)) ⊎ (event ≡ System (sys.Deliver c kind)) → CanCome seen event → None ≡ Some event
              only event (inl e) h = absurd (unlisted event e h)
              only event (inr e) h =
                  absurd (true≢false (ap is_some (sym (delivers event e h) ∙ ap (λ (o : Option Version). first_event (delivery_event (log_seen seen) c kind o)) s ∙ ap (λ b. first_event (cond b (sys.Deliver c kind ∷ []) [])) t)))

  -- ---- workers

  begin-tells : (c w : ℕ) (event : Event) → event ≡ System (sys.Begin c w) → CanCome seen event → (may_begin (diary_seen seen c) (log_seen seen) ≡ true) × (free_worker (diary_seen seen c) seen.shape.workers ≡ Some w)
  begin-tells c w event e h = tells (sys.Begin c w) (subst (CanCome seen) e h)

  step-tells : (c w : ℕ) (event : Event) → event ≡ System (sys.Step c w) → CanCome seen event → is_some (register w (diary_seen seen c)) ≡ true
  step-tells c w event e h = tells (sys.Step c w) (subst (CanCome seen) e h)

  module _ (c w : ℕ) (lt : c < seen.shape.controllers) (less : w < seen.shape.workers) where
    -- It has a sync.
    pub worker-steps : is_none (register w (diary_seen seen c)) ≡ false → IsOnly (actor.Worker c w) seen (Some (System (sys.Step c w)))
    worker-steps used = record {
      own = inr refl;
      can_come = comes (sys.Step c w) (lt, less) (step-in seen.shape (deeds_seen seen) (log_seen seen) c lt w less ((some-of (register w (diary_seen seen c)) false used).1 refl));
      exactly = only;
    }
      where
        only : (event : Event) → (event ≡ System (sys.Begin c w)) ⊎ (event ≡ System (sys.Step c w)) → CanCome seen event → Some (System (sys.Step c w)) ≡ Some event
        only event (inl e) h =
            absurd (true≢false (sym (find_passes (λ w. is_none (register w (diary_seen seen c))) (below seen.shape.workers) w (begin-tells c w event e h).1) ∙ used))
        only event (inr e) h = ap Some (sym e)

    idle : is_none (register w (diary_seen seen c)) ≡ true → (event : Event) → event ≡ System (sys.Step c w) → CanCome seen event → ⊥
    idle free event e h = true≢false (sym (step-tells c w event e h) ∙ (some-of (register w (diary_seen seen c)) true free).0 refl)

    -- It has none, and is to begin one.
    pub worker-begins : is_none (register w (diary_seen seen c)) ≡ true → may_begin (diary_seen seen c) (log_seen seen) ≡ true → free_worker (diary_seen seen c) seen.shape.workers ≡ Some w
        → IsOnly (actor.Worker c w) seen (Some (System (sys.Begin c w)))
    worker-begins free may first = record {
      own = inl refl;
      can_come = comes (sys.Begin c w) (lt, less) (begin-in seen.shape (deeds_seen seen) (log_seen seen) c w lt may first);
      exactly = only;
    }
      where
        only : (event : Event) → (event ≡ System (sys.Begin c w)) ⊎ (event ≡ System (sys.Step c w)) → CanCome seen event → Some (System (sys.Begin c w)) ≡ Some event
        only event (inl e) h = ap Some (sym e)
        only event (inr e) h = absurd (idle free event e h)

    -- It has none, and is not.
    pub worker-waits : is_none (register w (diary_seen seen c)) ≡ true → ((may_begin (diary_seen seen c) (log_seen seen) ≡ true) × (free_worker (diary_seen seen c) seen.shape.workers ≡ Some w) → ⊥)
        → IsOnly (actor.Worker c w) seen None
    worker-waits free not = record { own = tt; can_come = tt; exactly = none }
      where
        none : (event : Event) → (event ≡ System (sys.Begin c w)) ⊎ (event ≡ System (sys.Step c w)) → CanCome seen event → None ≡ Some event
        none event (inl e) h = absurd (not (begin-tells c w event e h))
        none event (inr e) h = absurd (idle free event e h)

  -- ---- the node and the clock

  -- The node's step.
  pub node-only : (found : Option Event) → found ≡ first_event (node_events (is_some (node_step (log_seen seen) (fate (deeds_seen seen))))) → IsOnly actor.Node seen found
  node-only found e = subst (IsOnly actor.Node seen) (sym e) (by (is_some (node_step (log_seen seen) (fate (deeds_seen seen)))) refl)
    where
      by : (b : Bool) → is_some (node_step (log_seen seen) (fate (deeds_seen seen))) ≡ b → IsOnly actor.Node seen (first_event (node_events b))
      by true s = record { own = refl; can_come = comes sys.Node tt (node-in seen.shape (deeds_seen seen) (log_seen seen) s); exactly = λ event own h. ap Some (sym own) }
      by false s = record { own = tt; can_come = tt; exactly = λ event own h. absurd (true≢false (sym (tells sys.Node (subst (CanCome seen) own h)) ∙ s)) }

  clock-tells : (event : Event) (own : (add : ℕ) × (event ≡ System (sys.Clock add))) → CanCome seen event
      → (first_event (but_clock seen.shape (deeds_seen seen) (log_seen seen)) ≡ None)
      × (first_event (clock_events (moment seen.shape (deeds_seen seen)) (least_of_all seen.shape (deeds_seen seen) (log_seen seen))) ≡ Some event)
  clock-tells event own h =
      let t = tells (sys.Clock own.0) (subst (CanCome seen) own.1 h) in (t.0, t.1 ∙ ap Some (sym own.1))

  -- There is something else.
  pub clock-rests : (other : Event) → first_event (but_clock seen.shape (deeds_seen seen) (log_seen seen)) ≡ Some other → IsOnly actor.Clock seen None
  clock-rests other e = record { own = tt; can_come = tt; exactly = λ event own h. absurd (true≢false (ap is_some (sym e ∙ (clock-tells event own h).0))) }

  -- There is not.
  pub clock-only : first_event (but_clock seen.shape (deeds_seen seen) (log_seen seen)) ≡ None → (found : Option Event)
      → found ≡ first_event (clock_events (moment seen.shape (deeds_seen seen)) (least_of_all seen.shape (deeds_seen seen) (log_seen seen))) → IsOnly actor.Clock seen found
  clock-only none found e = record { own = mine.0; can_come = mine.1; exactly = λ event own h. e ∙ (clock-tells event own h).1 }
    where
      by : (o : Option ℕ) → least_of_all seen.shape (deeds_seen seen) (log_seen seen) ≡ o
          → IfSome (first_event (clock_events (moment seen.shape (deeds_seen seen)) o)) (λ event. (add : ℕ) × (event ≡ System (sys.Clock add)))
          × IfSome (first_event (clock_events (moment seen.shape (deeds_seen seen)) o)) (λ event. CanCome seen event)
      by None s = (tt, tt)
      by (Some due) s = ((due - moment seen.shape (deeds_seen seen), refl), comes (sys.Clock (due - moment seen.shape (deeds_seen seen))) tt (clock-in seen.shape (deeds_seen seen) (log_seen seen) due none s))

      mine : IfSome found (λ event. (add : ℕ) × (event ≡ System (sys.Clock add))) × IfSome found (λ event. CanCome seen event)
      mine = subst (λ o. IfSome o (λ event. (add : ℕ) × (event ≡ System (sys.Clock add))) × IfSome o (λ event. CanCome seen event)) (sym e) (by (least_of_all seen.shape (deeds_seen seen) (log_seen seen)) refl)
