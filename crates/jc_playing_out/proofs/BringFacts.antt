-- A cache is brought up, since each list and each delivery leaves it less that it has not seen. And a sync steps until it has
-- ended, since each step leaves less of it.
use Rattle.std.proofs.Common.{◌≡◌, ℕ, zero, suc, ◌+◌, ◌*◌, ◌-◌, ◌<◌, ◌≤◌, ◌==◌, Bool, true, false, cond, List, [], ◌∷◌, ◌++◌, length, Option, Some, None, is_some, refl, sym, ap, ◌∙◌, subst, arith, eq-eqb}
use Rattle.std.proofs.lemmas.Bool.{eqb-false}
use Rattle.std.proofs.lemmas.Option.{none-some as none_some, same_Some}
use Rattle.jc_types.specs.declared.actions.Script.{Script}
use Rattle.jc_types.specs.declared.numbers.Version.{Version}
use Rattle.jc_types.specs.declared.objects.Kind.{Kind}
use Rattle.jc_types.specs.declared.runs.Event.{Event}
use Rattle.jc_types.specs.declared.runs.Event.TheVariants.{System}
use Rattle.jc_types.specs.declared.runs.Shape.{Shape}
use Rattle.jc_types.specs.declared.runs.Sys.{Sys}
use Rattle.jc_types.specs.declared.runs.Sys.TheVariants as sys
use Rattle.jc_states.specs.declared.bases.Basis.{Basis}
use Rattle.jc_control.specs.Schedules.{log_end}
use Rattle.jc_log.specs.Deeds.{Deed, act_of_system, deed}
use Rattle.jc_history.specs.Diaries.{moment, notes, on_step}
use Rattle.jc_history.specs.Notes.{Note}
use Rattle.jc_history.specs.Numbers.{number}
use Rattle.jc_history.specs.Play.{Playing, brings, brought_up, deeds_played, next_step, notes_in, past_of, stepped_through}
use Rattle.jc_history.specs.Registers.{register}
use Rattle.jc_history.specs.Replies.{diary, gives, log_given}
use Rattle.jc_order.specs.Ends.{IsAtMost}
use Rattle.jc_order.proofs.EndFacts.{numbers-within}
use Rattle.jc_settle.proofs.CostFacts.{step-less, sync_left}
use Rattle.jc_settle.proofs.SerialFacts.{listed-nothing, told-nothing}
use Rattle.jc_settle.proofs.ToldFacts.{DeliveryIs, Loses, NotesOf, Tells, TellsCache, delivery-is, expired-tells, list-notes, listed-tells, step-given, step-notes, told-tells, unseen}
use Rattle.jc_order.specs.Plays.{allowing}
use Rattle.jc_playing_out.proofs.SameFacts.{notes-same}
use Rattle.jc_playing_out.proofs.DoneFacts.{Done, Good, added, good-added, loop-done}

less-by : (a b x y : ℕ) → a ≡ x → b ≡ y → x < y → a < b
less-by a b x y e g lt = omega (arith, e, g, lt)

-- The deed of an event of the system in the play.
abbrev pub system-deed : Script → Shape → Playing → Sys → Deed
system-deed script shape p x = deed script (past_of (System x) (gives shape (deeds_played script p) p.log (act_of_system x)) p.log)

-- ---- a cache

module _ (script : Script) (shape : Shape) (c : ℕ) (kind : Kind) (within : c < shape.controllers) where
  abbrev bring-in : ℕ → Playing → Option Event
  bring-in n q = brings c kind q.log (number kind (notes_in script (allowing n shape) c q))

  abbrev bring-now : Playing → Option Event
  bring-now q = brings c kind (log_given shape (deeds_played script q)) (number kind (diary shape c (deeds_played script q)))

  abbrev not-seen : Playing → ℕ
  not-seen q = unseen (length (log_given shape (deeds_played script q))) (number kind (diary shape c (deeds_played script q)))

  record Lags (k : ℕ) (p : Playing) : Type 0 where
    ready : Good script shape p
    few : not-seen p ≤ k

  -- The play with the event, where less is unseen.
  record Falls (event : Event) (p : Playing) : Type 0 where
    ready : Good script shape (added script shape event p)
    less : not-seen (added script shape event p) < not-seen p

  module _ (p : Playing) (h : Good script shape p) where
    falls-by : (x : Sys) (g : Good script shape (added script shape (System x) p)) (at : Option Version) (new : List Note)
        → NotesOf shape (deeds_played script p) h.legal (system-deed script shape p x) g.legal.0 c new
        → TellsCache kind at (diary shape c (deeds_played script p)) (new ++ diary shape c (deeds_played script p))
        → log_given shape (system-deed script shape p x ∷ deeds_played script p) ≡ log_given shape (deeds_played script p)
        → (y : ℕ) → not-seen p ≡ y → unseen (length (log_given shape (deeds_played script p))) at < y → Falls (System x) p
    falls-by x g at new are tells same y old less = record {
      ready = g;
      less = less-by (not-seen (added script shape (System x) p)) (not-seen p) (unseen (length (log_given shape (deeds_played script p))) at) y (λ i. unseen (length (same i)) (number-is i)) old less;
    }
      where
        number-is : number kind (diary shape c (system-deed script shape p x ∷ deeds_played script p)) ≡ at
        number-is =
            ap (number kind) (are c ∙ ap (λ b. cond b new [] ++ diary shape c (deeds_played script p)) (eq-eqb c c refl))
            ∙ tells.number_is

    lists : number kind (diary shape c (deeds_played script p)) ≡ None → Falls (System (sys.List c kind)) p
    lists n =
        falls-by (sys.List c kind) g (Some (log_end (log_given shape (deeds_played script p)))) _
        (list-notes shape (deeds_played script p) h.legal (system-deed script shape p (sys.List c kind)) g.legal.0 c kind refl)
        (listed-tells kind (log_end (log_given shape (deeds_played script p))) _ (diary shape c (deeds_played script p)))
        (listed-nothing shape (deeds_played script p) (system-deed script shape p (sys.List c kind)) c kind refl)
        1 (ap (unseen (length (log_given shape (deeds_played script p)))) n) (omega arith)
      where
        g : Good script shape (added script shape (System (sys.List c kind)) p)
        g = good-added script shape (System (sys.List c kind)) p h within tt

    delivers : (version : Version) → number kind (diary shape c (deeds_played script p)) ≡ Some version → version.0 < length (log_given shape (deeds_played script p)) → Falls (System (sys.Deliver c kind)) p
    delivers version n lt = by (delivery-is shape (deeds_played script p) h.legal (system-deed script shape p (sys.Deliver c kind)) g.legal.0 c kind version refl n lt)
      where
        g : Good script shape (added script shape (System (sys.Deliver c kind)) p)
        g = good-added script shape (System (sys.Deliver c kind)) p h within tt

        same : log_given shape (system-deed script shape p (sys.Deliver c kind) ∷ deeds_played script p) ≡ log_given shape (deeds_played script p)
        same = told-nothing shape (deeds_played script p) (system-deed script shape p (sys.Deliver c kind)) c kind refl

        old : not-seen p ≡ 2 * (length (log_given shape (deeds_played script p)) - version.0)
        old = ap (unseen (length (log_given shape (deeds_played script p)))) n

        by : DeliveryIs shape (deeds_played script p) h.legal (system-deed script shape p (sys.Deliver c kind)) g.legal.0 c kind version refl n lt → Falls (System (sys.Deliver c kind)) p
        by (Tells are) =
            falls-by (sys.Deliver c kind) g (Some (record { 0 = version.0 + 1 })) _ are
            (told-tells kind (record { 0 = version.0 + 1 }) _ (diary shape c (deeds_played script p)))
            same (2 * (length (log_given shape (deeds_played script p)) - version.0)) old (omega (arith, lt))
        by (Loses are) =
            falls-by (sys.Deliver c kind) g None _ are (expired-tells kind (diary shape c (deeds_played script p)))
            same (2 * (length (log_given shape (deeds_played script p)) - version.0)) old (omega (arith, lt))

    brings-on : (event : Event) → bring-now p ≡ Some event → Falls event p
    brings-on event e = by (number kind (diary shape c (deeds_played script p))) refl (numbers-within shape c (deeds_played script p) h.legal kind) e
      where
        by : (o : Option Version) → number kind (diary shape c (deeds_played script p)) ≡ o → IsAtMost (length (log_given shape (deeds_played script p))) o
            → brings c kind (log_given shape (deeds_played script p)) o ≡ Some event → Falls event p
        by None n most e = subst (λ some. Falls some p) (same_Some (System (sys.List c kind)) event e) (lists n)
        by (Some version) n most e = at-end (version.0 == length (log_given shape (deeds_played script p))) refl e
          where
            at-end : (b : Bool) → (version.0 == length (log_given shape (deeds_played script p))) ≡ b → cond b None (Some (System (sys.Deliver c kind))) ≡ Some event → Falls event p
            at-end true s e = absurd (none_some event e)
            at-end false s e =
                subst (λ some. Falls some p) (same_Some (System (sys.Deliver c kind)) event e)
                (delivers version n (let other = eqb-false version.0 (length (log_given shape (deeds_played script p))) s in omega (arith, most, other)))

  bring-is : (n k : ℕ) (p : Playing) → Lags k p → bring-in n p ≡ bring-now p
  bring-is n k p h =
      ap (λ some. brings c kind p.log (number kind some)) (notes-same n shape c (deeds_played script p) p.log)
      ∙ ap (λ log. brings c kind log (number kind (notes shape c (deeds_played script p) log))) h.ready.log_is

  lags-none : (p : Playing) (event : Event) → Lags zero p → bring-now p ≡ Some event → ⊥
  lags-none p event h e = let few = h.few in let less = (brings-on p h.ready event e).less in omega (arith, few, less)

  lags-less : (k : ℕ) (p : Playing) (event : Event) → Lags (suc k) p → bring-now p ≡ Some event → Lags k (added script shape event p)
  lags-less k p event h e = of (brings-on p h.ready event e)
    where
      of : Falls event p → Lags k (added script shape event p)
      of f = record { ready = f.ready; few = let few = h.few in let less = f.less in omega (arith, few, less) }

  pub brings-up : (p : Playing) → Good script shape p → Done script shape (λ n q. brought_up script (allowing n shape) c kind q) p
  unfolding brought_up
  brings-up p h = (loop-done script shape bring-in bring-now Lags (λ k q g. g.ready) bring-is lags-none lags-less (not-seen p) p (record { ready = h; few = omega arith })).done

-- ---- a sync

module _ (script : Script) (shape : Shape) (c w : ℕ) (within : c < shape.controllers) (less : w < shape.workers) where
  abbrev step-in : ℕ → Playing → Option Event
  step-in n q = next_step c w (is_some (register w (notes_in script (allowing n shape) c q)))

  abbrev step-now : Playing → Option Event
  step-now q = next_step c w (is_some (register w (diary shape c (deeds_played script q))))

  abbrev left-now : Playing → ℕ
  left-now q = sync_left w (diary shape c (deeds_played script q))

  record HasLeft (k : ℕ) (p : Playing) : Type 0 where
    ready : Good script shape p
    few : left-now p ≤ k

  -- The play with the event, where less is left of the sync.
  record Lessens (event : Event) (p : Playing) : Type 0 where
    ready : Good script shape (added script shape event p)
    fewer : left-now (added script shape event p) < left-now p

  steps-on : (p : Playing) (event : Event) → Good script shape p → step-now p ≡ Some event → Lessens event p
  steps-on p event h e = by (register w (diary shape c (deeds_played script p))) refl e
    where
      g : Good script shape (added script shape (System (sys.Step c w)) p)
      g = good-added script shape (System (sys.Step c w)) p h (within, less) tt

      steps : (basis : Basis) → register w (diary shape c (deeds_played script p)) ≡ Some basis → Lessens (System (sys.Step c w)) p
      steps basis r = record {
        ready = g;
        fewer = subst (λ notes. sync_left w notes < left-now p) (sym here)
            (step-less w (moment shape (deeds_played script p)) basis (diary shape c (deeds_played script p)) (system-deed script shape p (sys.Step c w)).reply
            (step-given shape (deeds_played script p) h.legal (system-deed script shape p (sys.Step c w)) g.legal.0 c w basis refl r) r);
      }
        where
          here : diary shape c (system-deed script shape p (sys.Step c w) ∷ deeds_played script p)
              ≡ on_step w (moment shape (deeds_played script p)) (Some basis) (system-deed script shape p (sys.Step c w)).reply ++ diary shape c (deeds_played script p)
          here =
              step-notes shape (deeds_played script p) h.legal (system-deed script shape p (sys.Step c w)) g.legal.0 c w basis refl r c
              ∙ ap (λ b. cond b (on_step w (moment shape (deeds_played script p)) (Some basis) (system-deed script shape p (sys.Step c w)).reply) [] ++ diary shape c (deeds_played script p)) (eq-eqb c c refl)

      by : (o : Option Basis) → register w (diary shape c (deeds_played script p)) ≡ o → next_step c w (is_some o) ≡ Some event → Lessens event p
      by None r e = absurd (none_some event e)
      by (Some basis) r e = subst (λ some. Lessens some p) (same_Some (System (sys.Step c w)) event e) (steps basis r)

  step-same : (n k : ℕ) (p : Playing) → HasLeft k p → step-in n p ≡ step-now p
  step-same n k p h =
      ap (λ some. next_step c w (is_some (register w some))) (notes-same n shape c (deeds_played script p) p.log)
      ∙ ap (λ log. next_step c w (is_some (register w (notes shape c (deeds_played script p) log)))) h.ready.log_is

  left-none : (p : Playing) (event : Event) → HasLeft zero p → step-now p ≡ Some event → ⊥
  left-none p event h e = let few = h.few in let fewer = (steps-on p event h.ready e).fewer in omega (arith, few, fewer)

  left-less : (k : ℕ) (p : Playing) (event : Event) → HasLeft (suc k) p → step-now p ≡ Some event → HasLeft k (added script shape event p)
  left-less k p event h e = of (steps-on p event h.ready e)
    where
      of : Lessens event p → HasLeft k (added script shape event p)
      of f = record { ready = f.ready; few = let few = h.few in let fewer = f.fewer in omega (arith, few, fewer) }

  pub steps-through : (p : Playing) → Good script shape p → Done script shape (λ n q. stepped_through script (allowing n shape) c w q) p
  unfolding stepped_through
  steps-through p h = (loop-done script shape step-in step-now HasLeft (λ k q g. g.ready) step-same left-none left-less (left-now p) p (record { ready = h; few = omega arith })).done
