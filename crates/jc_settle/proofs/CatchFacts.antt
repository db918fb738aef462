-- In a settle each cache is told of all before anything else comes.
use Rattle.std.proofs.Common.{◌≡◌, ℕ, zero, suc, ◌+◌, ◌*◌, ◌-◌, ◌<◌, ◌≤◌, ◌==◌, Bool, true, false, cond, List, [], ◌∷◌, ◌++◌, length, Option, Some, None, refl, sym, ap, ◌∙◌, subst, arith, eqb-true, eq-eqb, append_assoc}
use Rattle.jc_types.specs.declared.numbers.Version.{Version}
use Rattle.jc_types.specs.declared.objects.Kind.{Kind}
use Rattle.jc_types.specs.declared.runs.Shape.{Shape}
use Rattle.jc_types.specs.declared.runs.Sys.{Sys}
use Rattle.jc_types.specs.declared.runs.Sys.TheVariants as sys
use Rattle.jc_types.proofs.ListFacts.{Each-append as each-append}
use Rattle.jc_control.specs.Schedules.{log_end}
use Rattle.jc_log.specs.Acts as does
use Rattle.jc_log.specs.Deeds.{Deed, act_of_system}
use Rattle.jc_history.specs.Legal.{IsLegal, IsLegalNext}
use Rattle.jc_history.specs.Notes.{Note}
use Rattle.jc_history.specs.Numbers.{number}
use Rattle.jc_history.specs.Replies.{diary, log_given}
use Rattle.jc_order.proofs.RestFacts.{at-rest}
use Rattle.jc_settle.specs.Comes.{AreUpToDate, Comes, Lists, Delivers, Steps, Begins, Acts, Ticks}
use Rattle.jc_settle.specs.Settles.{CatchesUp, LeavesSync, is_telling, next_of_settle}
use Rattle.jc_settle.specs.Totals.{total}
use Rattle.jc_settle.proofs.ComesFacts.{first-comes}
use Rattle.jc_settle.proofs.CostFacts.{leaves-all, leaves-on}
use Rattle.jc_settle.proofs.OnFacts.{IsNext, next-is, next-legal, none-next, on-some}
use Rattle.jc_settle.proofs.SerialFacts.{listed-nothing, told-nothing}
use Rattle.jc_settle.proofs.ToldFacts.{DeliveryIs, Loses, NotesOf, Tells, TellsCache, all_unseen, delivery-is, expired-tells, list-notes, listed-tells, told-tells, unseen, unseen-less}
use Rattle.jc_settle.proofs.TotalFacts.{total-less}

-- All that the caches of all controllers have not seen.
abbrev pub unseen-by : Shape → ℕ → List Deed → ℕ → ℕ
unseen-by shape n past c = all_unseen n (diary shape c past)

abbrev pub lag : Shape → List Deed → ℕ
lag shape past = total (unseen-by shape (length (log_given shape past)) past) shape.controllers

-- ---- a deed that tells a cache

-- It leaves the log and all syncs, and less is unseen.
pub record IsTold (shape : Shape) (past : List Deed) (d : Deed) : Type 0 where
  pub telling : is_telling d.act ≡ true
  pub log_is : log_given shape (d ∷ past) ≡ log_given shape past
  pub syncs : (c w : ℕ) → LeavesSync w (diary shape c past) (diary shape c (d ∷ past))
  pub fewer : lag shape (d ∷ past) < lag shape past

module _ (shape : Shape) (past : List Deed) (legal : IsLegal shape past) (d : Deed) (next : IsLegalNext shape past d) where
  -- By what the notes of one controller tell of one cache.
  of-notes : (c : ℕ) (kind : Kind) (at : Option Version) (new : List Note) → c < shape.controllers → is_telling d.act ≡ true → log_given shape (d ∷ past) ≡ log_given shape past
      → NotesOf shape past legal d next c new → TellsCache kind at (diary shape c past) (new ++ diary shape c past)
      → unseen (length (log_given shape past)) at < unseen (length (log_given shape past)) (number kind (diary shape c past)) → IsTold shape past d
  of-notes c kind at new lt telling same are tells less = record { telling = telling; log_is = same; syncs = syncs; fewer = fewer }
    where
      n : ℕ
      n = length (log_given shape past)

      here : diary shape c (d ∷ past) ≡ new ++ diary shape c past
      here = are c ∙ ap (λ b. cond b new [] ++ diary shape c past) (eq-eqb c c refl)

      elsewhere : (e : ℕ) → (c == e) ≡ false → diary shape e (d ∷ past) ≡ diary shape e past
      elsewhere e other = are e ∙ ap (λ b. cond b new [] ++ diary shape e past) other

      syncs : (e w : ℕ) → LeavesSync w (diary shape e past) (diary shape e (d ∷ past))
      syncs e w = by (c == e) refl
        where
          by : (b : Bool) → (c == e) ≡ b → LeavesSync w (diary shape e past) (diary shape e (d ∷ past))
          by true s = subst (λ k. LeavesSync w (diary shape k past) (diary shape k (d ∷ past))) (eqb-true c e s) (subst (LeavesSync w (diary shape c past)) (sym here) (tells.syncs w))
          by false s = subst (LeavesSync w (diary shape e past)) (sym (elsewhere e s)) (leaves-all w (diary shape e past))

      less-here : unseen-by shape n (d ∷ past) c < unseen-by shape n past c
      less-here = subst (λ notes. all_unseen n notes < all_unseen n (diary shape c past)) (sym here) (unseen-less n kind at (diary shape c past) (new ++ diary shape c past) tells less)

      none-more : (e : ℕ) → e < shape.controllers → unseen-by shape n (d ∷ past) e ≤ unseen-by shape n past e
      none-more e lt = by (c == e) refl
        where
          by : (b : Bool) → (c == e) ≡ b → unseen-by shape n (d ∷ past) e ≤ unseen-by shape n past e
          by true s = let l = subst (λ k. unseen-by shape n (d ∷ past) k < unseen-by shape n past k) (eqb-true c e s) less-here in omega (arith, l)
          by false s = let l = ap (all_unseen n) (elsewhere e s) in omega (arith, l)

      fewer : lag shape (d ∷ past) < lag shape past
      fewer = subst (λ log. total (unseen-by shape (length log) (d ∷ past)) shape.controllers < lag shape past) (sym same) (total-less (unseen-by shape n past) (unseen-by shape n (d ∷ past)) shape.controllers c lt none-more less-here)

  is-list : (c : ℕ) (kind : Kind) → c < shape.controllers → d.act ≡ does.List c kind → number kind (diary shape c past) ≡ None → IsTold shape past d
  is-list c kind lt a none =
      of-notes c kind (Some (log_end (log_given shape past))) _ lt (ap is_telling a) (listed-nothing shape past d c kind a) (list-notes shape past legal d next c kind a)
      (listed-tells kind (log_end (log_given shape past)) _ (diary shape c past))
      (let old = ap (unseen (length (log_given shape past))) none in omega (arith, old))

  is-delivery : (c : ℕ) (kind : Kind) (version : Version) → c < shape.controllers → d.act ≡ does.Deliver c kind → number kind (diary shape c past) ≡ Some version → version.0 < length (log_given shape past) → IsTold shape past d
  is-delivery c kind version lt a n less = by (delivery-is shape past legal d next c kind version a n less)
    where
      old : unseen (length (log_given shape past)) (number kind (diary shape c past)) ≡ 2 * (length (log_given shape past) - version.0)
      old = ap (unseen (length (log_given shape past))) n

      by : DeliveryIs shape past legal d next c kind version a n less → IsTold shape past d
      by (Tells are) =
          of-notes c kind (Some (record { 0 = version.0 + 1 })) _ lt (ap is_telling a) (told-nothing shape past d c kind a) are
          (told-tells kind (record { 0 = version.0 + 1 }) _ (diary shape c past)) (omega (arith, old, less))
      by (Loses are) =
          of-notes c kind None _ lt (ap is_telling a) (told-nothing shape past d c kind a) are
          (expired-tells kind (diary shape c past)) (omega (arith, old, less))

-- ---- until all are told

module _ (shape : Shape) where
  pub now-caught : (past : List Deed) → AreUpToDate shape past (log_given shape past) → CatchesUp shape past
  now-caught past up = record { events = 0; run = []; are = refl; telling = tt; caches = up; log_is = refl; syncs = λ c w. leaves-all w (diary shape c past) }

  one-more : (past : List Deed) (d : Deed) → next_of_settle shape past ≡ Some d → IsTold shape past d → CatchesUp shape (d ∷ past) → CatchesUp shape past
  one-more past d e t h = record {
    events = suc h.events;
    run = h.run ++ d ∷ [];
    are = on-some shape h.events past d e ∙ h.are ∙ sym same;
    telling = each-append (λ (x : Deed). is_telling x.act ≡ true) h.run (d ∷ []) h.telling (t.telling, tt);
    caches = subst (λ l. AreUpToDate shape l (log_given shape l)) (sym same) h.caches;
    log_is = ap (log_given shape) same ∙ h.log_is ∙ t.log_is;
    syncs = λ c w. subst (λ l. LeavesSync w (diary shape c past) (diary shape c l)) (sym same) (leaves-on w (t.syncs c w) (h.syncs c w));
  }
    where
      same : (h.run ++ d ∷ []) ++ past ≡ h.run ++ d ∷ past
      same = append_assoc h.run (d ∷ []) past

  module _ (some : 0 < shape.workers) where
    within : (n : ℕ) (past : List Deed) → IsLegal shape past → lag shape past < n → CatchesUp shape past
    within zero past legal lt = absurd (omega (arith, lt))
    within (suc n) past legal lt = by (next_of_settle shape past) refl (λ d l less. within n (d ∷ past) (l, legal) (omega (arith, lt, less)))
      where
        by : (o : Option Deed) → next_of_settle shape past ≡ o → ((d : Deed) → IsLegalNext shape past d → lag shape (d ∷ past) < lag shape past → CatchesUp shape (d ∷ past)) → CatchesUp shape past
        by None e more = now-caught past (λ c lt. ((at-rest shape past legal some (none-next shape past e)).each c lt).caches)
        by (Some d) e more = case x.comes (ap (λ (y : Deed). y.act) x.is) (first-comes shape past x.comes legal some x.first)
          where
            x : IsNext shape past d
            x = next-is shape past d e

            next : IsLegalNext shape past d
            next = next-legal shape past d e

            goes-on : IsTold shape past d → CatchesUp shape past
            goes-on t = one-more past d e t (more d next t.fewer)

            act-is : (y z : Sys) → act_of_system y ≡ d.act → y ≡ z → d.act ≡ act_of_system z
            act-is y z a is = sym a ∙ ap act_of_system is

            case : (y : Sys) → act_of_system y ≡ d.act → Comes shape past (log_given shape past) y → CatchesUp shape past
            case y a (Lists c kind lt is none) = goes-on (is-list shape past legal d next c kind lt (act-is y (sys.List c kind) a is) none)
            case y a (Delivers c kind version lt is n less) = goes-on (is-delivery shape past legal d next c kind version lt (act-is y (sys.Deliver c kind) a is) n less)
            case y a (Steps up c w basis lt less is r) = now-caught past up
            case y a (Begins up free c w k rest lt is first) = now-caught past up
            case y a (Acts up free none step is s) = now-caught past up
            case y a (Ticks up free none idle due is s) = now-caught past up

    -- Each cache is told of all.
    pub catches-up : (past : List Deed) → IsLegal shape past → CatchesUp shape past
    catches-up past legal = within (suc (lag shape past)) past legal (omega arith)
