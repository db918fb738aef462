-- In a settle the syncs under way come to their ends before another begins.
use Rattle.std.proofs.Common.{◌≡◌, ℕ, zero, suc, ◌+◌, ◌<◌, ◌≤◌, ◌==◌, Bool, true, false, cond, List, [], ◌∷◌, ◌++◌, Option, Some, None, refl, sym, ap, ◌∙◌, subst, arith, eqb-true, eq-eqb, append_assoc}
use Rattle.std.proofs.lemmas.Option.{none-some as none_some, same_Some as some_is}
use Rattle.std.specs.List.{AllByRecursion as Each}
use Rattle.jc_types.specs.declared.numbers.Version.{Version}
use Rattle.jc_types.specs.declared.runs.Shape.{Shape}
use Rattle.jc_types.specs.declared.runs.Sys.{Sys}
use Rattle.jc_types.proofs.ListFacts.{Each-append as each-append}
use Rattle.jc_states.specs.declared.bases.Basis.{Basis}
use Rattle.jc_log.specs.Acts as does
use Rattle.jc_log.specs.Acts.{Act}
use Rattle.jc_log.specs.Deeds.{Deed, act_of_system}
use Rattle.jc_history.specs.Diaries.{moment, on_step}
use Rattle.jc_history.specs.Legal.{IsLegal, IsLegalNext}
use Rattle.jc_history.specs.Registers.{register}
use Rattle.jc_history.specs.Replies.{diary, log_given}
use Rattle.jc_order.proofs.RestFacts.{at-rest}
use Rattle.jc_settle.specs.Comes.{AreUpToDate, Comes, Lists, Delivers, Steps, Begins, Acts, Ticks}
use Rattle.jc_settle.specs.Settles.{CalmsDown, CatchesUp, IsCalm, LeavesSync, is_on_the_way, is_telling, next_of_settle, settled_on}
use Rattle.jc_settle.specs.Totals.{total}
use Rattle.jc_settle.proofs.CatchFacts.{catches-up}
use Rattle.jc_settle.proofs.ComesFacts.{first-comes}
use Rattle.jc_settle.proofs.CostFacts.{left-same, step-less, step-others, sync_left}
use Rattle.jc_settle.proofs.OnFacts.{IsNext, next-is, next-legal, none-next, on-adds, on-legal, on-some}
use Rattle.jc_settle.proofs.ToldFacts.{step-given, step-notes}
use Rattle.jc_settle.proofs.TotalFacts.{total-less, total-most}

-- ---- what is left of all syncs

abbrev left-at : Shape → List Deed → ℕ → ℕ → ℕ
left-at shape past c w = sync_left w (diary shape c past)

abbrev left-by : Shape → List Deed → ℕ → ℕ
left-by shape past c = total (left-at shape past c) shape.workers

abbrev pub all_left : Shape → List Deed → ℕ
all_left shape past = total (left-by shape past) shape.controllers

-- Where no sync has changed.
same-left : (shape : Shape) (past now : List Deed) → ((c w : ℕ) → LeavesSync w (diary shape c past) (diary shape c now)) → all_left shape now ≤ all_left shape past
same-left shape past now h =
    total-most (left-by shape past) (left-by shape now) shape.controllers
    (λ c lt. total-most (left-at shape past c) (left-at shape now c) shape.workers (λ w less. let same = left-same w (diary shape c past) (diary shape c now) (h c w) in omega (arith, same)))

module _ (shape : Shape) (past : List Deed) (legal : IsLegal shape past) (d : Deed) (next : IsLegalNext shape past d)
    (c w : ℕ) (basis : Basis) (lt : c < shape.controllers) (less : w < shape.workers) (a : d.act ≡ does.Step c w)
    (r : register w (diary shape c past) ≡ Some basis) where
  here : diary shape c (d ∷ past) ≡ on_step w (moment shape past) (Some basis) d.reply ++ diary shape c past
  here = step-notes shape past legal d next c w basis a r c ∙ ap (λ b. cond b (on_step w (moment shape past) (Some basis) d.reply) [] ++ diary shape c past) (eq-eqb c c refl)

  elsewhere : (e : ℕ) → (c == e) ≡ false → diary shape e (d ∷ past) ≡ diary shape e past
  elsewhere e other = step-notes shape past legal d next c w basis a r e ∙ ap (λ b. cond b (on_step w (moment shape past) (Some basis) d.reply) [] ++ diary shape e past) other

  own-less : left-at shape (d ∷ past) c w < left-at shape past c w
  own-less = subst (λ notes. sync_left w notes < sync_left w (diary shape c past)) (sym here) (step-less w (moment shape past) basis (diary shape c past) d.reply (step-given shape past legal d next c w basis a r) r)

  none-more : (v : ℕ) → left-at shape (d ∷ past) c v ≤ left-at shape past c v
  none-more v = by (w == v) refl
    where
      by : (b : Bool) → (w == v) ≡ b → left-at shape (d ∷ past) c v ≤ left-at shape past c v
      by true s = let l = subst (λ k. left-at shape (d ∷ past) c k < left-at shape past c k) (eqb-true w v s) own-less in omega (arith, l)
      by false s =
          let same = ap (sync_left v) here ∙ left-same v (diary shape c past) _ (step-others w (moment shape past) basis (diary shape c past) d.reply v s) in
          omega (arith, same)

  less-by : left-by shape (d ∷ past) c < left-by shape past c
  less-by = total-less (left-at shape past c) (left-at shape (d ∷ past) c) shape.workers w less (λ v l. none-more v) own-less

  none-by : (e : ℕ) → e < shape.controllers → left-by shape (d ∷ past) e ≤ left-by shape past e
  none-by e l = by (c == e) refl
    where
      by : (b : Bool) → (c == e) ≡ b → left-by shape (d ∷ past) e ≤ left-by shape past e
      by true s = let m = subst (λ k. left-by shape (d ∷ past) k < left-by shape past k) (eqb-true c e s) less-by in omega (arith, m)
      by false s = let same = ap (λ notes. total (λ v. sync_left v notes) shape.workers) (elsewhere e s) in omega (arith, same)

  -- A step of a sync leaves less.
  pub steps-less : all_left shape (d ∷ past) < all_left shape past
  steps-less = total-less (left-by shape past) (left-by shape (d ∷ past)) shape.controllers c lt none-by less-by

-- ---- until it is calm

module _ (shape : Shape) where
  now-calm : (past : List Deed) → IsCalm shape past → CalmsDown shape past
  now-calm past calm = record { events = 0; run = []; are = refl; way = tt; calm = calm }

  -- With a deed before.
  pub calms-with : (past : List Deed) (d : Deed) → next_of_settle shape past ≡ Some d → is_on_the_way d.act ≡ true → CalmsDown shape (d ∷ past) → CalmsDown shape past
  calms-with past d e on h = record {
    events = suc h.events;
    run = h.run ++ d ∷ [];
    are = on-some shape h.events past d e ∙ h.are ∙ sym same;
    way = each-append (λ (x : Deed). is_on_the_way x.act ≡ true) h.run (d ∷ []) h.way (on, tt);
    calm = subst (IsCalm shape) (sym same) h.calm;
  }
    where
      same : (h.run ++ d ∷ []) ++ past ≡ h.run ++ d ∷ past
      same = append_assoc h.run (d ∷ []) past

  pub telling-on : (act : Act) → is_telling act ≡ true → is_on_the_way act ≡ true
  telling-on (does.Step c w) h = refl
  telling-on other h = h

  pub all-on : (run : List Deed) → Each (λ (d : Deed). is_telling d.act ≡ true) run → Each (λ (d : Deed). is_on_the_way d.act ≡ true) run
  all-on [] h = tt
  all-on (d ∷ run) h = (telling-on d.act h.0, all-on run h.1)

  -- With what tells the caches before.
  pub calms-after : (past : List Deed) (u : CatchesUp shape past) → CalmsDown shape (u.run ++ past) → CalmsDown shape past
  calms-after past u h = record {
    events = u.events + h.events;
    run = h.run ++ u.run;
    are = on-adds shape u.events h.events past ∙ ap (settled_on shape h.events) u.are ∙ h.are ∙ sym same;
    way = each-append (λ (x : Deed). is_on_the_way x.act ≡ true) h.run u.run h.way (all-on u.run u.telling);
    calm = subst (IsCalm shape) (sym same) h.calm;
  }
    where
      same : (h.run ++ u.run) ++ past ≡ h.run ++ (u.run ++ past)
      same = append_assoc h.run u.run past

  pub caught-legal : (past : List Deed) (u : CatchesUp shape past) → IsLegal shape past → IsLegal shape (u.run ++ past)
  caught-legal past u legal = subst (IsLegal shape) u.are (on-legal shape u.events past legal)

  module _ (some : 0 < shape.workers) where
    -- What a settle does next where each cache has seen the whole log.
    pub data NextIs (past : List Deed) : Type 0 where
      Calm : IsCalm shape past → NextIs past
      Step : (d : Deed) (c w : ℕ) (basis : Basis) → next_of_settle shape past ≡ Some d → c < shape.controllers → w < shape.workers → d.act ≡ does.Step c w → register w (diary shape c past) ≡ Some basis → NextIs past

    pub next-where-told : (past : List Deed) → IsLegal shape past → AreUpToDate shape past (log_given shape past) → NextIs past
    next-where-told past legal up = by (next_of_settle shape past) refl
      where
        by : (o : Option Deed) → next_of_settle shape past ≡ o → NextIs past
        by None e = Calm (record { caches = up; free = λ c lt. ((at-rest shape past legal some (none-next shape past e)).each c lt).registers })
        by (Some d) e = case x.comes (ap (λ (y : Deed). y.act) x.is) (first-comes shape past x.comes legal some x.first)
          where
            x : IsNext shape past d
            x = next-is shape past d e

            case : (y : Sys) → act_of_system y ≡ d.act → Comes shape past (log_given shape past) y → NextIs past
            case y a (Lists c kind lt is none) = absurd (none_some _ (sym none ∙ up c lt kind))
            case y a (Delivers c kind version lt is n less) =
                let same = ap (λ (v : Version). v.0) (some_is _ _ (sym n ∙ up c lt kind)) in absurd (omega (arith, same, less))
            case y a (Steps told c w basis lt less is r) = Step d c w basis e lt less (sym a ∙ ap act_of_system is) r
            case y a (Begins told free c w k rest lt is first) = Calm (record { caches = told; free = free })
            case y a (Acts told free none step is s) = Calm (record { caches = told; free = free })
            case y a (Ticks told free none idle due is s) = Calm (record { caches = told; free = free })

    within : (n : ℕ) (past : List Deed) → IsLegal shape past → all_left shape past < n → CalmsDown shape past
    within zero past legal lt = absurd (omega (arith, lt))
    within (suc n) past legal lt = on (catches-up shape some past legal) (λ now l few. within n now l (omega (arith, lt, few)))
      where
        on : CatchesUp shape past → ((now : List Deed) → IsLegal shape now → all_left shape now < all_left shape past → CalmsDown shape now) → CalmsDown shape past
        on u more = calms-after past u (by (next-where-told (u.run ++ past) now-legal u.caches))
          where
            now-legal : IsLegal shape (u.run ++ past)
            now-legal = caught-legal past u legal

            by : NextIs (u.run ++ past) → CalmsDown shape (u.run ++ past)
            by (Calm calm) = now-calm (u.run ++ past) calm
            by (Step d c w basis e lt less a r) =
                let next = next-legal shape (u.run ++ past) d e in
                let few = steps-less shape (u.run ++ past) now-legal d next c w basis lt less a r in
                let same = same-left shape past (u.run ++ past) u.syncs in
                calms-with (u.run ++ past) d e (ap is_on_the_way a) (more (d ∷ u.run ++ past) (next, now-legal) (omega (arith, few, same)))

    -- A settle comes to be calm.
    pub calms-down : (past : List Deed) → IsLegal shape past → CalmsDown shape past
    calms-down past legal = within (suc (all_left shape past)) past legal (omega arith)
