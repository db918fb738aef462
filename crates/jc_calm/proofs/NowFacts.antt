-- What a deed of a settle leaves as it was: the moment, and the faults that are pending.
use Rattle.std.proofs.Common.{◌≡◌, ℕ, ◌+◌, ◌<◌, ◌≤◌, ◌==◌, Bool, true, false, ◌&&◌, cond, List, [], ◌∷◌, ◌++◌, Option, Some, None, is_some, refl, sym, ap, ◌∙◌, arith, true≢false, ◌⊎◌, inl, inr}
use Rattle.std.specs.List.{AllByRecursion as Each}
use Rattle.std.specs.Option.{option_or, unwrap_or}
use Rattle.jc_types.specs.declared.actions.Fault.{Fault}
use Rattle.jc_types.specs.declared.runs.Shape.{Shape}
use Rattle.jc_states.specs.declared.bases.Basis.{Basis}
use Rattle.jc_control.specs.declared.ends.SyncEnd.TheVariants as end
use Rattle.jc_log.specs.Acts as does
use Rattle.jc_log.specs.Acts.{Act}
use Rattle.jc_log.specs.Deeds.{Deed}
use Rattle.jc_history.specs.Diaries.{is_now, moment, ticks}
use Rattle.jc_history.specs.Notes.{Note, Ended, newest}
use Rattle.jc_history.specs.Registers.{fault_told, pending}
use Rattle.jc_history.specs.Replies.{diary}
use Rattle.jc_settle.specs.Settles.{is_telling}
use Rattle.jc_settle.specs.Totals.{total}
use Rattle.jc_settle.proofs.TotalFacts.{total-less, total-most}
use Rattle.jc_calm.specs.SettleTurns.{faults_pending}

-- ---- the moment

pub now-same : (shape : Shape) (d : Deed) (past : List Deed) → ticks d.act ≡ 0 → moment shape (d ∷ past) ≡ moment shape past
now-same shape d past h = ap (λ n. moment shape past + cond (is_now d.reply) n 0) h ∙ by (is_now d.reply)
  where
    by : (b : Bool) → moment shape past + cond b 0 0 ≡ moment shape past
    by true = omega arith
    by false = omega arith

pub no-ticks : (act : Act) → is_telling act ≡ true → ticks act ≡ 0
no-ticks (does.Clock add) h = absurd (true≢false (sym h))
no-ticks other h = refl

pub now-told : (shape : Shape) (run past : List Deed) → Each (λ (d : Deed). is_telling d.act ≡ true) run → moment shape (run ++ past) ≡ moment shape past
now-told shape [] past h = refl
now-told shape (d ∷ run) past h = now-same shape d (run ++ past) (no-ticks d.act h.0) ∙ now-told shape run past h.1

-- ---- faults

abbrev pub is-fault : ℕ → List Note → ℕ
is-fault w notes = cond (is_some (pending w notes)) 1 0

abbrev pub faults-of : ℕ → List Note → ℕ
faults-of workers notes = total (λ w. is-fault w notes) workers

pub faults-most : (shape : Shape) (past now : List Deed) → ((c w : ℕ) → pending w (diary shape c now) ≡ pending w (diary shape c past)) → faults_pending shape now ≤ faults_pending shape past
faults-most shape past now h =
    total-most (λ c. faults-of shape.workers (diary shape c past)) (λ c. faults-of shape.workers (diary shape c now)) shape.controllers
    (λ c lt. total-most (λ w. is-fault w (diary shape c past)) (λ w. is-fault w (diary shape c now)) shape.workers
    (λ w less. let same = ap {B = ℕ} (λ (o : Option Fault). cond (is_some o) 1 0) (h c w) in omega (arith, same)))

-- One less where that of one worker is used up.
pub faults-less : (shape : Shape) (past now : List Deed) (c w : ℕ) → c < shape.controllers → w < shape.workers
    → is_some (pending w (diary shape c past)) ≡ true → pending w (diary shape c now) ≡ None
    → ((e v : ℕ) → (pending v (diary shape e now) ≡ pending v (diary shape e past)) ⊎ (pending v (diary shape e now) ≡ None))
    → faults_pending shape now < faults_pending shape past
faults-less shape past now c w lt less there gone others =
    total-less (λ e. faults-of shape.workers (diary shape e past)) (λ e. faults-of shape.workers (diary shape e now)) shape.controllers c lt
    (λ e l. total-most (λ v. is-fault v (diary shape e past)) (λ v. is-fault v (diary shape e now)) shape.workers (λ v m. none-more e v (others e v)))
    (total-less (λ v. is-fault v (diary shape c past)) (λ v. is-fault v (diary shape c now)) shape.workers w less (λ v m. none-more c v (others c v)) one-less)
  where
    none-more : (e v : ℕ) → (pending v (diary shape e now) ≡ pending v (diary shape e past)) ⊎ (pending v (diary shape e now) ≡ None) → is-fault v (diary shape e now) ≤ is-fault v (diary shape e past)
    none-more e v (inl h) = let same = ap {B = ℕ} (λ (o : Option Fault). cond (is_some o) 1 0) h in omega (arith, same)
    none-more e v (inr h) = let same = ap {B = ℕ} (λ (o : Option Fault). cond (is_some o) 1 0) h in omega (arith, same)

    one-less : is-fault w (diary shape c now) < is-fault w (diary shape c past)
    one-less =
        let zero-now = ap {B = ℕ} (λ (o : Option Fault). cond (is_some o) 1 0) gone in
        let one-then = ap {B = ℕ} (λ (b : Bool). cond b 1 0) there in omega (arith, zero-now, one-then)

-- A sync that ends well uses none up.
pub ended-pending : (v w : ℕ) (basis : Basis) (next : Option ℕ) (now : ℕ) (older : List Note) → pending v (Ended w basis (end.Ended next) now ∷ older) ≡ pending v older
ended-pending v w basis next now older = by (w == v)
  where
    by : (b : Bool) → unwrap_or (option_or (cond (b && false) (Some None) None) (newest (fault_told v) older)) None ≡ pending v older
    by true = refl
    by false = refl
