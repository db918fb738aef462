-- The notes of a controller after one more deed, and what they tell of its workers.
use Rattle.std.proofs.Common.{◌≡◌, ℕ, ◌==◌, Bool, true, false, cond, List, [], ◌∷◌, ◌++◌, Option, refl, sym, ap, ◌∙◌, subst, ne_eqb}
use Rattle.jc_log.specs.Acts as does
use Rattle.jc_types.specs.declared.objects.Entry.{Entry}
use Rattle.jc_types.specs.declared.objects.KeyNames.{KeyNames as Key}
use Rattle.jc_types.specs.declared.objects.Kind.{Kind}
use Rattle.jc_types.specs.declared.replies.Reply.{Reply}
use Rattle.jc_types.specs.declared.replies.Reply.TheVariants as reply
use Rattle.jc_types.specs.declared.runs.Shape.{Shape}
use Rattle.jc_log.specs.Acts.{Act}
use Rattle.jc_log.specs.Deeds.{Deed}
use Rattle.jc_history.specs.Diaries.{is_now, moment, notes_taken, notes, on_begin, on_clock, on_delivery, on_list, on_step, restarts, seconds, on_lag, ticks}
use Rattle.jc_history.specs.Follows.{TakesNoNote}
use Rattle.jc_history.specs.Legal.{IsLegal}
use Rattle.jc_history.specs.Notes.{Note, Faulted}
use Rattle.jc_history.specs.Registers.{pending, register}
use Rattle.jc_history.specs.Replies.{log_given}
use Rattle.jc_history.proofs.LegalFacts.{notes-next}
use Rattle.jc_runs.specs.Machines.{AreWorkers}
use Rattle.jc_asks.specs.Steps.{Sync}
use Rattle.jc_types.specs.declared.actions.End.{End}
use Rattle.jc_types.specs.declared.actions.Fault.{Fault}
use Rattle.jc_history.proofs.DeedSteps.{own}

-- ---- what notes tell of workers

pub record SameWorkers (xs ys : List Note) : Type 0 where
  pub registers : (w : ℕ) → register w xs ≡ register w ys
  pub faults : (w : ℕ) → pending w xs ≡ pending w ys

pub workers_same : (new old : List Note) (rs : List (Option Sync)) (fs : List (Option Fault)) → SameWorkers new old → AreWorkers old rs fs → AreWorkers new rs fs
workers_same new old rs fs s a = record {
  syncs = λ w sync e. s.registers w ∙ a.syncs w sync e;
  faults = λ w fault e. s.faults w ∙ a.faults w fault e;
}

pub nothing_new : (older : List Note) → SameWorkers older older
nothing_new older = record { registers = λ w. refl; faults = λ w. refl }

pub silent-list : (kind : Kind) (log : List Entry) (older : List Note) (r : Reply) → SameWorkers (on_list kind log r ++ older) older
silent-list kind log older (reply.Listed at) = record { registers = λ w. refl; faults = λ w. refl }
silent-list kind log older other = nothing_new older

pub silent-delivery : (kind : Kind) (log : List Entry) (older : List Note) (r : Reply) → SameWorkers (on_delivery kind log r ++ older) older
silent-delivery kind log older (reply.Delivered version) = record { registers = λ w. refl; faults = λ w. refl }
silent-delivery kind log older (reply.Expired floor) = record { registers = λ w. refl; faults = λ w. refl }
silent-delivery kind log older other = nothing_new older

pub silent-clock : (older : List Note) (r : Reply) → SameWorkers (on_clock r ++ older) older
silent-clock older (reply.Now moment) = record { registers = λ w. refl; faults = λ w. refl }
silent-clock older other = nothing_new older

pub silent-back : (older : List Note) (keys : List Key) → SameWorkers (on_lag keys ++ older) older
silent-back older [] = nothing_new older
silent-back older (k ∷ keys) = record { registers = λ w. refl; faults = λ w. refl }

-- ---- the notes after a deed

module _ (shape : Shape) (c : ℕ) (past : List Deed) (d : Deed) (h : IsLegal shape past) where
  -- Those of the act are the newest, unless the controller restarts.
  pub after_own : (act : Act) (r : Reply) → d.act ≡ act → d.reply ≡ r → restarts c act ≡ false
      → notes shape c (d ∷ past) (log_given shape (d ∷ past)) ≡ notes_taken c act r (moment shape past) (log_given shape (d ∷ past)) (notes shape c past (log_given shape past)) ++ notes shape c past (log_given shape past)
  after_own act r a e s =
      notes-next shape c past d h
      ∙ (λ i. cond (restarts c (a i)) [] (notes_taken c (a i) (e i) (moment shape past) (log_given shape (d ∷ past)) (notes shape c past (log_given shape past)) ++ notes shape c past (log_given shape past)))
      ∙ ap (λ b. cond b [] (notes_taken c act r (moment shape past) (log_given shape (d ∷ past)) (notes shape c past (log_given shape past)) ++ notes shape c past (log_given shape past))) s

  -- None where the deed is not the controller's.
  pub after_quiet : TakesNoNote shape past d c → notes shape c (d ∷ past) (log_given shape (d ∷ past)) ≡ notes shape c past (log_given shape past)
  after_quiet q =
      notes-next shape c past d h
      ∙ ap (λ b. cond b [] (notes_taken c d.act d.reply (moment shape past) (log_given shape (d ∷ past)) (notes shape c past (log_given shape past)) ++ notes shape c past (log_given shape past))) q.goes_on
      ∙ ap (λ new. new ++ notes shape c past (log_given shape past)) q.nothing

-- ---- whose deed it is

-- An act of the controller alone.
abbrev pub IsOf : ℕ → Act → Type 0
IsOf i (does.List controller kind) = controller ≡ i
IsOf i (does.Deliver controller kind) = controller ≡ i
IsOf i (does.Begin controller worker) = controller ≡ i
IsOf i (does.Step controller worker) = controller ≡ i
IsOf i (does.PutFault controller worker fault) = controller ≡ i
IsOf i (does.Restart controller) = controller ≡ i
IsOf i other = ⊥

-- An act on the store alone, or on nothing at all.
abbrev pub IsStoreAct : Act → Type 0
IsStoreAct (does.Fate key ends) = ⊥
IsStoreAct (does.List controller kind) = ⊥
IsStoreAct (does.Deliver controller kind) = ⊥
IsStoreAct (does.Begin controller worker) = ⊥
IsStoreAct (does.Step controller worker) = ⊥
IsStoreAct (does.PutFault controller worker fault) = ⊥
IsStoreAct (does.Restart controller) = ⊥
IsStoreAct (does.Clock add) = ⊥
IsStoreAct other = Unit {0}

record Silent (c : ℕ) (act : Act) : Type 0 where
  goes_on : restarts c act ≡ false
  nothing : (r : Reply) (now : ℕ) (log : List Entry) (older : List Note) → notes_taken c act r now log older ≡ []

other-than : (controller i c : ℕ) → controller ≡ i → (c ≡ i → ⊥) → (controller == c) ≡ false
other-than controller i c own apart = ne_eqb controller c (λ e. apart (sym e ∙ own))

others : (c i : ℕ) (act : Act) → IsOf i act → (c ≡ i → ⊥) → Silent c act
others c i (does.List controller kind) o n = record { goes_on = refl; nothing = λ r now log older. ap (λ b. cond b (on_list kind log r) []) (other-than controller i c o n) }
others c i (does.Deliver controller kind) o n = record { goes_on = refl; nothing = λ r now log older. ap (λ b. cond b (on_delivery kind log r) []) (other-than controller i c o n) }
others c i (does.Begin controller worker) o n = record { goes_on = refl; nothing = λ r now log older. ap (λ b. cond b (on_begin worker now log older r) []) (other-than controller i c o n) }
others c i (does.Step controller worker) o n = record { goes_on = refl; nothing = λ r now log older. ap (λ b. cond b (on_step worker now (register worker older) r) []) (other-than controller i c o n) }
others c i (does.PutFault controller worker fault) o n = record { goes_on = refl; nothing = λ r now log older. ap (λ b. cond b (Faulted worker fault ∷ []) []) (other-than controller i c o n) }
others c i (does.Restart controller) o n = record { goes_on = other-than controller i c o n; nothing = λ r now log older. refl }
others c i other o n = absurd o

of-store : (c : ℕ) (act : Act) → IsStoreAct act → Silent c act
of-store c (does.Fate key ends) s = absurd s
of-store c (does.List controller kind) s = absurd s
of-store c (does.Deliver controller kind) s = absurd s
of-store c (does.Begin controller worker) s = absurd s
of-store c (does.Step controller worker) s = absurd s
of-store c (does.PutFault controller worker fault) s = absurd s
of-store c (does.Restart controller) s = absurd s
of-store c (does.Clock add) s = absurd s
of-store c other s = record { goes_on = refl; nothing = λ r now log older. refl }

quiet : (shape : Shape) (past : List Deed) (d : Deed) (c : ℕ) → Silent c d.act → TakesNoNote shape past d c
quiet shape past d c s = record { goes_on = s.goes_on; nothing = s.nothing d.reply _ _ _ }

pub others_quiet : (shape : Shape) (past : List Deed) (d : Deed) (i : ℕ) → IsOf i d.act → (c : ℕ) → (c ≡ i → ⊥) → TakesNoNote shape past d c
others_quiet shape past d i o c n = quiet shape past d c (others c i d.act o n)

pub store_quiet : (shape : Shape) (past : List Deed) (d : Deed) → IsStoreAct d.act → (c : ℕ) → TakesNoNote shape past d c
store_quiet shape past d s c = quiet shape past d c (of-store c d.act s)

pub fate_quiet : (shape : Shape) (past : List Deed) (d : Deed) (key : Key) (ends : List End) → d.act ≡ does.Fate key ends → (c : ℕ) → TakesNoNote shape past d c
fate_quiet shape past d key ends e c = quiet shape past d c (subst (Silent c) (sym e) (record { goes_on = refl; nothing = λ r now log older. refl }))

-- Only the clock moves the moment.
pub still_of : (i : ℕ) (d : Deed) → IsOf i d.act → seconds d ≡ 0
still_of i d o = by (is_now d.reply) d.act o
  where
    by : (b : Bool) (act : Act) → IsOf i act → cond b (ticks act) 0 ≡ 0
    by false act o = refl
    by true (does.Clock add) o = absurd o
    by true other o = refl

pub still_store : (d : Deed) → IsStoreAct d.act → seconds d ≡ 0
still_store d s = by (is_now d.reply) d.act s
  where
    by : (b : Bool) (act : Act) → IsStoreAct act → cond b (ticks act) 0 ≡ 0
    by false act s = refl
    by true (does.Clock add) s = absurd s
    by true other s = refl

pub still_fate : (d : Deed) (key : Key) (ends : List End) → d.act ≡ does.Fate key ends → seconds d ≡ 0
still_fate d key ends e = by (is_now d.reply)
  where
    by : (b : Bool) → cond b (ticks d.act) 0 ≡ 0
    by true = ap ticks e
    by false = refl
