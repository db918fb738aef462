-- Where no command puts a fault, none is pending; so a settle comes to a calm state without one.
use Rattle.std.proofs.Common.{◌≡◌, ℕ, zero, suc, ◌<◌, ◌==◌, Bool, true, false, cond, List, [], ◌∷◌, ◌++◌, Option, Some, None, option_map, is_some, refl, sym, ap, subst, arith, true≢false}
use Rattle.std.specs.List.{AllByRecursion as Each}
use Rattle.std.specs.Option.{option_or, option_to_list, unwrap_or}
use Rattle.jc_types.specs.declared.actions.Fault.{Fault}
use Rattle.jc_types.specs.declared.objects.Entry.{Entry}
use Rattle.jc_types.specs.declared.objects.KeyNames.{KeyNames as Key}
use Rattle.jc_types.specs.declared.objects.Kind.{Kind}
use Rattle.jc_types.specs.declared.replies.Answer.{Answer}
use Rattle.jc_types.specs.declared.replies.Reply.{Reply}
use Rattle.jc_types.specs.declared.replies.Reply.TheVariants as reply
use Rattle.jc_types.specs.declared.replies.Request.{Request}
use Rattle.jc_types.specs.declared.runs.Shape.{Shape}
use Rattle.jc_states.specs.declared.bases.Basis.{Basis}
use Rattle.jc_log.specs.Acts as does
use Rattle.jc_log.specs.Acts.{Act}
use Rattle.jc_log.specs.Deeds.{Deed}
use Rattle.jc_log.specs.Range.{IsMoment}
use Rattle.jc_history.specs.Lines.{line}
use Rattle.jc_history.specs.Notes.{Note, Asked, Ended, Faulted, newest}
use Rattle.jc_runs.specs.Diaries.{end_by, moment, notes, notes_taken, on_answer, on_begin, on_clock, on_delivery, on_lag, on_list, on_step, restarts}
use Rattle.jc_runs.specs.Legal.{IsLegal}
use Rattle.jc_runs.specs.Machines.{AllAskValid}
use Rattle.jc_runs.specs.Registers.{asks_status, fault_told, pending, register}
use Rattle.jc_runs.specs.Replies.{diary, log_given}
use Rattle.jc_runs.specs.Steps.{SyncEnd}
use Rattle.jc_settle.specs.Settles.{CalmsDown, IsCalm, settled_on}
use Rattle.jc_settle.specs.Totals.{total}
use Rattle.jc_settle.proofs.CalmFacts.{calms-down}
use Rattle.jc_settle.proofs.OnFacts.{on-legal}
use Rattle.jc_calm.specs.SettleTurns.{faults_pending}
use Rattle.jc_bounded.specs.Faultless.{ComesFaultless, PutsNoFault, puts_fault}
use Rattle.jc_bounded.proofs.OnwardFacts.{on-says}

-- ---- notes

abbrev TellsNone : Note → Type 0
TellsNone (Faulted worker fault) = ⊥
TellsNone other = Unit {0}

-- What is told first, and then this.
or-none : (o p : Option (Option Fault)) → unwrap_or o None ≡ None → unwrap_or p None ≡ None → unwrap_or (option_or o p) None ≡ None
or-none None p first rest = rest
or-none (Some fault) p first rest = first

ended-none : (b : Bool) → unwrap_or (cond {A = Option (Option Fault)} b (Some None) None) None ≡ None
ended-none true = refl
ended-none false = refl

told-none : (w : ℕ) (note : Note) → TellsNone note → unwrap_or (fault_told w note) None ≡ None
told-none w (Faulted worker fault) h = absurd h
told-none w (Ended worker basis end now) h = ended-none _
told-none w other h = refl

notes-none : (w : ℕ) (notes : List Note) → Each TellsNone notes → pending w notes ≡ None
notes-none w [] all = refl
notes-none w (note ∷ older) all = or-none (fault_told w note) (newest (fault_told w) older) (told-none w note all.0) (notes-none w older all.1)

-- ---- what is noted of an act that puts none

if-none : (b : Bool) (notes : List Note) → Each TellsNone notes → Each TellsNone (cond b notes [])
if-none true notes all = all
if-none false notes all = tt

both-none : (first rest : List Note) → Each TellsNone first → Each TellsNone rest → Each TellsNone (first ++ rest)
both-none [] rest one all = all
both-none (note ∷ first) rest one all = (one.0, both-none first rest one.1 all)

module _ (log : List Entry) (now : ℕ) where
  lag-none : (keys : List Key) → Each TellsNone (on_lag keys)
  lag-none [] = tt
  lag-none (k ∷ keys) = (tt, tt)

  begin-none : (worker : ℕ) (older : List Note) (r : Reply) → Each TellsNone (on_begin worker now log older r)
  begin-none worker older (reply.Begun key jobs_at pods_at) = (tt, tt)
  begin-none worker older (reply.Behind kind need have) = lag-none (line older)
  begin-none worker older other = tt

  list-none : (kind : Kind) (r : Reply) → Each TellsNone (on_list kind log r)
  list-none kind (reply.Listed at) = (tt, tt)
  list-none kind other = tt

  delivery-none : (kind : Kind) (r : Reply) → Each TellsNone (on_delivery kind log r)
  delivery-none kind (reply.Delivered version) = (tt, tt)
  delivery-none kind (reply.Expired floor) = (tt, tt)
  delivery-none kind other = tt

  clock-none : (r : Reply) → Each TellsNone (on_clock r)
  clock-none (reply.Now moment) = (tt, tt)
  clock-none other = tt

  answer-none : (worker : ℕ) (b : Basis) (asked : Request) (given : Answer) → Each TellsNone (on_answer worker b now asked given)
  answer-none worker b asked given = by (end_by (asks_status asked) given)
    where
      by : (o : Option SyncEnd) → Each TellsNone (option_to_list (option_map (λ end. Ended worker b end now) o) ++ Asked worker b asked given ∷ [])
      by None = (tt, tt)
      by (Some end) = (tt, (tt, tt))

  step-none : (worker : ℕ) (o : Option Basis) (r : Reply) → Each TellsNone (on_step worker now o r)
  step-none worker (Some b) (reply.Stepped asked given) = answer-none worker b asked given
  step-none worker (Some b) reply.Ended = (tt, tt)
  step-none worker (Some b) other = tt
  step-none worker None other = tt

  taken-none : (c : ℕ) (act : Act) (r : Reply) (older : List Note) → puts_fault act ≡ false → Each TellsNone (notes_taken c act r now log older)
  taken-none c (does.List controller kind) r older h = if-none (controller == c) (on_list kind log r) (list-none kind r)
  taken-none c (does.Deliver controller kind) r older h = if-none (controller == c) (on_delivery kind log r) (delivery-none kind r)
  taken-none c (does.Begin controller worker) r older h = if-none (controller == c) (on_begin worker now log older r) (begin-none worker older r)
  taken-none c (does.Step controller worker) r older h = if-none (controller == c) (on_step worker now (register worker older) r) (step-none worker (register worker older) r)
  taken-none c (does.PutFault controller worker fault) r older h = absurd (true≢false h)
  taken-none c (does.Clock add) r older h = clock-none r
  taken-none c other r older h = tt

all-none : (shape : Shape) (c : ℕ) (deeds : List Deed) (log : List Entry) → PutsNoFault deeds → Each TellsNone (notes shape c deeds log)
all-none shape c [] log puts = tt
all-none shape c (d ∷ deeds) log puts = by (all-none shape c deeds log puts.1) (restarts c d.act)
  where
    older : List Note
    older = notes shape c deeds log

    by : Each TellsNone older → (b : Bool) → Each TellsNone (cond b [] (notes_taken c d.act d.reply (moment shape deeds) log older ++ older))
    by rest true = tt
    by rest false =
        both-none (notes_taken c d.act d.reply (moment shape deeds) log older) older
        (taken-none log (moment shape deeds) c d.act d.reply older puts.0) rest

-- ---- none is pending

total-none : (f : ℕ → ℕ) (n : ℕ) → ((e : ℕ) → f e ≡ 0) → total f n ≡ 0
total-none f zero h = refl
total-none f (suc n) h = let here = h n in let more = total-none f n h in omega (arith, here, more)

none-pending : (shape : Shape) (past : List Deed) → PutsNoFault past → faults_pending shape past ≡ 0
none-pending shape past puts =
    total-none _ shape.controllers (λ c. total-none _ shape.workers (λ w. ap {B = ℕ} (λ (o : Option Fault). cond (is_some o) 1 0) (notes-none w (diary shape c past) (all-none shape c past (log_given shape past) puts))))

pub comes-faultless : (shape : Shape) (past : List Deed) → 0 < shape.workers → IsMoment shape.start → IsLegal shape past → AllAskValid past → PutsNoFault past → ComesFaultless shape past
comes-faultless shape past some start legal valid puts = by (calms-down shape some past legal)
  where
    by : CalmsDown shape past → ComesFaultless shape past
    by h = record {
      events = h.events;
      faultless = record {
        between = record {
          workers = some;
          start = start;
          legal = on-legal shape h.events past legal;
          valid = (on-says shape h.events past).valid valid;
          calm = subst (IsCalm shape) (sym h.are) h.calm;
        };
        faults = none-pending shape (settled_on shape h.events past) ((on-says shape h.events past).faults puts);
      };
    }
