-- What a sync under way saw is what the log held; and one that has a pod to make yet had one before.
use Rattle.std.proofs.Common.{◌≡◌, ℕ, ◌+◌, ◌≤◌, ◌==◌, Bool, true, false, cond, List, [], ◌∷◌, ◌++◌, length, Option, Some, None, IfSome, refl, sym, ap, ◌∙◌, subst, arith}
use Rattle.std.proofs.lemmas.Option.{none-some as none_some}
use Rattle.std.specs.List.{AllByRecursion as Each}
use Rattle.std.specs.Option.{option_map, option_or, option_to_list, unwrap_or}
use Rattle.jc_types.specs.declared.objects.Entry.{Entry}
use Rattle.jc_types.specs.declared.objects.Job.{Job}
use Rattle.jc_types.specs.declared.objects.KeyNames.{KeyNames as Key}
use Rattle.jc_types.specs.declared.objects.Kind.{Kind}
use Rattle.jc_types.specs.declared.replies.Answer.{Answer}
use Rattle.jc_types.specs.declared.replies.Reply.{Reply}
use Rattle.jc_types.specs.declared.replies.Reply.TheVariants as reply
use Rattle.jc_types.specs.declared.replies.Request.{Request}
use Rattle.jc_types.specs.declared.runs.Shape.{Shape}
use Rattle.jc_states.specs.ObjectChanges.{JobStep}
use Rattle.jc_states.specs.declared.bases.Basis.{Basis}
use Rattle.jc_control.specs.declared.ends.SyncEnd.{SyncEnd}
use Rattle.jc_log.specs.Acts as does
use Rattle.jc_log.specs.Acts.{Act}
use Rattle.jc_log.specs.Deeds.{Deed}
use Rattle.jc_log.specs.Log.{job_in, upto}
use Rattle.jc_log.specs.Writes.{Stored}
use Rattle.jc_log.proofs.LastingFacts.{job_step_to}
use Rattle.jc_log.proofs.LogFacts.{upto-all}
use Rattle.jc_log.proofs.WriteFacts.{job_in-key}
use Rattle.jc_history.specs.Diaries.{end_by, moment, notes, notes_taken, on_answer, on_begin, on_clock, on_delivery, on_lag, on_list, on_step, restarts}
use Rattle.jc_history.specs.Legal.{IsLegal}
use Rattle.jc_history.specs.Lines.{line}
use Rattle.jc_history.specs.Notes.{Note, Asked, Began, Ended, Expired, Faulted, Listed, SentBack, Ticked, Told, newest}
use Rattle.jc_history.specs.Registers.{asked_by, asks_status, made, register, register_told}
use Rattle.jc_history.specs.Replies.{diary, log_given}
use Rattle.jc_history.proofs.DiaryFacts.{either}
use Rattle.jc_history.proofs.LegalFacts.{notes-next}
use Rattle.jc_settle.specs.Serial.{is_begin_of_any}
use Rattle.jc_settle.proofs.SerialFacts.{NoneBegins, none-noted, register-kept}
use Rattle.jc_sync.specs.Readings.{with_step}
use Rattle.jc_restarts.specs.Restarts.{IsPresent, MayMakePods}

-- ---- what a sync saw

module _ (log : List Entry) where
  -- The Job of the basis is that of its key, as the log held it at the number of the Job cache.
  abbrev pub SawJob : Basis → Type 0
  SawJob basis = basis.job ≡ job_in basis.key (upto basis.jobs_at.0 log)

  abbrev Saw : Note → Type 0
  Saw (Began worker basis) = SawJob basis
  Saw other = Unit {0}

  abbrev RegisterSaw : Option Basis → Type 0
  RegisterSaw o = IfSome o SawJob

  newest-saw : (w : ℕ) (notes : List Note) → Each Saw notes → IfSome (newest (register_told w) notes) RegisterSaw
  newest-saw w [] all = tt
  newest-saw w (Began worker b ∷ older) all = by (newest-saw w older all.1) (worker == w)
    where
      by : IfSome (newest (register_told w) older) RegisterSaw → (t : Bool) → IfSome (option_or (cond t (Some (Some b)) None) (newest (register_told w) older)) RegisterSaw
      by rest true = all.0
      by rest false = rest
  newest-saw w (Ended worker b end now ∷ older) all = by (newest-saw w older all.1) (worker == w)
    where
      by : IfSome (newest (register_told w) older) RegisterSaw → (t : Bool) → IfSome (option_or (cond t (Some None) None) (newest (register_told w) older)) RegisterSaw
      by rest true = tt
      by rest false = rest
  newest-saw w (Listed kind at keys ∷ older) all = newest-saw w older all.1
  newest-saw w (Told kind at key ∷ older) all = newest-saw w older all.1
  newest-saw w (Expired kind ∷ older) all = newest-saw w older all.1
  newest-saw w (SentBack key ∷ older) all = newest-saw w older all.1
  newest-saw w (Asked worker b request answer ∷ older) all = newest-saw w older all.1
  newest-saw w (Faulted worker fault ∷ older) all = newest-saw w older all.1
  newest-saw w (Ticked at ∷ older) all = newest-saw w older all.1

  register-saw : (w : ℕ) (notes : List Note) → Each Saw notes → RegisterSaw (register w notes)
  register-saw w notes all = by (newest (register_told w) notes) (newest-saw w notes all)
    where
      by : (o : Option (Option Basis)) → IfSome o RegisterSaw → RegisterSaw (unwrap_or o None)
      by None h = tt
      by (Some o) h = h

  both-saw : (first rest : List Note) → Each Saw first → Each Saw rest → Each Saw (first ++ rest)
  both-saw [] rest one all = all
  both-saw (note ∷ first) rest one all = (one.0, both-saw first rest one.1 all)

  lag-saw : (keys : List Key) → Each Saw (on_lag keys)
  lag-saw [] = tt
  lag-saw (k ∷ keys) = (tt, tt)

  begin-saw : (worker now : ℕ) (older : List Note) (r : Reply) → Each Saw (on_begin worker now log older r)
  begin-saw worker now older (reply.Begun key jobs_at pods_at) = (refl, tt)
  begin-saw worker now older (reply.Behind kind need have) = lag-saw (line older)
  begin-saw worker now older other = tt

  list-saw : (kind : Kind) (r : Reply) → Each Saw (on_list kind log r)
  list-saw kind (reply.Listed at) = (tt, tt)
  list-saw kind other = tt

  delivery-saw : (kind : Kind) (r : Reply) → Each Saw (on_delivery kind log r)
  delivery-saw kind (reply.Delivered version) = (tt, tt)
  delivery-saw kind (reply.Expired floor) = (tt, tt)
  delivery-saw kind other = tt

  clock-saw : (r : Reply) → Each Saw (on_clock r)
  clock-saw (reply.Now moment) = (tt, tt)
  clock-saw other = tt

  answer-saw : (worker : ℕ) (b : Basis) (now : ℕ) (asked : Request) (given : Answer) → Each Saw (on_answer worker b now asked given)
  answer-saw worker b now asked given = by (end_by (asks_status asked) given)
    where
      by : (o : Option SyncEnd) → Each Saw (option_to_list (option_map (λ end. Ended worker b end now) o) ++ Asked worker b asked given ∷ [])
      by None = (tt, tt)
      by (Some end) = (tt, (tt, tt))

  step-saw : (worker now : ℕ) (o : Option Basis) (r : Reply) → Each Saw (on_step worker now o r)
  step-saw worker now (Some b) (reply.Stepped asked given) = answer-saw worker b now asked given
  step-saw worker now (Some b) reply.Ended = (tt, tt)
  step-saw worker now (Some b) other = tt
  step-saw worker now None other = tt

  taken-saw : (c : ℕ) (act : Act) (r : Reply) (now : ℕ) (older : List Note) → Each Saw (notes_taken c act r now log older)
  taken-saw c (does.List controller kind) r now older = either Saw (controller == c) (on_list kind log r) (list-saw kind r)
  taken-saw c (does.Deliver controller kind) r now older = either Saw (controller == c) (on_delivery kind log r) (delivery-saw kind r)
  taken-saw c (does.Begin controller worker) r now older = either Saw (controller == c) (on_begin worker now log older r) (begin-saw worker now older r)
  taken-saw c (does.Step controller worker) r now older = either Saw (controller == c) (on_step worker now (register worker older) r) (step-saw worker now (register worker older) r)
  taken-saw c (does.PutFault controller worker fault) r now older = either Saw (controller == c) (Faulted worker fault ∷ []) (tt, tt)
  taken-saw c (does.Clock add) r now older = clock-saw r
  taken-saw c other r now older = tt

  notes-saw : (shape : Shape) (c : ℕ) (deeds : List Deed) → Each Saw (notes shape c deeds log)
  notes-saw shape c [] = tt
  notes-saw shape c (d ∷ deeds) = by (notes-saw shape c deeds) (restarts c d.act)
    where
      by : Each Saw (notes shape c deeds log) → (b : Bool) → Each Saw (cond b [] (notes_taken c d.act d.reply (moment shape deeds) log (notes shape c deeds log) ++ notes shape c deeds log))
      by rest true = tt
      by rest false =
          both-saw (notes_taken c d.act d.reply (moment shape deeds) log (notes shape c deeds log)) (notes shape c deeds log)
          (taken-saw c d.act d.reply (moment shape deeds) (notes shape c deeds log)) rest

-- A sync under way saw the Job of its key, as the log held it.
pub sync-saw : (shape : Shape) (past : List Deed) (basis : Basis) → MayMakePods shape past basis → SawJob (log_given shape past) basis
sync-saw shape past basis may = subst (λ o. IfSome o (SawJob (log_given shape past))) may.busy (register-saw (log_given shape past) may.worker (diary shape may.controller past) (notes-saw (log_given shape past) shape may.controller past))

-- Where that Job is there yet, it came by steps to what it is now.
pub saw-step : (log : List Entry) (basis : Basis) (job : Job) → Stored log → SawJob log basis → basis.job ≡ Some job → (there : IsPresent log job) → JobStep job there.now
saw-step log basis job stored saw is there =
    job_step_to basis.key basis.jobs_at.0 (basis.jobs_at.0 + length log) log stored (omega arith) job there.now (sym saw ∙ is)
    (ap (job_in basis.key) (upto-all (basis.jobs_at.0 + length log) log (omega arith)) ∙ ap (λ k. job_in k log) (sym key) ∙ there.there) there.uid
  where
    key : job.key ≡ basis.key
    key = job_in-key basis.key (upto basis.jobs_at.0 log) job (sym saw ∙ is)

-- ---- what it has made

-- They take no request back that the worker's sync has made.
made-more : (w : ℕ) (new older : List Note) → NoneBegins w new → length (made w older) ≤ length (made w (new ++ older))
made-more w [] older h = omega arith
made-more w (note ∷ new) older h =
    subst (λ b. length (made w older) ≤ length (cond b [] (with_step (asked_by w note) (made w (new ++ older))))) (sym h.0)
    (let rest = made-more w new older h.1 in let more = longer (asked_by w note) (made w (new ++ older)) in omega (arith, rest, more))
  where
    longer : (o : Option (Request × Answer)) (steps : List (Request × Answer)) → length steps ≤ length (with_step o steps)
    longer None steps = omega arith
    longer (Some step) steps = omega arith

-- A sync that has a pod to make after a deed that begins none had one before.
pub made-before : (shape : Shape) (past : List Deed) (d : Deed) (basis : Basis) → IsLegal shape past → is_begin_of_any d.act ≡ false → MayMakePods shape (d ∷ past) basis → MayMakePods shape past basis
made-before shape past d basis legal n may = record {
  controller = may.controller;
  within = may.within;
  worker = may.worker;
  below = may.below;
  busy = register-kept shape may.controller may.worker d past basis legal n may.busy;
  left = let few = may.left in let more = of (restarts may.controller d.act) refl in omega (arith, few, more);
}
  where
    older : List Note
    older = diary shape may.controller past

    taken : List Note
    taken = notes_taken may.controller d.act d.reply (moment shape past) (log_given shape (d ∷ past)) older

    are : (b : Bool) → restarts may.controller d.act ≡ b → diary shape may.controller (d ∷ past) ≡ cond b [] (taken ++ older)
    are b is = notes-next shape may.controller past d legal ∙ ap (λ t. cond t [] (taken ++ older)) is

    of : (b : Bool) → restarts may.controller d.act ≡ b → length (made may.worker older) ≤ length (made may.worker (diary shape may.controller (d ∷ past)))
    of true is = absurd (none_some basis (sym (ap (register may.worker) (are true is)) ∙ may.busy))
    of false is =
        let more = made-more may.worker taken older (none-noted may.worker may.controller d.act d.reply (moment shape past) (log_given shape (d ∷ past)) older n) in
        let same : length (made may.worker (diary shape may.controller (d ∷ past))) ≡ length (made may.worker (taken ++ older)) = ap (λ l. length (made may.worker l)) (are false is) in
        omega (arith, more, same)
