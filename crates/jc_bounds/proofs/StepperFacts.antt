-- Whose step a request is: the notes of a deed name the worker of its act.
use Rattle.std.proofs.Common.{◌≡◌, ℕ, ◌<◌, ◌==◌, Bool, true, false, cond, List, [], ◌∷◌, ◌++◌, length, Option, Some, None, is_some, refl, sym, ap, ◌∙◌, arith, eqb-true, true≢false}
use Rattle.std.specs.Option.{option_map, option_to_list, unwrap_or}
use Rattle.jc_log.specs.Acts as does
use Rattle.jc_control.specs.declared.ends.SyncEnd.{SyncEnd}
use Rattle.jc_types.specs.declared.objects.Entry.{Entry}
use Rattle.jc_types.specs.declared.objects.KeyNames.{KeyNames as Key}
use Rattle.jc_types.specs.declared.objects.Kind.{Kind}
use Rattle.jc_types.specs.declared.replies.Answer.{Answer}
use Rattle.jc_types.specs.declared.replies.Reply.{Reply}
use Rattle.jc_types.specs.declared.replies.Reply.TheVariants as reply
use Rattle.jc_types.specs.declared.replies.Request.{Request}
use Rattle.jc_states.specs.declared.bases.Basis.{Basis}
use Rattle.jc_log.specs.Acts.{Act}
use Rattle.jc_history.specs.Diaries.{end_by, notes_taken, on_begin, on_clock, on_delivery, on_lag, on_list, on_step, restarts}
use Rattle.jc_history.specs.Lines.{line}
use Rattle.jc_history.specs.Notes.{Note, Asked, Ended}
use Rattle.jc_history.specs.Registers.{asks_status, register}

-- The worker whose request or end the newest note tells.
abbrev worker_of : Note → Option ℕ
worker_of (Asked w basis asked given) = Some w
worker_of (Ended w basis end now) = Some w
worker_of other = None

abbrev pub newest_worker : List Note → Option ℕ
newest_worker [] = None
newest_worker (note ∷ older) = worker_of note

-- Notes that tell of none.
tells-none : (some old : List Note) (w : ℕ) → newest_worker some ≡ None → length old < length (some ++ old) → newest_worker (some ++ old) ≡ Some w → ⊥
tells-none [] old w none grew is = omega (arith, grew)
tells-none (note ∷ rest) old w none grew is = true≢false (sym (ap is_some (sym none ∙ is)))

either-none : (b : Bool) (some old : List Note) (w : ℕ) → newest_worker some ≡ None → length old < length (cond b some [] ++ old) → newest_worker (cond b some [] ++ old) ≡ Some w → ⊥
either-none true some old w none grew is = tells-none some old w none grew is
either-none false some old w none grew is = omega (arith, grew)

-- Those of a step tell of its worker.
tells-step : (v now : ℕ) (o : Option Basis) (r : Reply) (old : List Note) (w : ℕ) → length old < length (on_step v now o r ++ old) → newest_worker (on_step v now o r ++ old) ≡ Some w → v ≡ w
tells-step v now (Some basis) (reply.Stepped asked given) old w grew is = by (end_by (asks_status asked) given) is
  where
    by : (o : Option SyncEnd) → newest_worker ((option_to_list (option_map (λ end. Ended v basis end now) o) ++ Asked v basis asked given ∷ []) ++ old) ≡ Some w → v ≡ w
    by None e = ap (λ x. unwrap_or x v) e
    by (Some end) e = ap (λ x. unwrap_or x v) e
tells-step v now (Some basis) reply.Ended old w grew is = ap (λ x. unwrap_or x v) is
tells-step v now o other old w grew is = absurd (omega (arith, grew))

-- So the act of the notes is a step of the worker.
pub stepper : (act : Act) (r : Reply) (now : ℕ) (log : List Entry) (old : List Note) (w : ℕ) → let new = cond (restarts 0 act) [] (notes_taken 0 act r now log old ++ old) in
    length old < length new → newest_worker new ≡ Some w → act ≡ does.Step 0 w
stepper (does.Step c v) r now log old w grew is = by (c == 0) refl grew is
  where
    by : (b : Bool) → (c == 0) ≡ b → length old < length (cond b (on_step v now (register v old) r) [] ++ old) → newest_worker (cond b (on_step v now (register v old) r) [] ++ old) ≡ Some w → does.Step c v ≡ does.Step 0 w
    by true same grew is = ap (λ x. does.Step x v) (eqb-true c 0 same) ∙ ap (does.Step 0) (tells-step v now (register v old) r old w grew is)
    by false same grew is = absurd (omega (arith, grew))
stepper (does.List c kind) r now log old w grew is = absurd (either-none (c == 0) (on_list kind log r) old w (by r) grew is)
  where
    by : (r : Reply) → newest_worker (on_list kind log r) ≡ None
    by (reply.Listed at) = refl
    by other = refl
stepper (does.Deliver c kind) r now log old w grew is = absurd (either-none (c == 0) (on_delivery kind log r) old w (by r) grew is)
  where
    by : (r : Reply) → newest_worker (on_delivery kind log r) ≡ None
    by (reply.Delivered version) = refl
    by (reply.Expired floor) = refl
    by other = refl
stepper (does.Begin c v) r now log old w grew is = absurd (either-none (c == 0) (on_begin v now log old r) old w (by r) grew is)
  where
    sent : (some : List Key) → newest_worker (on_lag some) ≡ None
    sent [] = refl
    sent (k ∷ rest) = refl

    by : (r : Reply) → newest_worker (on_begin v now log old r) ≡ None
    by (reply.Begun key jobs_at pods_at) = refl
    by (reply.Behind kind need have) = sent (line old)
    by other = refl
stepper (does.PutFault c v fault) r now log old w grew is = absurd (either-none (c == 0) _ old w refl grew is)
stepper (does.Clock add) r now log old w grew is = absurd (tells-none (on_clock r) old w (by r) grew is)
  where
    by : (r : Reply) → newest_worker (on_clock r) ≡ None
    by (reply.Now moment) = refl
    by other = refl
stepper (does.Restart c) r now log old w grew is = absurd (by (c == 0) grew)
  where
    by : (b : Bool) → length old < length (cond b [] old) → ⊥
    by true grew = omega (arith, grew)
    by false grew = omega (arith, grew)
stepper other r now log old w grew is = absurd (omega (arith, grew))
