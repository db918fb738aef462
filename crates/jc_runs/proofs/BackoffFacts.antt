-- The failures that are known of keys: they count pods of the log, so that they stay small.
use Rattle.std.proofs.Common.{◌≡◌, ℕ, suc, ◌*◌, ◌≤◌, ◌==◌, ◌^◌, Bool, true, false, cond, List, [], ◌∷◌, ◌++◌, length, Option, Some, None, is_some, refl, sym, ap, subst, arith, true≢false}
use Rattle.std.specs.Option.{option_map, option_or, option_to_list, unwrap_or}
use Rattle.std.proofs.lemmas.Option.{same_Some, none-some as none_some}
use Rattle.jc_log.specs.Acts as does
use Rattle.jc_log.specs.Acts.{Act}
use Rattle.jc_log.specs.Deeds.{Deed}
use Rattle.jc_log.specs.Requests.{grown}
use Rattle.jc_types.specs.declared.actions.Fault.{Fault}
use Rattle.jc_types.specs.declared.objects.Entry.{Entry}
use Rattle.jc_types.specs.declared.objects.KeyNames.{KeyNames as Key}
use Rattle.jc_types.specs.declared.objects.Kind.{Kind}
use Rattle.jc_types.specs.declared.replies.Answer.{Answer}
use Rattle.jc_types.specs.declared.replies.Reply.{Reply}
use Rattle.jc_types.specs.declared.replies.Reply.TheVariants as reply
use Rattle.jc_types.specs.declared.replies.Request.{Request}
use Rattle.jc_types.specs.declared.runs.Shape.{Shape}
use Rattle.jc_types.specs.declared.syncs.Backoff.{Backoff}
use Rattle.jc_states.specs.declared.bases.Basis.{Basis}
use Rattle.jc_control.specs.declared.ends.SyncEnd.{SyncEnd}
use Rattle.jc_log.proofs.PodFacts.{pods_under-few}
use Rattle.jc_plan.proofs.BackoffFacts.{plan-dated, plan-failures}
use Rattle.jc_plan.specs.Plans.{IsDated, planned}
use Rattle.jc_history.specs.Diaries.{end_by, moment, notes, notes_taken, on_begin, on_clock, on_delivery, on_lag, on_list, on_step, restarts}
use Rattle.jc_history.specs.Fresh.{basis as basis_at}
use Rattle.jc_history.specs.Legal.{IsLegal}
use Rattle.jc_history.specs.Lines.{line}
use Rattle.jc_history.specs.Notes.{Note, Asked, Ended, Faulted, newest}
use Rattle.jc_history.specs.Registers.{asks_status, backoff, keeps_backoff, register, register_told}
use Rattle.jc_history.specs.Replies.{gives, log_given}
use Rattle.jc_history.proofs.LegalFacts.{notes-next}

-- A deed appends at most one entry.
pub log_short : (shape : Shape) (deeds : List Deed) → length (log_given shape deeds) ≤ length deeds
unfolding log_given
log_short shape [] = omega arith
log_short shape (d ∷ past) = by (log_short shape past) (gives shape past (log_given shape past) d.act).entry
  where
    by : length (log_given shape past) ≤ length past → (o : Option Entry) → length (grown (log_given shape past) o) ≤ suc (length past)
    by ih None = omega (arith, ih)
    by ih (Some e) = omega (arith, ih)

-- ---- what notes tell of failures

-- Each of so many deeds has added a history's number of failures at most, and where there are some the last is dated.
pub record IsSmall (n : ℕ) (known : Backoff) : Type 0 where
  pub failures : known.failures ≤ n * 200000
  pub dated : IsDated known

-- So it is where a sync began, and it sees no more pods than there were deeds.
record BeganSmall (n : ℕ) (basis : Basis) : Type 0 where
  small : IsSmall n basis.backoff
  few : length basis.pods ≤ n

record AreSmall (n : ℕ) (notes : List Note) : Type 0 where
  keys : (k : Key) → IsSmall n (backoff k notes)
  syncs : (w : ℕ) (basis : Basis) → register w notes ≡ Some basis → BeganSmall n basis

more_small : (n : ℕ) (known : Backoff) → IsSmall n known → IsSmall (suc n) known
more_small n known s = let f = s.failures in record { failures = omega (arith, f); dated = s.dated }

more : (n : ℕ) (notes : List Note) → AreSmall n notes → AreSmall (suc n) notes
more n notes s = record {
  keys = λ k. more_small n (backoff k notes) (s.keys k);
  syncs = λ w basis e. let b = s.syncs w basis e in let few = b.few in record { small = more_small n basis.backoff b.small; few = omega (arith, few) };
}

no_notes : (n : ℕ) → AreSmall n []
no_notes n = record {
  keys = λ k. record { failures = omega arith; dated = λ some. absurd (omega (arith, some)) };
  syncs = λ w basis e. absurd (true≢false (sym (ap is_some e)));
}

-- What a sync that began so comes to.
plan_small : (n : ℕ) (basis : Basis) → n ≤ 200000 → BeganSmall n basis → IsSmall (suc n) (planned basis).backoff
plan_small n basis bound b =
    let rise = plan-failures basis in
    let small = b.small.failures in
    let few = b.few in
    record { failures = omega (arith, rise, small, few, bound); dated = plan-dated basis b.small.dated }

module _ (n : ℕ) (older : List Note) (s : AreSmall n older) where
  quiet_list : (kind : Kind) (log : List Entry) (r : Reply) → AreSmall n (on_list kind log r ++ older)
  quiet_list kind log (reply.Listed at) = record { keys = s.keys; syncs = s.syncs }
  quiet_list kind log other = s

  quiet_delivery : (kind : Kind) (log : List Entry) (r : Reply) → AreSmall n (on_delivery kind log r ++ older)
  quiet_delivery kind log (reply.Delivered version) = record { keys = s.keys; syncs = s.syncs }
  quiet_delivery kind log (reply.Expired floor) = record { keys = s.keys; syncs = s.syncs }
  quiet_delivery kind log other = s

  quiet_clock : (r : Reply) → AreSmall n (on_clock r ++ older)
  quiet_clock (reply.Now moment) = record { keys = s.keys; syncs = s.syncs }
  quiet_clock other = s

  quiet_lag : (keys : List Key) → AreSmall n (on_lag keys ++ older)
  quiet_lag [] = s
  quiet_lag (k ∷ keys) = record { keys = s.keys; syncs = s.syncs }

  quiet_fault : (worker : ℕ) (fault : Fault) → AreSmall n (Faulted worker fault ∷ older)
  quiet_fault worker fault = record { keys = s.keys; syncs = s.syncs }

  ended_small : (worker : ℕ) (basis : Basis) (end : SyncEnd) (now : ℕ) → AreSmall n (Ended worker basis end now ∷ older)
  ended_small worker basis end now = record { keys = s.keys; syncs = λ w b. by w b (worker == w) }
    where
      by : (w : ℕ) (b : Basis) (x : Bool) → unwrap_or (option_or (cond x (Some None) None) (newest (register_told w) older)) None ≡ Some b → BeganSmall n b
      by w b true e = absurd (none_some b e)
      by w b false e = s.syncs w b e

module _ (n : ℕ) (bound : n ≤ 200000) (older : List Note) (s : AreSmall n older) where
  abbrev later : AreSmall (suc n) older
  later = more n older s

  begin_small : (worker now : ℕ) (log : List Entry) → length log ≤ suc n → (r : Reply) → AreSmall (suc n) (on_begin worker now log older r ++ older)
  begin_small worker now log short (reply.Begun key jobs_at pods_at) = record { keys = later.keys; syncs = λ w b. by w b (worker == w) }
    where
      fresh : BeganSmall (suc n) (basis_at older log now key jobs_at pods_at)
      fresh = let few = pods_under-few key pods_at.0 log in record { small = later.keys key; few = omega (arith, few, short) }

      by : (w : ℕ) (b : Basis) (x : Bool) → unwrap_or (option_or (cond x (Some (Some (basis_at older log now key jobs_at pods_at))) None) (newest (register_told w) older)) None ≡ Some b → BeganSmall (suc n) b
      by w b true e = subst (BeganSmall (suc n)) (same_Some (basis_at older log now key jobs_at pods_at) b e) fresh
      by w b false e = later.syncs w b e
  begin_small worker now log short (reply.Behind kind need have) = quiet_lag (suc n) older later (line older)
  begin_small worker now log short other = later

  asked_small : (worker : ℕ) (basis : Basis) (asked : Request) (given : Answer) → register worker older ≡ Some basis → AreSmall (suc n) (Asked worker basis asked given ∷ older)
  asked_small worker basis asked given e = record { keys = λ k. by k (keeps_backoff k (Asked worker basis asked given) older); syncs = later.syncs }
    where
      by : (k : Key) (x : Bool) → IsSmall (suc n) (cond x (planned basis).backoff (backoff k older))
      by k true = plan_small n basis bound (s.syncs worker basis e)
      by k false = later.keys k

  step_small : (worker now : ℕ) (o : Option Basis) (r : Reply) → register worker older ≡ o → AreSmall (suc n) (on_step worker now o r ++ older)
  step_small worker now (Some basis) (reply.Stepped asked given) e = by (end_by (asks_status asked) given)
    where
      by : (o : Option SyncEnd) → AreSmall (suc n) ((option_to_list (option_map (λ end. Ended worker basis end now) o) ++ Asked worker basis asked given ∷ []) ++ older)
      by None = asked_small worker basis asked given e
      by (Some end) = ended_small (suc n) (Asked worker basis asked given ∷ older) (asked_small worker basis asked given e) worker basis end now
  step_small worker now (Some basis) reply.Ended e = ended_small (suc n) older later worker basis _ now
  step_small worker now (Some basis) other e = later
  step_small worker now None r e = later

  small_if : (b : Bool) (new : List Note) → AreSmall (suc n) (new ++ older) → AreSmall (suc n) (cond b new [] ++ older)
  small_if true new more = more
  small_if false new more = later

  act_small : (c now : ℕ) (log : List Entry) → length log ≤ suc n → (act : Act) (r : Reply) → AreSmall (suc n) (notes_taken c act r now log older ++ older)
  act_small c now log short (does.List controller kind) r = small_if (controller == c) (on_list kind log r) (quiet_list (suc n) older later kind log r)
  act_small c now log short (does.Deliver controller kind) r = small_if (controller == c) (on_delivery kind log r) (quiet_delivery (suc n) older later kind log r)
  act_small c now log short (does.Begin controller worker) r = small_if (controller == c) (on_begin worker now log older r) (begin_small worker now log short r)
  act_small c now log short (does.Step controller worker) r =
      small_if (controller == c) (on_step worker now (register worker older) r) (step_small worker now (register worker older) r refl)
  act_small c now log short (does.PutFault controller worker fault) r = small_if (controller == c) (Faulted worker fault ∷ []) (quiet_fault (suc n) older later worker fault)
  act_small c now log short (does.Clock add) r = quiet_clock (suc n) older later r
  act_small c now log short other r = later

-- So it is after each legal history that is not too long.
legal_small : (shape : Shape) (c : ℕ) (deeds : List Deed) → IsLegal shape deeds → length deeds ≤ 200000 → AreSmall (length deeds) (notes shape c deeds (log_given shape deeds))
legal_small shape c [] legal bound = no_notes 0
legal_small shape c (d ∷ past) legal bound =
    subst (AreSmall (suc (length past))) (sym (notes-next shape c past d legal.1))
    (by (restarts c d.act) (act_small (length past) (omega (arith, bound)) (notes shape c past (log_given shape past)) (legal_small shape c past legal.1 (omega (arith, bound)))
    c (moment shape past) (log_given shape (d ∷ past)) (log_short shape (d ∷ past)) d.act d.reply))
  where
    older : List Note
    older = notes shape c past (log_given shape past)

    new : List Note
    new = notes_taken c d.act d.reply (moment shape past) (log_given shape (d ∷ past)) older

    by : (b : Bool) → AreSmall (suc (length past)) (new ++ older) → AreSmall (suc (length past)) (cond b [] (new ++ older))
    by true s = no_notes (suc (length past))
    by false s = s

-- The failures of a key after a legal history fit a plan.
pub failures_small : (shape : Shape) (c : ℕ) (deeds : List Deed) → IsLegal shape deeds → length deeds ≤ 200000 → (k : Key) → (backoff k (notes shape c deeds (log_given shape deeds))).failures ≤ 2 ^ 63
failures_small shape c deeds legal bound k = let small = (legal_small shape c deeds legal bound).keys k in let f = small.failures in omega (arith, f, bound)

pub failures_dated : (shape : Shape) (c : ℕ) (deeds : List Deed) → IsLegal shape deeds → length deeds ≤ 200000 → (k : Key) → IsDated (backoff k (notes shape c deeds (log_given shape deeds)))
failures_dated shape c deeds legal bound k = ((legal_small shape c deeds legal bound).keys k).dated
