-- A sync that begins while both caches have seen the whole log reaches the next status of its Job.
--     Reached ..     the last reply, the Job then, and what was written
use Rattle.std.proofs.Common.{◌≡◌, ℕ, ◌==◌, Bool, true, false, cond, List, [], ◌∷◌, ◌++◌, drop, map, slice_get, Option, Some, None, is_none, is_some, refl, sym, ap, ◌∙◌, subst, arith, true≢false}
use Rattle.std.proofs.lemmas.Bool.{eqb-false}
use Rattle.std.proofs.lemmas.List.{map-append}
use Rattle.std.specs.List.{AllByRecursion as Each}
use Rattle.std.specs.Option.{option_or, unwrap_or}
use Rattle.jc_log.specs.Acts as does
use Rattle.jc_team.specs.Schedules.{log_end}
use Rattle.jc_types.specs.declared.objects.Entry.{Entry}
use Rattle.jc_types.specs.declared.objects.Job.{Job}
use Rattle.jc_types.specs.declared.objects.KeyNames.{KeyNames as Key}
use Rattle.jc_types.specs.declared.replies.Reply.{Reply}
use Rattle.jc_types.specs.declared.replies.Reply.TheVariants as reply
use Rattle.jc_types.specs.declared.runs.Past.{Past}
use Rattle.jc_types.specs.declared.runs.Shape.{Shape}
use Rattle.jc_runs.specs.Basis.{Basis}
use Rattle.jc_runs.specs.Bases.{own_pods}
use Rattle.jc_log.specs.Deeds.{Deed, deed}
use Rattle.jc_log.specs.Log.{job_in, pods_under}
use Rattle.jc_log.specs.Requests.{Answered, grown, refused}
use Rattle.jc_runs.specs.Next.{next_status}
use Rattle.jc_history.specs.Diaries.{moment, notes, notes_after}
use Rattle.jc_history.specs.Fresh.{basis}
use Rattle.jc_history.specs.Legal.{IsLegal}
use Rattle.jc_history.specs.Lines.{line}
use Rattle.jc_history.specs.Notes.{Note, Began, newest}
use Rattle.jc_history.specs.Registers.{backoff, register, register_told}
use Rattle.jc_history.specs.Replies.{begin_gives, diary, gives, log_given}
use Rattle.jc_order.proofs.EndFacts.{end-begins}
use Rattle.jc_runs.specs.QuietRuns.{AreSteps, BeginsCurrent, IsAtNext, IsQuietSync, SyncRun, WritesNoStatus, backoff_at_begin, log_at_begin, log_at_end, status_due}
use Rattle.jc_runs.specs.Machines.{AllAskValid}
use Rattle.jc_runs.specs.Seen.{Seen, deeds_in, deeds_seen, happened, log_seen, past_seen, reply_seen}
use Rattle.jc_machine.specs.DiariesSeen.{diary_seen}
use Rattle.jc_machine.specs.SyncsSeen.{StartsCurrent, IsLast, StepsOn, begin_event, next_seen, tells_begin}

-- ---- what the laws of syncs on current caches say

abbrev pub EndsWell : Type 0
EndsWell = (s : SyncRun) → IsQuietSync s → s.last.reply ≡ reply.Ended

abbrev pub ComesToNext : Type 0
ComesToNext = (s : SyncRun) → IsQuietSync s → IsAtNext (log_at_end s) (log_at_begin s) (moment s.shape s.past) (backoff_at_begin s) s.key s.job

abbrev pub WritesNothing : Type 0
WritesNothing = (s : SyncRun) → IsQuietSync s → status_due s ≡ s.job.status → Each (λ (x : Deed). WritesNoStatus x.reply) (s.last ∷ s.run)

-- ---- of lists

first-is : (keys : List Key) (k : Key) → slice_get keys 0 ≡ Some k → keys ≡ k ∷ drop 1 keys
first-is [] k e = absurd (true≢false (sym (ap is_some e)))
first-is (x ∷ keys) k e = ap (λ o. unwrap_or o x ∷ keys) e

pub legal-before : (shape : Shape) (run past : List Deed) → IsLegal shape (run ++ past) → IsLegal shape past
legal-before shape [] past legal = legal
legal-before shape (d ∷ run) past legal = legal-before shape run past legal.1

pub none-is : {A : Type 0} (o : Option A) → is_none o ≡ true → o ≡ None
none-is None e = refl
none-is (Some x) e = absurd (true≢false (sym e))

silent-pasts : (f : Past → Deed) → ((p : Past) → (f p).reply ≡ p.reply) → (run : List Past) → Each (λ (x : Deed). WritesNoStatus x.reply) (map f run) → Each (λ (p : Past). WritesNoStatus p.reply) run
silent-pasts f same [] all = tt
silent-pasts f same (p ∷ run) all = (subst WritesNoStatus (same p) all.0, silent-pasts f same run all.1)

same-itself : (n : ℕ) → (n == n) ≡ true
same-itself n = by (n == n) refl
  where
    by : (b : Bool) → (n == n) ≡ b → b ≡ true
    by true e = refl
    by false e = let other = eqb-false n n e in absurd (omega (arith, other))

-- The worker whose sync began is in use.
began-busy : (c w : ℕ) (b : Basis) (older : List Note) → is_some (register w (cond (c == c) (Began w b ∷ []) [] ++ older)) ≡ true
began-busy c w b older =
    ap (λ x. is_some (register w (cond x (Began w b ∷ []) [] ++ older))) (same-itself c)
    ∙ ap (λ x. is_some (unwrap_or (option_or (cond x (Some (Some b)) None) (newest (register_told w) older)) None)) (same-itself w)

-- ---- the begin

module _ (old : Seen) (c w : ℕ) (k : Key) (job : Job) (cur : StartsCurrent old c w k job) where
  abbrev past : List Deed
  past = deeds_seen old

  abbrev log : List Entry
  log = log_seen old

  abbrev begun : Past
  begun = past_seen old (begin_event c w)

  abbrev d : Deed
  d = deed old.script begun

  module _ (legal : IsLegal old.shape past) where
    gives-begin : gives old.shape past log (does.Begin c w) ≡ refused (reply.Begun k (log_end log) (log_end log))
    unfolding gives
    gives-begin = λ i. begin_gives (cur.free i) (end-begins old.shape c past legal cur.caches (moment old.shape past) k (drop 1 (line (diary_seen old c))) (first-is (line (diary_seen old c)) k cur.first) i)

    pub told-begin : reply_seen old (begin_event c w) ≡ reply.Begun k (log_end log) (log_end log)
    told-begin = ap (λ (a : Answered). a.reply) gives-begin

    same-log : log_given old.shape (d ∷ past) ≡ log
    unfolding log_given
    same-log = ap (λ (a : Answered). grown log a.entry) gives-begin

    current : IsLegal old.shape (d ∷ past) → BeginsCurrent old.shape c w d past k job
    current legal-one = record {
      legal = legal-one;
      act = refl;
      reply_is = told-begin ∙ ap (λ l. reply.Begun k (log_end l) (log_end l)) (sym same-log);
      there = ap (job_in k) same-log ∙ cur.there;
      no_fault = cur.no_fault;
    }

    busy : is_some (register w (diary old.shape c (d ∷ past))) ≡ true
    busy =
        ap (λ r. is_some (register w (notes_after c (record d { reply = r }) (moment old.shape past) (log_given old.shape (d ∷ past)) (notes old.shape c past (log_given old.shape (d ∷ past)))))) told-begin
        ∙ began-busy c w (basis (notes old.shape c past (log_given old.shape (d ∷ past))) (log_given old.shape (d ∷ past)) (moment old.shape past) k (log_end log) (log_end log)) (notes old.shape c past (log_given old.shape (d ∷ past)))

    -- So a sync begins.
    pub begins-told : (r : Reply) (b : Bool) → r ≡ reply_seen old (begin_event c w) → b ≡ tells_begin r → b ≡ false → ⊥
    begins-told r b is test silent = true≢false (sym (ap tells_begin (is ∙ told-begin)) ∙ sym test ∙ silent)

    -- ---- the whole sync

    -- The deeds of the sync, up to this last one.
    abbrev sync_run : Past → List Past → SyncRun
    sync_run last run = record {
      shape = old.shape;
      controller = c;
      worker = w;
      key = k;
      job = job;
      past = past;
      begin = d;
      run = deeds_in old.script run;
      last = deed old.script last;
    }

    module _ (ends : EndsWell) (comes : ComesToNext) (nothing : WritesNothing) where
      -- What came of it.
      pub record Reached (new : Seen) (run : List Past) : Type 0 where
        pub ended : (r : Reply) → IsLast r new.pasts → r ≡ reply.Ended
        pub next : IsAtNext (log_seen new) log (moment old.shape past) (backoff k (diary_seen old c)) k job
        pub no_status : next_seen old c k job ≡ job.status → Each (λ (p : Past). WritesNoStatus p.reply) run

      reached-at : (run : List Past) → AreSteps old.shape c w (deeds_in old.script run) (d ∷ past) → IsLegal old.shape (deeds_in old.script run ++ d ∷ past) → AllAskValid (deeds_in old.script run ++ d ∷ past)
          → register w (diary old.shape c (deeds_in old.script run ++ d ∷ past)) ≡ None → Reached (record { script = old.script; shape = old.shape; pasts = run ++ begun ∷ old.pasts }) run
      reached-at [] steps legal-new valid free = absurd (true≢false (sym busy ∙ ap is_some free))
      reached-at (last ∷ run) steps legal-new valid free = record {
        ended = λ r is. sym (ap (λ o. unwrap_or o r) is) ∙ ends (sync_run last run) quiet;
        next =
            subst (λ deeds. IsAtNext (log_given old.shape deeds) log (moment old.shape past) (backoff k (diary_seen old c)) k job) (sym (map-append (deed old.script) (last ∷ run) (begun ∷ old.pasts)))
            (subst (λ l. IsAtNext (log_given old.shape (deeds_in old.script (last ∷ run) ++ d ∷ past)) l (moment old.shape past) (backoff k (diary_seen old c)) k job) same-log
            (comes (sync_run last run) quiet));
        no_status = λ same. silent-pasts (deed old.script) (λ p. refl) (last ∷ run)
            (nothing (sync_run last run) quiet
            (ap (λ l. next_status (moment old.shape past) (backoff k (diary_seen old c)) job
            (own_pods job (pods_under k l))) same-log ∙ same));
      }
        where
          quiet : IsQuietSync (sync_run last run)
          quiet = record {
            begins = current (legal-before old.shape (deeds_in old.script (last ∷ run)) (d ∷ past) legal-new);
            legal = legal-new;
            valid = valid;
            steps = steps;
            free = free;
          }

      -- So it is, where the worker made steps alone after the begin until it was free.
      pub reached : (new : Seen) (on : StepsOn c w (happened old (begin_event c w)) new) → is_none (register w (diary_seen new c)) ≡ true → IsLegal new.shape (deeds_seen new) → AllAskValid (deeds_seen new) → Reached new on.run
      reached new on free legal-new valid =
          subst (λ s. Reached s on.run) (sym same)
          (reached-at on.run on.steps (subst (IsLegal old.shape) whole (subst (λ (s : Seen). IsLegal s.shape (deeds_seen s)) same legal-new))
          (subst AllAskValid whole (subst (λ (s : Seen). AllAskValid (deeds_seen s)) same valid))
          (none-is _ (subst (λ deeds. is_none (register w (diary old.shape c deeds)) ≡ true) whole (subst (λ (s : Seen). is_none (register w (diary_seen s c)) ≡ true) same free))))
        where
          same : new ≡ record { script = old.script; shape = old.shape; pasts = on.run ++ begun ∷ old.pasts }
          same = λ i. record { script = on.script i; shape = on.shape i; pasts = on.pasts i }

          whole : deeds_in old.script (on.run ++ begun ∷ old.pasts) ≡ deeds_in old.script on.run ++ d ∷ past
          whole = map-append (deed old.script) on.run (begun ∷ old.pasts)
