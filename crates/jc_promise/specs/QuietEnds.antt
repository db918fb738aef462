-- A sync that begins on current caches and meets no fault, and the steps of its worker, one after the other.
--     GoesOn reply                    the reply tells of a request that does not end its sync
--     IsOver reply                    it ends the sync
--     RunsQuietly shape log c w d ..      from this begin on came the worker's steps alone, up to the one that ended the sync
--     EndsAtNext shape log c d ..     it ended well, and the Job has the status that was next at the begin
--     SyncsWell shape deeds log       so ends each quiet sync of the history
use Rattle.std.specs.Prelude.{◌≡◌, ℕ, List, ◌∷◌, ◌++◌, None, Some, is_some, true}
use Rattle.std.specs.List.{AllByRecursion as Each}
use Rattle.jc_log.specs.Acts as does
use Rattle.jc_types.specs.declared.objects.Entry.{Entry}
use Rattle.jc_types.specs.declared.objects.Job.{Job}
use Rattle.jc_types.specs.declared.objects.KeyNames.{KeyNames as Key}
use Rattle.jc_types.specs.declared.replies.Reply.{Reply}
use Rattle.jc_types.specs.declared.replies.Reply.TheVariants as reply
use Rattle.jc_types.specs.declared.runs.Shape.{Shape}
use Rattle.jc_log.specs.Deeds.{Deed}
use Rattle.jc_log.specs.Log.{job_in, pods_under, upto}
use Rattle.jc_runs.specs.Bases.{own_pods}
use Rattle.jc_plan.specs.Next.{next_status}
use Rattle.jc_history.specs.Diaries.{end_by, moment, notes}
use Rattle.jc_history.specs.Registers.{asks_status, backoff, pending}
use Rattle.jc_runs.specs.QuietRuns.{IsAtNext, WritesNoStatus}

-- The reply tells of a request, and does not end its sync.
abbrev pub GoesOn : Reply → Type 0
GoesOn (reply.Stepped asked given) = end_by (asks_status asked) given ≡ None
GoesOn other = ⊥

-- The reply ends its sync: nothing was left to ask, or the answer to a request ended it.
abbrev pub IsOver : Reply → Type 0
IsOver reply.Ended = Unit {0}
IsOver (reply.Stepped asked given) = is_some (end_by (asks_status asked) given) ≡ true
IsOver other = ⊥

-- The deed began a sync of the key, whose Job was this one, where both caches had seen the whole log and no fault was
-- pending. Then came the worker's steps alone, and the last one ended the sync.
pub record RunsQuietly (shape : Shape) (log : List Entry) (c w : ℕ) (d : Deed) (past : List Deed) (k : Key)
    (job : Job) (last : Deed) (run : List Deed) : Type 0 where
  pub begins : d.act ≡ does.Begin c w
  pub current : d.reply ≡ reply.Begun k d.length d.length
  pub there : job_in k (upto d.length.0 log) ≡ Some job
  pub no_fault : pending w (notes shape c past log) ≡ None
  pub steps : Each (λ (step : Deed). step.act ≡ does.Step c w) (last ∷ run)
  pub goes_on : Each (λ (step : Deed). GoesOn step.reply) run
  pub over : IsOver last.reply

-- The sync ended as nothing was left to ask. The Job has the status that was next when it began, and each of its pods
-- that had ended then and was not left over for a later sync has lost its finalizer. Where the Job had its next status
-- already, none was written.
pub record EndsAtNext (shape : Shape) (log : List Entry) (c : ℕ) (d : Deed) (past : List Deed) (k : Key)
    (job : Job) (last : Deed) (run : List Deed) : Type 0 where
  pub ended : last.reply ≡ reply.Ended
  pub next : IsAtNext (upto last.length.0 log) (upto d.length.0 log) (moment shape past)
      (backoff k (notes shape c past log)) k job
  pub nothing : next_status (moment shape past) (backoff k (notes shape c past log)) job
      (own_pods job (pods_under k (upto d.length.0 log))) ≡ job.status
      → Each (λ (step : Deed). WritesNoStatus step.reply) (last ∷ run)

-- So ends each quiet sync of the history.
abbrev pub SyncsWell : Shape → List Deed → List Entry → Type 0
SyncsWell shape deeds log =
    (c w : ℕ) (d : Deed) (past : List Deed) (k : Key) (job : Job) (last : Deed) (run later : List Deed)
    → deeds ≡ later ++ (last ∷ run ++ d ∷ past) → RunsQuietly shape log c w d past k job last run
    → EndsAtNext shape log c d past k job last run
