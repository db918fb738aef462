-- A Job and an ended pod of it that stand together, and how syncs that saw both end.
--     AreThere k job u a b log     the Job is there as it is now, and its pod, from these versions on
--     FailsAfter reply             the reply does not end its sync, or as one that failed
use Rattle.std.specs.Prelude.{◌≡◌, ℕ, ◌≤◌, true, List, length, IfSome, Some}
use Rattle.jc_types.specs.declared.numbers.Uid.{Uid}
use Rattle.jc_types.specs.declared.objects.Entry.{Entry}
use Rattle.jc_types.specs.declared.objects.Job.{Job}
use Rattle.jc_types.specs.declared.objects.KeyNames.{KeyNames as Key}
use Rattle.jc_types.specs.declared.replies.Reply.{Reply}
use Rattle.jc_types.specs.declared.replies.Reply.TheVariants as reply
use Rattle.jc_log.specs.Log.{job_in, upto}
use Rattle.jc_history.specs.Delays.{is_retried}
use Rattle.jc_history.specs.Diaries.{end_by}
use Rattle.jc_history.specs.Registers.{asks_status}
use Rattle.jc_order.specs.Restless.{has_forgotten}

-- From version a on this is the Job of the key, and nothing of it changes; and from version b on its pod of
-- the UID u is there, tracked and ended.
pub record AreThere (k : Key) (job : Job) (u : Uid) (a b : ℕ) (log : List Entry) : Type 0 where
  pub stays : (n : ℕ) → a ≤ n → n ≤ length log → job_in k (upto n log) ≡ Some job
  pub pod : (n : ℕ) → b ≤ n → n ≤ length log → has_forgotten k job.uid u (upto n log) ≡ true

-- The reply does not end its sync, or it ends it as one that failed.
abbrev pub FailsAfter : Reply → Type 0
FailsAfter reply.Ended = ⊥
FailsAfter (reply.Stepped asked given) =
    IfSome (end_by (asks_status asked) given) (λ end. is_retried end ≡ true)
FailsAfter other = Unit {0}
