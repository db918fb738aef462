-- When finished Jobs may go (`ttlSecondsAfterFinished`), and in which order.
--     ttl_at ttls place           the TTL that the command at the place gave its Job
--     ended_at conditions         when the Job ended
--     expires_at job ttl          when the Job may go: the TTL after its end
--     expiry_order a b            the order of expiries: by moment and then by key
--     expired ttl rows            the Jobs that may go, in this order, each with its UID
--     MayGo ttl log row           the Job of the row is there, has ended, and may go at the row's moment
use Rattle.std.specs.Prelude.{◌≡◌, ℕ, ◌+◌, Bool, ◌&&◌, ◌||◌, List, [], ◌∷◌, Option, Some, None, find, slice_get}
use Rattle.std.specs.BTreeMap.{insert_entry}
use Rattle.std.specs.Option.{option_and_then, option_map}
use Rattle.std.specs.Ordering.{nat_cmp, ordering_then}
use Rattle.std.specs.declared.cmp.Ordering.{Ordering}
use Rattle.jc_log.specs.Range.{IsMoment, as_moment}
use Rattle.jc_types.specs.declared.numbers.Uid.{Uid}
use Rattle.jc_types.specs.declared.objects.Entry.{Entry}
use Rattle.jc_types.specs.declared.objects.Job.{Job}
use Rattle.jc_types.specs.declared.objects.KeyNames.{KeyNames as Key}
use Rattle.jc_types.specs.declared.statuses.CondKind.TheVariants.{Failed, Complete}
use Rattle.jc_types.specs.declared.statuses.Condition.{Condition}
use Rattle.jc_types.specs.Equality.{same_kind}
use Rattle.jc_log.specs.Log.{job_in}
use Rattle.jc_queue.specs.Delayed.{key_order}
use Rattle.jc_reap.specs.declared.expiries.Expiry.{Expiry}

-- The TTL that stands at the place, where there is a place. Past the last entry no command has one.
abbrev pub ttl_at : List (Option ℕ) → Option ℕ → Option ℕ
ttl_at ttls place = option_and_then (λ ttl. ttl) (option_and_then (slice_get ttls) place)

-- The condition says that the Job has ended.
abbrev pub is_end : Condition → Bool
is_end condition = (same_kind condition.kind Failed || same_kind condition.kind Complete) && condition.status

-- When the Job ended: since when Failed or Complete stands.
abbrev pub ended_at : List Condition → Option ℕ
ended_at conditions = option_map (λ condition. condition.since) (find is_end conditions)

-- So many seconds after the end, where there are both, and where that is not past the last moment.
abbrev pub after_end : Option ℕ → Option ℕ → Option ℕ
after_end ended ttl = as_moment (option_and_then (λ end. option_map (λ seconds. end + seconds) ttl) ended)

-- When the Job may go.
abbrev pub expires_at : Job → Option ℕ → Option ℕ
expires_at job ttl = after_end (ended_at job.status.conditions) ttl

-- The order in which Jobs go: by the moment and then by the key.
abbrev pub expiry_order : Expiry → Expiry → Ordering
expiry_order a b = ordering_then (nat_cmp a.moment b.moment) (key_order a.key b.key)

-- The Job at its place among those that may go, where it may go.
abbrev pub with_expiry : Option ℕ → Job → List (Expiry × Uid) → List (Expiry × Uid)
with_expiry None job rows = rows
with_expiry (Some moment) job rows = insert_entry expiry_order rows (record { moment = moment; key = job.key }) job.uid

-- The Jobs that may go, in their order, where each UID has its TTL.
abbrev pub expired : (Uid → Option ℕ) → List (Key × Job) → List (Expiry × Uid)
expired ttl [] = []
expired ttl (row ∷ rows) = with_expiry (expires_at row.1 (ttl row.1.uid)) row.1 (expired ttl rows)

-- The Job of the row's key is there and has the row's UID; it has ended; a TTL was given to it; and so
-- many seconds after its end is the row's moment, which is not past the last one.
pub record MayGo (ttl : Uid → Option ℕ) (log : List Entry) (row : Expiry × Uid) : Type 0 where
  pub job : Job
  pub there : job_in row.0.key log ≡ Some job
  pub uid : job.uid ≡ row.1
  pub end : ℕ
  pub ended : ended_at job.status.conditions ≡ Some end
  pub seconds : ℕ
  pub given : ttl row.1 ≡ Some seconds
  pub due : row.0.moment ≡ end + seconds
  pub within : IsMoment row.0.moment
