-- When nothing of the system is left to do.
--     has_seen log number          the cache of this number has seen the whole log
--     HaveNoSyncs notes workers        no worker has a sync
--     IsTeamIdle notes log workers     a controller has nothing to do
--     AreIdle seen                 no controller has
--     is_settle act                the act is a settle
use Rattle.std.specs.Prelude.{◌≡◌, ℕ, ◌<◌, Bool, true, false, not, ◌&&◌, nat_lt, List, length, Option, Some, None, is_none}
use Rattle.jc_types.specs.declared.numbers.Version.{Version}
use Rattle.jc_types.specs.declared.objects.Entry.{Entry}
use Rattle.jc_types.specs.declared.objects.Kind.TheVariants.{Jobs, Pods}
use Rattle.jc_log.specs.Acts as does
use Rattle.jc_log.specs.Acts.{Act}
use Rattle.jc_history.specs.Delays.{least_delay}
use Rattle.jc_history.specs.Fresh.{may_begin}
use Rattle.jc_history.specs.Notes.{Note}
use Rattle.jc_history.specs.Numbers.{number}
use Rattle.jc_history.specs.Registers.{register}
use Rattle.jc_runs.specs.Seen.{Seen, log_seen}
use Rattle.jc_machine.specs.DiariesSeen.{diary_seen}

-- The cache of this number has seen the whole log.
abbrev pub has_seen : List Entry → Option Version → Bool
has_seen log None = false
has_seen log (Some version) = not (nat_lt version.0 (length log))

-- No worker has a sync.
abbrev pub HaveNoSyncs : List Note → ℕ → Type 0
HaveNoSyncs notes workers = (w : ℕ) → w < workers → is_none (register w notes) ≡ true

-- Both caches have seen the whole log, no worker has a sync, none can begin one, and no key is
-- delayed.
pub record IsTeamIdle (notes : List Note) (log : List Entry) (workers : ℕ) : Type 0 where
  pub jobs : has_seen log (number Jobs notes) ≡ true
  pub pods : has_seen log (number Pods notes) ≡ true
  pub free : HaveNoSyncs notes workers
  pub line : (nat_lt 0 workers && may_begin notes log) ≡ false
  pub delays : is_none (least_delay notes) ≡ true

-- No controller has anything to do.
abbrev pub AreIdle : Seen → Type 0
AreIdle seen =
    (c : ℕ) → c < seen.shape.controllers
    → IsTeamIdle (diary_seen seen c) (log_seen seen) seen.shape.workers

-- The act is a settle.
abbrev pub is_settle : Act → Bool
is_settle does.Settle = true
is_settle other = false
