-- What stands in the log of deeds, and whence: Jobs under keys that deeds gave them, with conditions no younger than the
-- moment, and pods by numbers up to that of the deeds.
--     AreDated n conditions       none of the conditions is younger than the moment
--     HasOrigin P n m entry       so it is of what the entry puts, where P holds of such keys
--     LogHasOrigin P n m log      so it is of each entry of the log, which are at most so many
--     AllCreateOf P deeds         P holds of the key of each Job that a deed creates
use Rattle.std.specs.Prelude.{ℕ, ◌≤◌, List, length}
use Rattle.std.specs.List.{AllByRecursion as Each}
use Rattle.jc_log.specs.Acts as does
use Rattle.jc_log.specs.Acts.{Act}
use Rattle.jc_log.specs.Deeds.{Deed}
use Rattle.jc_types.specs.declared.objects.Entry.{Entry}
use Rattle.jc_types.specs.declared.objects.Entry.TheVariants.{JobPut, JobGone, PodPut, PodGone}
use Rattle.jc_types.specs.declared.objects.Job.{Job}
use Rattle.jc_types.specs.declared.objects.KeyNames.{KeyNames as Key}
use Rattle.jc_types.specs.declared.objects.Pod.{Pod}
use Rattle.jc_types.specs.declared.statuses.Condition.{Condition}

-- None of the conditions is younger than the moment.
abbrev pub AreDated : ℕ → List Condition → Type 0
AreDated n conditions = Each (λ (condition : Condition). condition.since ≤ n) conditions

pub record JobHasOrigin (P : Key → Type 0) (n : ℕ) (job : Job) : Type 0 where
  pub dated : AreDated n job.status.conditions
  pub key : P job.key

pub record PodHasOrigin (m : ℕ) (pod : Pod) : Type 0 where
  pub some : 1 ≤ pod.uid.0
  pub few : pod.uid.0 ≤ m

abbrev pub HasOrigin : (Key → Type 0) → ℕ → ℕ → Entry → Type 0
HasOrigin P n m (JobPut job) = JobHasOrigin P n job
HasOrigin P n m (JobGone job) = Unit {0}
HasOrigin P n m (PodPut pod) = PodHasOrigin m pod
HasOrigin P n m (PodGone pod) = Unit {0}

-- P holds of the key of the Job that the act creates.
abbrev pub CreatesOf : (Key → Type 0) → Act → Type 0
CreatesOf P (does.Create key spec) = P key
CreatesOf P other = Unit {0}

abbrev pub AllCreateOf : (Key → Type 0) → List Deed → Type 0
AllCreateOf P deeds = Each (λ (d : Deed). CreatesOf P d.act) deeds

-- Each entry of the log has its origin, and they are at most so many.
pub record LogHasOrigin (P : Key → Type 0) (n m : ℕ) (log : List Entry) : Type 0 where
  pub origins : Each (HasOrigin P n m) log
  pub few : length log ≤ m
