-- What the store keeps of its log beside it.
use Rattle.std.specs.Prelude.{ℕ, List, ◌≡◌, ◌-◌, ◌<◌, ◌^◌, length, unwrap_or}
use Rattle.jc_types.specs.declared.numbers.Uid.{Uid}
use Rattle.jc_types.specs.declared.objects.Entry.{Entry}
use Rattle.jc_types.specs.declared.objects.Job.{Job}
use Rattle.jc_types.specs.declared.objects.Pod.{Pod}
use Rattle.jc_types.specs.declared.objects.KeyNames.{KeyNames as Key}
use Rattle.jc_types.specs.Keys.{same_uid}
use Rattle.jc_log.specs.Log.{births, jobs_in, made_for, pods_in}
use Rattle.jc_log.specs.Tables.{at}
use Rattle.jc_log.specs.Writes.{Stored}

-- The count of an owner, which is 0 where it has no row.
abbrev pub count_of : List (Uid × ℕ) → Uid → ℕ
count_of counts owner = unwrap_or (at same_uid counts owner) 0

-- The number is that of the Jobs and pods that were made, the tables have the Jobs and the pods that
-- are there and how many pods were made for each owner, and each entry is a write of the store. So few pods are there
-- that 32 bits count them, and so few entries that they count one more.
pub record IsKept (born : ℕ) (jobs : List (Key × Job)) (pods : List Pod) (made : List (Uid × ℕ))
    (log : List Entry) : Type 0 where
  pub counted : born ≡ births log
  pub jobs_there : jobs ≡ jobs_in log
  pub pods_there : pods ≡ pods_in log
  pub made_before : (owner : Uid) → count_of made owner ≡ made_for owner log
  pub stored : Stored log
  pub few : length (pods_in log) < 2 ^ 32
  pub few_entries : length log < 2 ^ 32 - 1
