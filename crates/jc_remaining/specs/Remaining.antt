-- What may still be written of pods in a settle: how many pods may be made for all Jobs, and what is left of those that
-- are there.
--     ends_of fates key                  how the pods of the key end, one after the other; none, where nothing says so
--     creations_for fates log job        how many pods may still be made for the Job
--     creations_under fates log key      the same for the Job of the key, where there is one
--     all_creations fates log keys       for the Jobs of all these keys
--     all_left most fates pods           how many writes of these pods are left, at most
--     still_left most fates shape deeds  how many of those that are there after the deeds
--     AllCome most shape past            each of those comes to its end, with restarts up to the bound
--     HasEach keys log                   each Job that is there has one of the keys
--     LastEndsCount fates log            no Job that is there ignores the last end of its fate
--     FitsAll log                        what counts of each Job is in order, and no two Jobs have one UID
use Rattle.std.specs.Prelude.{◌≡◌, ℕ, ◌+◌, true, List, [], ◌∷◌, Option, Some, unwrap_or}
use Rattle.std.specs.List.{AllByRecursion as Each, list_any}
use Rattle.std.specs.Option.{option_map_or}
use Rattle.jc_types.specs.declared.objects.KeyNames.{KeyNames as Key}
use Rattle.jc_types.specs.Keys.{same_key, same_uid}
use Rattle.jc_types.specs.declared.actions.End.{End}
use Rattle.jc_types.specs.declared.objects.Entry.{Entry}
use Rattle.jc_types.specs.declared.objects.Job.{Job}
use Rattle.jc_types.specs.declared.objects.Pod.{Pod}
use Rattle.jc_types.specs.declared.runs.Shape.{Shape}
use Rattle.jc_states.specs.Bases.{own_pods}
use Rattle.jc_log.specs.Deeds.{Deed}
use Rattle.jc_log.specs.Log.{job_in, made_for, pods_in, pods_under}
use Rattle.jc_runs.specs.Replies.{log_given}
use Rattle.jc_settle.specs.Left.{ComesTo, pod_left}
use Rattle.jc_retries.specs.Making.{IsCounted}
use Rattle.jc_retries.specs.Nodes.{fate}
use Rattle.jc_retries.specs.Retries.{CountsAtLast, creations_allowed}

-- How the pods of the key end, one after the other; none ends, where nothing says so.
abbrev pub ends_of : (Key → Option (List End)) → Key → List End
ends_of fates key = unwrap_or (fates key) []

-- How many pods may still be made for the Job, at most, also where its pods fail.
abbrev pub creations_for : (Key → Option (List End)) → List Entry → Job → ℕ
creations_for fates log job =
    creations_allowed (ends_of fates job.key) (made_for job.uid log) job
    (own_pods job (pods_under job.key log))

-- The same for the Job of the key, where there is one.
abbrev pub creations_under : (Key → Option (List End)) → List Entry → Key → ℕ
creations_under fates log key = option_map_or (creations_for fates log) (job_in key log) 0

-- For the Jobs of all these keys.
abbrev pub all_creations : (Key → Option (List End)) → List Entry → List Key → ℕ
all_creations fates log [] = 0
all_creations fates log (key ∷ keys) = creations_under fates log key + all_creations fates log keys

-- How many writes of these pods are left, at most, where containers restart after failures up to the bound.
abbrev pub all_left : ℕ → (Key → Option (List End)) → List Pod → ℕ
all_left most fates [] = 0
all_left most fates (pod ∷ pods) = pod_left most fates pod + all_left most fates pods

-- How many writes are left of the pods that are there after the deeds.
abbrev pub still_left : ℕ → (Key → Option (List End)) → Shape → List Deed → ℕ
still_left most fates shape deeds = all_left most fates (pods_in (log_given shape deeds))

-- Each pod that is there comes to its end, and where its containers restart after failures they have restarted less often
-- than the bound.
abbrev pub AllCome : ℕ → Shape → List Deed → Type 0
AllCome most shape past = Each (ComesTo most (fate past)) (pods_in (log_given shape past))

-- Each Job that is there has one of the keys.
abbrev pub HasEach : List Key → List Entry → Type 0
HasEach keys log =
    (key : Key) (job : Job) → job_in key log ≡ Some job → list_any (same_key key) keys ≡ true

-- The last end of the fate of each Job that is there is no failure that its policy ignores.
abbrev pub LastEndsCount : (Key → Option (List End)) → List Entry → Type 0
LastEndsCount fates log =
    (key : Key) (job : Job) → job_in key log ≡ Some job → CountsAtLast (ends_of fates key) job.spec

-- What counts of each Job that is there is in order, and Jobs of different keys have different UIDs.
pub record FitsAll (log : List Entry) : Type 0 where
  pub counted : (key : Key) (job : Job) → job_in key log ≡ Some job
      → IsCounted job (own_pods job (pods_under key log))
  pub apart : (one other : Key) (job second : Job) → job_in one log ≡ Some job
      → job_in other log ≡ Some second → same_uid job.uid second.uid ≡ true → one ≡ other
