-- An object that was there at an earlier version came by steps to the one that is there at a later.
use Rattle.std.proofs.Common.{◌≡◌, ℕ, ◌≤◌, List, Some, ap, subst, ◌∙◌}
use Rattle.jc_types.specs.declared.numbers.Uid.{Uid}
use Rattle.jc_types.specs.declared.objects.Entry.{Entry}
use Rattle.jc_types.specs.declared.objects.Job.{Job}
use Rattle.jc_types.specs.declared.objects.Pod.{Pod}
use Rattle.jc_types.specs.declared.objects.KeyNames.{KeyNames as Key}
use Rattle.jc_types.specs.Keys.{same_uid}
use Rattle.jc_states.specs.ObjectChanges.{JobStep, PodStep}
use Rattle.jc_log.specs.Log.{upto, job_in, life, Live}
use Rattle.jc_log.specs.Writes.{Stored}
use Rattle.jc_types.proofs.KeyFacts.{same_uid-itself}
use Rattle.jc_states.proofs.ObjectChangeFacts.{JobStep-itself, JobStep-then, PodStep-itself, PodStep-then}
use Rattle.jc_log.proofs.BirthFacts.{KeptJob, job_kept_to}
use Rattle.jc_log.proofs.WriteFacts.{Kept, kept_to, kept_on}

-- A Job of a prefix came by steps to that of the same key and UID of a longer one.
pub job_step_to : (k : Key) (m n : ℕ) (log : List Entry) → Stored log → m ≤ n → (old now : Job) → job_in k (upto m log) ≡ Some old → job_in k (upto n log) ≡ Some now → now.uid ≡ old.uid → JobStep old now
job_step_to k m n log all le old now was is uid =
    subst (KeptJob old.uid (JobStep old)) is
    (job_kept_to (JobStep old) (λ a b s q. JobStep-then old a b q s) k m n log all le old was (JobStep-itself old))
    (ap (λ u. same_uid u old.uid) uid ∙ same_uid-itself old.uid)

-- A pod of a prefix came by steps to that of a longer one.
pub step_to : (u : Uid) (m n : ℕ) (log : List Entry) → Stored log → m ≤ n → (old now : Pod) → life u (upto m log) ≡ Live old → life u (upto n log) ≡ Live now → PodStep old now
step_to u m n log all le old now was is =
    subst (Kept (PodStep old)) is (kept_to (PodStep old) (λ a b s k. PodStep-then old a b k s) u m n log all le old was (PodStep-itself old))

-- And to that of the whole log.
pub step_on : (u : Uid) (m : ℕ) (log : List Entry) → Stored log → (old now : Pod) → life u (upto m log) ≡ Live old → life u log ≡ Live now → PodStep old now
step_on u m log all old now was is =
    subst (Kept (PodStep old)) is (kept_on (PodStep old) (λ a b s k. PodStep-then old a b k s) u m log all old was (PodStep-itself old))
