-- A Job that is there was put under its key, also among the first entries.
use Rattle.std.proofs.Common.{◌≡◌, ℕ, Bool, true, false, cond, ◌&&◌, nat_lt, List, [], ◌∷◌, length, Option, Some, None, refl, ap, ◌∙◌}
use Rattle.std.proofs.lemmas.Bool.{cond-true}
use Rattle.jc_types.specs.declared.numbers.Uid.{Uid}
use Rattle.jc_types.specs.declared.objects.Entry.{Entry}
use Rattle.jc_types.specs.declared.objects.Entry.TheVariants.{JobPut, JobGone, PodPut, PodGone}
use Rattle.jc_types.specs.declared.objects.Job.{Job}
use Rattle.jc_types.specs.declared.objects.KeyNames.{KeyNames as Key}
use Rattle.jc_types.specs.Keys.{same_key, same_uid}
use Rattle.jc_log.specs.Log.{upto, job_in, has_job}
use Rattle.jc_types.proofs.KeyFacts.{same_uid-itself}
use Rattle.jc_log.proofs.BirthFacts.{has_job-more}

-- What was put among the first entries was put.
pub put_upto : (j : Uid) (k : Key) (n : ℕ) (log : List Entry) → has_job j k (upto n log) ≡ true → has_job j k log ≡ true
put_upto j k n [] h = h
put_upto j k n (e ∷ older) h = by (nat_lt (length older) n) (put_upto j k n older) h
  where
    by : (b : Bool) → (has_job j k (upto n older) ≡ true → has_job j k older ≡ true) → has_job j k (cond b (e ∷ older) (upto n older)) ≡ true → has_job j k (e ∷ older) ≡ true
    by true ih g = g
    by false ih g = has_job-more j k e older (ih g)

-- The Job of a key was put under it.
pub there_put : (j : Uid) (k : Key) (log : List Entry) (job : Job) → job_in k log ≡ Some job → same_uid job.uid j ≡ true → has_job j k log ≡ true
there_put j k [] job is own = cc
there_put j k (JobPut new ∷ older) job is own = by (same_key new.key k) refl (λ i. there_put j k older job i own) is
  where
    both : (a b : Bool) → a ≡ true → b ≡ true → (a && b) ≡ true
    both true b h g = g
    both false b h g = h

    by : (b : Bool) → same_key new.key k ≡ b → (job_in k older ≡ Some job → has_job j k older ≡ true) → cond b (Some new) (job_in k older) ≡ Some job → has_job j k (JobPut new ∷ older) ≡ true
    by true s ih i =
        let same : new ≡ job = ap (λ (o : Option Job). elim o [ None ↦ new | Some x ↦ x ]) i in
        cond-true (same_uid new.uid j && same_key new.key k) true (has_job j k older) (both (same_uid new.uid j) (same_key new.key k) (ap (λ x. same_uid x.uid j) same ∙ own) s)
    by false s ih i = has_job-more j k (JobPut new) older (ih i)
there_put j k (JobGone gone ∷ older) job is own = by (same_key gone.key k) (λ i. there_put j k older job i own) is
  where
    by : (b : Bool) → (job_in k older ≡ Some job → has_job j k older ≡ true) → cond b None (job_in k older) ≡ Some job → has_job j k older ≡ true
    by true ih i = cc
    by false ih i = ih i
there_put j k (PodPut pod ∷ older) job is own = there_put j k older job is own
there_put j k (PodGone pod ∷ older) job is own = there_put j k older job is own

-- The same of its own UID.
pub job_in-was_put : (k : Key) (log : List Entry) (job : Job) → job_in k log ≡ Some job → has_job job.uid k log ≡ true
job_in-was_put k log job is = there_put job.uid k log job is (same_uid-itself job.uid)
