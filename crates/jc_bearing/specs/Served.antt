-- What becomes of all pods that are there by a whole sync.
--     IsRewritten old new        but for its version, its mark and its finalizer the pod is as it was
--     IsServed plan pod          what the plan wants of the pod is so
--     AllServed plan olds news   so it is of all that are left of these, and only pods that lost their finalizer are gone
--     ServesAll log basis new    so it is of all pods of the log, and behind them stand those that are new
use Rattle.std.specs.Prelude.{◌≡◌, true, false, List, [], ◌∷◌, ◌++◌, length, Some}
use Rattle.std.specs.List.{AllByRecursion as Each}
use Rattle.jc_types.specs.Keys.{same_key}
use Rattle.jc_types.specs.declared.objects.Entry.{Entry}
use Rattle.jc_types.specs.declared.objects.Job.{Job}
use Rattle.jc_types.specs.declared.objects.Pod.{Pod}
use Rattle.jc_states.specs.Pods.{is_marked}
use Rattle.jc_states.specs.UidLists.{is_in}
use Rattle.jc_states.specs.declared.bases.Basis.{Basis}
use Rattle.jc_log.specs.Log.{pods_in}
use Rattle.jc_plan.specs.Plans.{planned}
use Rattle.jc_plan.specs.declared.plans.Planned.{Planned}
use Rattle.jc_making.specs.Grants.{frees}

-- But for its version, its mark and its finalizer the pod is as it was; it keeps a mark, and gets no finalizer back.
pub record IsRewritten (old new : Pod) : Type 0 where
  pub rest : new ≡ record old { version = new.version; marked = new.marked; tracked = new.tracked }
  pub untracked : old.tracked ≡ false → new.tracked ≡ false
  pub marked : is_marked old ≡ true → is_marked new ≡ true

-- What the plan wants of the pod is so: it has lost its finalizer, and it is marked.
pub record IsServed (plan : Planned) (pod : Pod) : Type 0 where
  pub freed : frees plan pod.uid ≡ true → pod.tracked ≡ false
  pub marked : is_in pod.uid plan.marks ≡ true → is_marked pod ≡ true

-- So it is of all that are left of these, in their order. One that lost its finalizer may be gone.
pub data AllServed (plan : Planned) : List Pod → List Pod → Type 0 where
  NonePod : AllServed plan [] []
  Served : (old new : Pod) (olds news : List Pod) → IsRewritten old new → IsServed plan new
      → AllServed plan olds news → AllServed plan (old ∷ olds) (new ∷ news)
  IsGone : (old : Pod) (olds news : List Pod) → frees plan old.uid ≡ true → AllServed plan olds news
      → AllServed plan (old ∷ olds) news

-- So it is of all pods of the log, and behind them stand the new ones: as many as the plan makes, made for its key,
-- and with the restart policy of its Job.
pub record ServesAll (log : List Entry) (basis : Basis) (new : List Entry) : Type 0 where
  pub after : List Pod
  pub fresh : List Pod
  pub parts : pods_in new ≡ after ++ fresh
  pub served : AllServed (planned basis) (pods_in log) after
  pub count : length fresh ≡ length (planned basis).creates
  pub under : Each (λ (pod : Pod). same_key pod.owner basis.key ≡ true) fresh
  pub restarts : (job : Job) → basis.job ≡ Some job
      → Each (λ (pod : Pod). pod.restart ≡ job.spec.template.restart) fresh
