-- What the writes of an object keep of it.
--     JobStep old new       what every write of a Job keeps of it
--     PodStep old new       what every write of a pod keeps of it
use Rattle.std.specs.Prelude.{◌≡◌, true, false, map}
use Rattle.jc_types.specs.declared.objects.Job.{Job}
use Rattle.jc_types.specs.declared.objects.Pod.{Pod}
use Rattle.jc_states.specs.Pods.{is_final, is_marked, is_pending}

-- What every write of a Job keeps of it: no update of a Job changes these (batch/v1).
pub record JobStep (old new : Job) : Type 0 where
  pub key : new.key ≡ old.key
  pub uid : new.uid ≡ old.uid
  pub created : new.created ≡ old.created
  pub mode : new.spec.mode ≡ old.spec.mode
  pub replacement : new.spec.replacement ≡ old.spec.replacement
  pub failure : new.spec.failure ≡ old.spec.failure
  pub success : new.spec.success ≡ old.spec.success
  pub per_index : new.spec.per_index ≡ old.spec.per_index
  pub template : new.spec.template ≡ old.spec.template

-- What every write of a pod keeps of it. A finalizer that is gone does not come back, a mark stays
-- with its moment, and a pod that has ended stays as it is.
pub record PodStep (old new : Pod) : Type 0 where
  pub uid : new.uid ≡ old.uid
  pub owner : new.owner ≡ old.owner
  pub owner_uid : new.owner_uid ≡ old.owner_uid
  pub serial : new.serial ≡ old.serial
  pub index : new.index ≡ old.index
  pub restart : new.restart ≡ old.restart
  pub created : new.created ≡ old.created
  pub names :
      map (λ container. container.name) new.containers
      ≡ map (λ container. container.name) old.containers
  pub inits :
      map (λ container. container.init) new.containers
      ≡ map (λ container. container.init) old.containers
  pub untracked : old.tracked ≡ false → new.tracked ≡ false
  pub marked : is_marked old ≡ true → new.marked ≡ old.marked
  pub begun : is_pending new.phase ≡ true → is_pending old.phase ≡ true
  pub phase : is_final old.phase ≡ true → new.phase ≡ old.phase
  pub containers : is_final old.phase ≡ true → new.containers ≡ old.containers
  pub conditions : is_final old.phase ≡ true → new.conditions ≡ old.conditions
