-- What the writes of an object keep, one write after another.
use Rattle.std.proofs.Common.{refl, ap, ◌∙◌, is_some}
use Rattle.jc_types.specs.declared.objects.Job.{Job}
use Rattle.jc_types.specs.declared.objects.Pod.{Pod}
use Rattle.jc_states.specs.ObjectChanges.{JobStep, PodStep}
use Rattle.jc_states.specs.Pods.{is_final}

-- A Job is a step from itself.
pub JobStep-itself : (job : Job) → JobStep job job
JobStep-itself job = record { key = refl; uid = refl; created = refl; mode = refl; replacement = refl; failure = refl; success = refl; per_index = refl; template = refl }

-- Two steps are one.
pub JobStep-then : (a b c : Job) → JobStep a b → JobStep b c → JobStep a c
JobStep-then a b c f g = record {
  key = g.key ∙ f.key;
  uid = g.uid ∙ f.uid;
  created = g.created ∙ f.created;
  mode = g.mode ∙ f.mode;
  replacement = g.replacement ∙ f.replacement;
  failure = g.failure ∙ f.failure;
  success = g.success ∙ f.success;
  per_index = g.per_index ∙ f.per_index;
  template = g.template ∙ f.template;
}

-- A pod keeps what it is.
pub PodStep-itself : (pod : Pod) → PodStep pod pod
PodStep-itself pod = record {
  uid = refl;
  owner = refl;
  owner_uid = refl;
  serial = refl;
  index = refl;
  restart = refl;
  created = refl;
  names = refl;
  inits = refl;
  untracked = λ h. h;
  marked = λ h. refl;
  begun = λ h. h;
  phase = λ h. refl;
  containers = λ h. refl;
  conditions = λ h. refl;
}

-- Two steps keep what both keep.
pub PodStep-then : (a b c : Pod) → PodStep a b → PodStep b c → PodStep a c
PodStep-then a b c f g = record {
  uid = g.uid ∙ f.uid;
  owner = g.owner ∙ f.owner;
  owner_uid = g.owner_uid ∙ f.owner_uid;
  serial = g.serial ∙ f.serial;
  index = g.index ∙ f.index;
  restart = g.restart ∙ f.restart;
  created = g.created ∙ f.created;
  names = g.names ∙ f.names;
  inits = g.inits ∙ f.inits;
  untracked = λ h. g.untracked (f.untracked h);
  marked = λ h. g.marked (ap is_some (f.marked h) ∙ h) ∙ f.marked h;
  begun = λ h. f.begun (g.begun h);
  phase = λ h. g.phase (ap is_final (f.phase h) ∙ h) ∙ f.phase h;
  containers = λ h. g.containers (ap is_final (f.phase h) ∙ h) ∙ f.containers h;
  conditions = λ h. g.conditions (ap is_final (f.phase h) ∙ h) ∙ f.conditions h;
}
