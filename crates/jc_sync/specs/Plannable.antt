-- What a log keeps so that each sync of it can be planned.
--     IsPlannable log         each version of a Job has a valid specification, and of a pod a small index
--     FitsIn entry            what the entry puts is fit for such a log
--     AppendsFit answered     what the answer appends is
use Rattle.std.specs.Prelude.{◌≡◌, ℕ, List, Some, IfSome}
use Rattle.jc_types.specs.declared.objects.Entry.{Entry}
use Rattle.jc_types.specs.declared.objects.Entry.TheVariants.{JobPut, PodPut}
use Rattle.jc_types.specs.declared.objects.Job.{Job}
use Rattle.jc_types.specs.declared.objects.Pod.{Pod}
use Rattle.jc_log.specs.Log.{entry_at}
use Rattle.jc_states.specs.Indexes.{HasSmallIndex}
use Rattle.jc_types.specs.ValidSpecs.{IsValidSpec}
use Rattle.jc_log.specs.Requests.{Answered}

-- Each version of a Job has a valid specification, and each of a pod a small index.
pub record IsPlannable (log : List Entry) : Type 0 where
  pub valid : (v : ℕ) (job : Job) → entry_at v log ≡ Some (JobPut job) → IsValidSpec job.spec
  pub indexes : (v : ℕ) (pod : Pod) → entry_at v log ≡ Some (PodPut pod) → HasSmallIndex pod

-- What the entry puts is fit for it.
abbrev pub FitsIn : Entry → Type 0
FitsIn (JobPut job) = IsValidSpec job.spec
FitsIn (PodPut pod) = HasSmallIndex pod
FitsIn other = Unit {0}

-- What the answer appends is fit for it.
abbrev pub AppendsFit : Answered → Type 0
AppendsFit answered = IfSome answered.entry FitsIn
