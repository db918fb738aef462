-- The words of a report that stand for one thing, and the texts of keys and versions.
--     phase_word, objects_word, fault_word, field_word     one word each
--     key_text key                                      a key, as `default/pi`
--     version_text version                              a version, as `v3`
use Rattle.std.specs.Prelude.{ℕ, List, ◌++◌, codes, decimal}
use Rattle.jc_types.specs.declared.actions.Fault.{Fault}
use Rattle.jc_types.specs.declared.actions.Fault.TheVariants.{Drop, Lose}
use Rattle.jc_types.specs.declared.numbers.Version.{Version}
use Rattle.jc_types.specs.declared.objects.KeyNames.{KeyNames as Key}
use Rattle.jc_types.specs.declared.objects.Kind.{Kind}
use Rattle.jc_types.specs.declared.objects.Kind.TheVariants.{Jobs, Pods}
use Rattle.jc_types.specs.declared.objects.Phase.{Phase}
use Rattle.jc_types.specs.declared.objects.Phase.TheVariants.{Pending, Running, Succeeded, Failed}
use Rattle.jc_types.specs.declared.replies.Field.{Field}
use Rattle.jc_types.specs.declared.replies.Field.TheVariants.{Completions, Parallelism, BackoffLimit, Deadline}

abbrev pub phase_word : Phase → List ℕ
phase_word Pending = codes "Pending"
phase_word Running = codes "Running"
phase_word Succeeded = codes "Succeeded"
phase_word Failed = codes "Failed"

abbrev pub objects_word : Kind → List ℕ
objects_word Jobs = codes "jobs"
objects_word Pods = codes "pods"

abbrev pub fault_word : Fault → List ℕ
fault_word Drop = codes "drop"
fault_word Lose = codes "lose"

-- The member's name in a manifest.
abbrev pub field_word : Field → List ℕ
field_word Completions = codes "completions"
field_word Parallelism = codes "parallelism"
field_word BackoffLimit = codes "backoffLimit"
field_word Deadline = codes "activeDeadlineSeconds"

abbrev pub key_text : Key → List ℕ
key_text key = key.namespace ++ (codes "/" ++ key.name)

abbrev pub version_text : Version → List ℕ
version_text version = codes "v" ++ decimal version.0
