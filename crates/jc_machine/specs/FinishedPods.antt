-- What the finish of a pod by a command is answered.
--     finished_gives log uid exit     the pod of the UID finishes with the exit code
use Rattle.std.specs.Prelude.{ℤ, List}
use Rattle.jc_types.specs.declared.numbers.Uid.{Uid}
use Rattle.jc_types.specs.declared.objects.Entry.{Entry}
use Rattle.jc_log.specs.Log.{pod_in}
use Rattle.jc_log.specs.Requests.{Answered, report_phase_gives}
use Rattle.jc_history.specs.Nodes.{finish_change}
use Rattle.jc_history.specs.Replies.{finish_gives}

-- The pod of the UID finishes with the exit code.
abbrev pub finished_gives : List Entry → Uid → ℤ → Answered
finished_gives log uid exit =
    finish_gives log (pod_in uid log) (λ pod. report_phase_gives log uid (finish_change pod exit))
