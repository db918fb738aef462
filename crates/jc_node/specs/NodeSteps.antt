-- What the node tells of its next step, and how that is read again.
--     act_kind act          the act without the end that it brings
--     step_of step         the step by its pod's UID
--     act_of kind end      the act of the kind, which brings this end where it finishes the pod
--     code_for init code   the code of a container, where this one is left for the next that is no
--                          init container
--     code_after init code the code that is then left for the next
use Rattle.std.specs.Prelude.{ℤ, pos, Bool, Option, Some, option_map, if◌then◌else◌}
use Rattle.jc_types.specs.declared.actions.End.{End}
use Rattle.jc_types.specs.declared.objects.Pod.{Pod}
use Rattle.jc_history.specs.Nodes.{NodeAct as Act}
use Rattle.jc_history.specs.Nodes as does
use Rattle.jc_node.specs.declared.acts.NodeAct.{NodeAct}
use Rattle.jc_node.specs.declared.acts.NodeAct.TheVariants.{Stop, Start, Again, Finish}
use Rattle.jc_node.specs.declared.acts.NodeStep.{NodeStep}

-- The act without the end that it brings.
abbrev pub act_kind : Act → NodeAct
act_kind does.Stop = Stop
act_kind does.Start = Start
act_kind does.Again = Again
act_kind (does.Finish end) = Finish

-- The step by its pod's UID.
abbrev pub step_of : Pod × Act → NodeStep
step_of step = record { pod = step.0.uid; act = act_kind step.1 }

-- The act of the kind, which brings this end where it finishes the pod.
abbrev pub act_of : NodeAct → Option End → Option Act
act_of Stop end = Some does.Stop
act_of Start end = Some does.Start
act_of Again end = Some does.Again
act_of Finish end = option_map does.Finish end

-- The code of a container: an init container exits with 0, another with the code that is left.
abbrev pub code_for : Bool → ℤ → ℤ
code_for init code = if init then pos 0 else code

-- The code that is left for the next: the first container that is no init container takes it.
abbrev pub code_after : Bool → ℤ → ℤ
code_after init code = if init then code else pos 0
