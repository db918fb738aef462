-- What the node does next: it starts, restarts and finishes pods as their fates say, and stops marked ones.
--     fate deeds k               the ends of the key's pods
--     finish_change pod exit     the pod finishes with the exit code
--     NodeAct, act_on            what befalls a pod
--     node_step log fates        the open pod with the least UID that something befalls
--     change_by pod act          what is then reported of it
use Rattle.std.specs.Prelude.{ℕ, ℤ, pos, ◌+◌, ◌-◌, ◌^◌, Bool, false, not, ◌&&◌, ◌||◌, min, nat_lt, List, [], ◌∷◌, map, slice_get, if◌then◌else◌, Option, Some, None, is_none}
use Rattle.std.specs.List.{filter_map}
use Rattle.std.specs.Option.{option_map, option_map_or, option_or, option_to_list}
use Rattle.std.specs.Ordering.{int_eq}
use Rattle.jc_log.specs.Acts as does
use Rattle.jc_plan.specs.Decisions.{restarts_on_failure}
use Rattle.jc_history.specs.Notes.{newest}
use Rattle.jc_types.specs.declared.actions.ContainerChange.{ContainerChange}
use Rattle.jc_types.specs.declared.actions.End.{End}
use Rattle.jc_types.specs.declared.actions.PhaseChange.{PhaseChange}
use Rattle.jc_types.specs.declared.objects.Container.{Container}
use Rattle.jc_types.specs.declared.objects.Entry.{Entry}
use Rattle.jc_types.specs.declared.objects.Phase.TheVariants.{Running, Succeeded, Failed}
use Rattle.jc_types.specs.declared.objects.Pod.{Pod}
use Rattle.jc_types.specs.declared.policies.Pattern.{Pattern}
use Rattle.jc_types.specs.declared.policies.Truth.TheVariants.{True}
use Rattle.jc_log.specs.Acts.{Act}
use Rattle.jc_log.specs.Deeds.{Deed}
use Rattle.jc_types.specs.declared.objects.KeyNames.{KeyNames as Key}
use Rattle.jc_types.specs.Keys.{same_key}
use Rattle.jc_log.specs.Log.{pods_in}
use Rattle.jc_states.specs.Pods.{is_marked, is_open, is_pending}

-- ---- fates

-- What the deed says of the fate of the key's pods.
abbrev pub fate_told : Key → Deed → Option (List End)
fate_told k d = by d.act
  where
    by : Act → Option (List End)
    by (does.Fate key ends) = if same_key key k then Some ends else None
    by other = None

-- The ends of the key's pods.
abbrev pub fate : List Deed → Key → Option (List End)
fate deeds k = newest (fate_told k) deeds

-- The last of the ends.
abbrev pub last_end : List End → Option End
last_end [] = None
last_end (end ∷ ends) = option_or (last_end ends) (Some end)

-- The end of the pod: that at its serial, or the last.
abbrev pub end_at : ℕ → List End → Option End
end_at serial ends = option_or (slice_get ends serial) (last_end ends)

-- That of the pod, by the fates of all keys.
abbrev pub pod_end : (Key → Option (List End)) → Pod → Option End
pod_end fates pod = option_map_or (end_at pod.serial) (fates pod.owner) None

-- ---- changes

-- The container exits with the code.
abbrev pub with_exit : ℤ → Container → ContainerChange
with_exit exit container = record { name = container.name; exit = Some exit; restarts = None }

-- Every container exits with 0, but the first one that is no init container with the code.
abbrev pub exits : ℤ → List Container → List ContainerChange
exits exit [] = []
exits exit (container ∷ more) =
    if container.init then with_exit (pos 0) container ∷ exits exit more
    else with_exit exit container ∷ map (with_exit (pos 0)) more

-- A condition of the kind that is true.
abbrev pub true_pattern : List ℕ → Pattern
true_pattern kind = record { kind = kind; truth = True }

-- The pod finishes.
abbrev pub finishes : Pod → ℤ → Option (List ℕ) → PhaseChange
finishes pod exit condition = record {
  phase = if int_eq exit (pos 0) then Succeeded else Failed;
  containers = exits exit pod.containers;
  conditions = map true_pattern (option_to_list condition);
}

-- It finishes with the code, by a command.
abbrev pub finish_change : Pod → ℤ → PhaseChange
finish_change pod exit = finishes pod exit None

-- A container that still runs is killed.
abbrev pub killed : Container → Option ContainerChange
killed container = if not container.init && is_none container.exit then Some (with_exit (pos 143) container) else None

-- A marked pod is stopped: it fails, and what runs of it is killed.
abbrev pub stop_change : Pod → PhaseChange
stop_change pod = record {
  phase = Failed;
  containers = if is_pending pod.phase then [] else filter_map killed pod.containers;
  conditions = [];
}

-- `Ready`.
abbrev pub ready : List ℕ
ready = 82 ∷ 101 ∷ 97 ∷ 100 ∷ 121 ∷ []

-- A pending pod starts, and is ready.
abbrev pub start_change : PhaseChange
start_change = record { phase = Running; containers = []; conditions = true_pattern ready ∷ [] }

-- The container restarts.
abbrev pub once_more : Container → ContainerChange
once_more container = record {
  name = container.name;
  exit = None;
  restarts = Some (min (container.restarts + 1) (2 ^ 32 - 1));
}

-- The first of the containers.
abbrev pub first_container : List Container → Option Container
first_container [] = None
first_container (container ∷ more) = Some container

-- The pod's first container restarts.
abbrev pub again_change : Pod → PhaseChange
again_change pod = record {
  phase = Running;
  containers = option_to_list (option_map once_more (first_container pod.containers));
  conditions = [];
}

-- ---- what befalls a pod

-- What the node does to a pod: it stops a marked one, starts a pending one, restarts a container, or lets it finish.
pub data NodeAct : Type 0 where
  Stop : NodeAct
  Start : NodeAct
  Again : NodeAct
  Finish : End → NodeAct

-- The first container is to be restarted, under the policy OnFailure: more often, or as long as it would fail.
abbrev pub is_again : Pod → End → Bool
is_again pod end =
    restarts_on_failure pod.restart
    && (option_map_or (λ container. nat_lt container.restarts end.restarts) (first_container pod.containers) false
    || not (int_eq end.exit (pos 0)))

-- What befalls an open pod that is not marked and is to end so.
abbrev pub act_with : Pod → Option End → Option NodeAct
act_with pod None = None
act_with pod (Some end) =
    if is_pending pod.phase then Some Start
    else if is_again pod end then Some Again
    else Some (Finish end)

-- What befalls the pod.
abbrev pub act_on : (Key → Option (List End)) → Pod → Option NodeAct
act_on fates pod =
    if not (is_open pod) then None
    else if is_marked pod then Some Stop
    else act_with pod (pod_end fates pod)

-- The open pod with the least UID that something befalls.
abbrev pub node_step : List Entry → (Key → Option (List End)) → Option (Pod × NodeAct)
node_step log fates = newest (λ pod. option_map (λ act. (pod, act)) (act_on fates pod)) (pods_in log)

-- What is then reported of the pod.
abbrev pub change_by : Pod → NodeAct → PhaseChange
change_by pod Stop = stop_change pod
change_by pod Start = start_change
change_by pod Again = again_change pod
change_by pod (Finish end) = finishes pod end.exit end.condition
