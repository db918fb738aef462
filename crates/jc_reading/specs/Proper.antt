-- What a script may say, part by part: what its formats allow.
--     IsAllowedType kind          the type of a condition
--     HasUnicodeTypes spec        the types of conditions that a specification's rules name are Unicode
--     IsAllowedChange change      what an update may change of a specification
--     IsAllowedReport change      what may be reported of a pod
--     AreAllowedEnds ends         how the pods of a Job may be said to end
--     IsProperAction, IsProperCommand     the parts of a command
--     as_begin action             a sync's own event is its begin
use Rattle.std.specs.Prelude.{◌≡◌, ◌||◌, true, ℕ, ℤ, pos, ◌<◌, ◌≤◌, ◌^◌, List, [], ◌∷◌, map, length, is_some, IfSome}
use Rattle.std.specs.Cmp.Lexicographic.{slice_cmp}
use Rattle.std.specs.List.{AllByRecursion as Each}
use Rattle.std.specs.Ordering.{nat_cmp}
use Rattle.std.specs.Str.{IsUtf8}
use Rattle.std.specs.declared.cmp.Ordering.TheVariants.{Less}
use Rattle.jc_manifest.specs.FailurePolicies.{is_type}
use Rattle.jc_rows.specs.NameForms.{is_label}
use Rattle.jc_types.specs.declared.actions.Action1.{Action1}
use Rattle.jc_types.specs.declared.actions.Action1.TheVariants as act
use Rattle.jc_types.specs.declared.actions.Command.{Command}
use Rattle.jc_types.specs.declared.actions.ContainerChange.{ContainerChange}
use Rattle.jc_types.specs.declared.actions.End.{End}
use Rattle.jc_types.specs.declared.actions.PhaseChange.{PhaseChange}
use Rattle.jc_types.specs.declared.actions.SpecChange.{SpecChange}
use Rattle.jc_types.specs.declared.limits.TheConstants.{GREATEST_COMPLETIONS, GREATEST_LIMIT, GREATEST_PARALLELISM}
use Rattle.jc_types.specs.declared.numbers.Uid.{Uid}
use Rattle.jc_types.specs.declared.numbers.Version.{Version}
use Rattle.jc_types.specs.declared.policies.FailurePolicy.{FailurePolicy}
use Rattle.jc_types.specs.declared.policies.FailureRule.{FailureRule}
use Rattle.jc_types.specs.declared.policies.Pattern.{Pattern}
use Rattle.jc_types.specs.declared.policies.Requirement.{Requirement}
use Rattle.jc_types.specs.declared.policies.Requirement.TheVariants.{ExitCodes, Conditions}
use Rattle.jc_types.specs.declared.runs.Sys.{Sys}
use Rattle.jc_types.specs.declared.runs.Sys.TheVariants as sys
use Rattle.jc_types.specs.declared.specifications.JobSpec.{JobSpec}
use Rattle.jc_reading.specs.Allowed.{IsAllowedKey, IsAllowedSpec, IsCode}

-- ---- types of conditions, the one text that is free

-- of 1 to 316 bytes, and Unicode
abbrev pub IsAllowedType : List ℕ → Type 0
IsAllowedType kind = (is_type kind ≡ true) × IsUtf8 kind

abbrev pub HasUnicode : Requirement → Type 0
HasUnicode (ExitCodes container operator values) = Unit {0}
HasUnicode (Conditions patterns) = Each (λ (pattern : Pattern). IsUtf8 pattern.kind) patterns

abbrev pub HasUnicodeTypes : JobSpec → Type 0
HasUnicodeTypes spec =
    IfSome spec.failure (λ (policy : FailurePolicy). Each (λ (rule : FailureRule). HasUnicode rule.requirement) policy.rules)

-- ---- the change of a specification

pub record IsAllowedChange (change : SpecChange) : Type 0 where
  pub parallelism : IfSome change.parallelism (λ n. n ≤ GREATEST_PARALLELISM)
  pub completions : IfSome change.completions (λ n. n ≤ GREATEST_COMPLETIONS)
  pub deadline : IfSome change.deadline (λ n. n ≤ GREATEST_LIMIT)
  pub backoff_limit : IfSome change.backoff_limit (λ n. n ≤ GREATEST_LIMIT)

-- ---- the report of a pod

-- The names stand in ascending order.
abbrev pub AreLater : List ℕ → List (List ℕ) → Type 0
AreLater name names = Each (λ other. slice_cmp nat_cmp name other ≡ Less) names

abbrev pub AreAscending : List (List ℕ) → Type 0
AreAscending [] = Unit {0}
AreAscending (name ∷ names) = AreLater name names × AreAscending names

-- Of a container its exit code is reported, or how often it was started again, or both.
pub record IsAllowedContainer (change : ContainerChange) : Type 0 where
  pub name : is_label change.name ≡ true
  pub exit : IfSome change.exit IsCode
  pub restarts : IfSome change.restarts (λ n. n ≤ GREATEST_LIMIT)
  pub some : (is_some change.exit || is_some change.restarts) ≡ true

pub record IsAllowedReport (change : PhaseChange) : Type 0 where
  pub rising : AreAscending (map (λ (container : ContainerChange). container.name) change.containers)
  pub containers : Each IsAllowedContainer change.containers
  pub conditions : Each (λ (condition : Pattern). IsAllowedType condition.kind) change.conditions

-- ---- how pods end

pub record IsExit (exit : ℤ) : Type 0 where
  pub code : ℕ
  pub few : code ≤ 255
  pub is : exit ≡ pos code

pub record IsAllowedEnd (end : End) : Type 0 where
  pub exit : IsExit end.exit
  pub restarts : end.restarts ≤ GREATEST_LIMIT
  pub condition : IfSome end.condition IsAllowedType

pub record AreAllowedEnds (ends : List End) : Type 0 where
  pub each : Each IsAllowedEnd ends
  pub some : 1 ≤ length ends
  pub few : length ends ≤ 100

-- ---- all parts

pub record IsPod (pod : Uid) : Type 0 where
  pub some : 1 ≤ pod.0
  pub few : pod.0 < 2 ^ 32

-- A controller and a worker of some shape.
pub record IsPossibleSeat (controller worker : ℕ) : Type 0 where
  pub controllers : controller < 4
  pub workers : worker < 16

abbrev pub IsProperAction : Action1 → Type 0
IsProperAction (act.Create key spec) = IsAllowedKey key × IsAllowedSpec spec × HasUnicodeTypes spec
IsProperAction (act.Update key version change) =
    IsAllowedKey key × IfSome version (λ (v : Version). v.0 < 2 ^ 32) × IsAllowedChange change
IsProperAction (act.Delete key) = IsAllowedKey key
IsProperAction (act.Mark pod) = IsPod pod
IsProperAction (act.Strip pod) = IsPod pod
IsProperAction (act.Finish pod exit) = IsPod pod × IsExit exit
IsProperAction (act.Report pod change) = IsPod pod × IsAllowedReport change
IsProperAction (act.Fate key ends) = IsAllowedKey key × AreAllowedEnds ends
IsProperAction (act.Clock add) = add < 2 ^ 32
IsProperAction (act.List controller kind) = controller < 4
IsProperAction (act.Deliver controller kind) = controller < 4
IsProperAction (act.Begin controller worker) = IsPossibleSeat controller worker
IsProperAction (act.Sync controller worker) = IsPossibleSeat controller worker
IsProperAction (act.Step controller worker) = IsPossibleSeat controller worker
IsProperAction act.Node = Unit {0}
IsProperAction (act.Restart controller) = controller < 4
IsProperAction (act.PutFault controller worker fault) = IsPossibleSeat controller worker
IsProperAction act.Settle = Unit {0}

pub record IsProperCommand (command : Command) : Type 0 where
  pub lane : command.lane < 16
  pub action : IsProperAction command.action

-- The seconds of an event of the system are those to a delay.
abbrev pub IsProperSystem : Sys → Type 0
IsProperSystem (sys.List controller kind) = controller < 4
IsProperSystem (sys.Deliver controller kind) = controller < 4
IsProperSystem (sys.Begin controller worker) = IsPossibleSeat controller worker
IsProperSystem (sys.Step controller worker) = IsPossibleSeat controller worker
IsProperSystem sys.Node = Unit {0}
IsProperSystem (sys.Clock add) = add < 2 ^ 64

-- A sync's own event is its begin.
abbrev pub as_begin : Action1 → Action1
as_begin (act.Sync controller worker) = act.Begin controller worker
as_begin other = other
