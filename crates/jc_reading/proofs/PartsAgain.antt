-- What is printed of an allowed specification, change, report and list of ends is read back.
use Rattle.std.proofs.Common.{ℕ, ℤ, ◌≤◌, List, [], cond, codes, None, IsUtf8, refl, ap, ◌∙◌, arith}
use Rattle.std.specs.List.{AllByRecursion as Each}
use Rattle.std.proofs.lemmas.Str.{is_utf8-from_IsUtf8}
use Rattle.serde_json.specs.Data.{Data, boolean, string}
use Rattle.serde_json.specs.Read.{read}
use Rattle.serde_json.specs.Written.{compact_text}
use Rattle.jc_json.specs.Line.{data_of}
use Rattle.jc_lines.specs.ChangeTexts.{container_data, end_data, ends_data, exit_data, phase_change_data, pod_condition_data, with_container, with_exit_member}
use Rattle.jc_lines.specs.ReportWords.{phase_word}
use Rattle.jc_print.specs.PrintedMembers.{number_data}
use Rattle.jc_print.specs.PrintedSpecs.{change_data, spec_data, with_changed_counts, with_changed_limits}
use Rattle.jc_types.specs.declared.actions.ContainerChange.{ContainerChange}
use Rattle.jc_types.specs.declared.actions.End.{End}
use Rattle.jc_types.specs.declared.actions.PhaseChange.{PhaseChange}
use Rattle.jc_types.specs.declared.actions.SpecChange.{SpecChange}
use Rattle.jc_types.specs.declared.objects.KeyNames.{KeyNames as Key}
use Rattle.jc_types.specs.declared.objects.Phase.{Phase}
use Rattle.jc_types.specs.declared.objects.Phase.TheVariants.{Pending, Running, Succeeded, Failed}
use Rattle.jc_types.specs.declared.policies.Pattern.{Pattern}
use Rattle.jc_types.specs.declared.specifications.JobSpec.{JobSpec}
use Rattle.jc_reading.specs.Allowed.{IsAllowedKey, IsAllowedSpec}
use Rattle.jc_reading.specs.Proper.{AreAllowedEnds, HasUnicodeTypes, IsAllowedChange, IsAllowedContainer, IsAllowedEnd, IsAllowedReport, IsAllowedType}
use Rattle.jc_reading.specs.Spelled.{IsSpelled}
use Rattle.jc_reading.specs.Turned.{IsReadAs, ReadAsEnds, ReadsAsChange, ReadsAsJob, ReadsAsReport}
use Rattle.jc_reading.proofs.AgainSpec.{key_is_read, manifest_passes, spec_is_read}
use Rattle.jc_reading.proofs.AsciiFacts.{ascii_text, label_ascii}
use Rattle.jc_reading.proofs.ChangeAgain.{change_again}
use Rattle.jc_reading.proofs.CompactFacts.{compact_text_told}
use Rattle.jc_reading.proofs.EndsAgain.{ends_again}
use Rattle.jc_reading.proofs.JobTexts.{allowed_texts, any_spelled, given_spelled, items_spelled, named, spec_spelled, spelled_with, truth_text}
use Rattle.jc_reading.proofs.ReportAgain.{report_again}
use Rattle.jc_reading.proofs.RangeFacts.{change_told, ends_told, report_told}
use Rattle.jc_reading.proofs.TextFacts.{compact_spelled}
use Rattle.jc_reading.proofs.ToldFacts.{IsToldWithin, each, spec_told}

-- The text of a value that is told, whose texts are Unicode, reads as the value.
pub reads_as : (n : ℕ) (d : Data) → IsToldWithin n d → n ≤ 100 → IsSpelled d → IsReadAs d
unfolding data_of
reads_as n d fine few spelled =
    let deep = fine.deep in
    ap (λ b. cond b (read (compact_text d)) None) (is_utf8-from_IsUtf8 (compact_text d) (compact_spelled d fine.told spelled))
    ∙ compact_text_told d fine.told (omega (arith, deep, few))

-- ---- Jobs

pub job_reads : (key : Key) (spec : JobSpec) → IsAllowedKey key → IsAllowedSpec spec → HasUnicodeTypes spec → ReadsAsJob key spec
job_reads key spec name allowed types = record {
  reads = reads_as 7 (spec_data spec) (spec_told spec allowed) (omega arith) (spec_spelled spec (allowed_texts spec allowed types));
  accepted = manifest_passes [] key spec name allowed;
  names = key_is_read [] key spec;
  says = spec_is_read [] key spec allowed;
}

-- ---- changes

change_spelled : (change : SpecChange) → IsSpelled (change_data change)
unfolding change_data with_changed_counts with_changed_limits
change_spelled change =
    spelled_with _ _ _ (named (codes "suspend") refl) (any_spelled boolean (λ b. tt) change.suspend)
    (spelled_with _ _ _ (named (codes "parallelism") refl) (any_spelled number_data (λ n. tt) change.parallelism)
    (spelled_with _ _ _ (named (codes "completions") refl) (any_spelled number_data (λ n. tt) change.completions)
    (spelled_with _ _ _ (named (codes "backoffLimit") refl) (any_spelled number_data (λ n. tt) change.backoff_limit)
    (spelled_with _ _ _ (named (codes "activeDeadlineSeconds") refl) (any_spelled number_data (λ n. tt) change.deadline) tt))))

pub change_reads : (change : SpecChange) → IsAllowedChange change → ReadsAsChange change
change_reads change allowed = record {
  reads = reads_as 2 (change_data change) (change_told change allowed) (omega arith) (change_spelled change);
  said = change_again change allowed;
}

-- ---- reports

code_spelled : (z : ℤ) → IsSpelled (exit_data z)
code_spelled z = tt

container_spelled : (change : ContainerChange) → IsAllowedContainer change → IsSpelled (container_data change)
unfolding container_data with_container with_exit_member
container_spelled change allowed =
    spelled_with _ _ _ (named (codes "restartCount") refl) (any_spelled number_data (λ n. tt) change.restarts)
    (spelled_with _ _ _ (named (codes "name") refl) (ascii_text change.name (label_ascii change.name allowed.name))
    (spelled_with _ _ _ (named (codes "exitCode") refl) (any_spelled exit_data code_spelled change.exit) tt))

condition_spelled : (condition : Pattern) → IsAllowedType condition.kind → IsSpelled (pod_condition_data condition)
unfolding pod_condition_data
condition_spelled condition allowed =
    spelled_with _ _ _ (named (codes "type") refl) allowed.1 (spelled_with _ _ _ (named (codes "status") refl) (truth_text condition.truth) tt)

phase_text : (phase : Phase) → IsUtf8 (phase_word phase)
phase_text Pending = named _ refl
phase_text Running = named _ refl
phase_text Succeeded = named _ refl
phase_text Failed = named _ refl

report_spelled : (change : PhaseChange) → IsAllowedReport change → IsSpelled (phase_change_data change)
unfolding phase_change_data
report_spelled change allowed =
    spelled_with _ _ _ (named (codes "phase") refl) (phase_text change.phase)
    (spelled_with _ _ _ (named (codes "containers") refl) (items_spelled container_data change.containers (each container_spelled change.containers allowed.containers))
    (spelled_with _ _ _ (named (codes "conditions") refl) (items_spelled pod_condition_data change.conditions (each condition_spelled change.conditions allowed.conditions)) tt))

pub report_reads : (change : PhaseChange) → IsAllowedReport change → ReadsAsReport change
report_reads change allowed = record {
  reads = reads_as 4 (phase_change_data change) (report_told change allowed) (omega arith) (report_spelled change allowed);
  said = report_again change allowed;
}

-- ---- ends

end_spelled : (end : End) → IsAllowedEnd end → IsSpelled (end_data end)
unfolding end_data
end_spelled end allowed =
    spelled_with _ _ _ (named (codes "restarts") refl) tt
    (spelled_with _ _ _ (named (codes "exitCode") refl) (code_spelled end.exit)
    (spelled_with _ _ _ (named (codes "condition") refl) (given_spelled string (λ s h. h.1) end.condition allowed.condition) tt))

ends_spelled : (ends : List End) → Each IsAllowedEnd ends → IsSpelled (ends_data ends)
unfolding ends_data
ends_spelled ends allowed = items_spelled end_data ends (each end_spelled ends allowed)

pub ends_read : (ends : List End) → AreAllowedEnds ends → ReadAsEnds ends
ends_read ends allowed = record {
  reads = reads_as 3 (ends_data ends) (ends_told ends allowed.each) (omega arith) (ends_spelled ends allowed.each);
  said = ends_again ends allowed;
}
