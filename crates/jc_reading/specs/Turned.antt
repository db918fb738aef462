-- The line of a script that the printed value of a part is turned into, and what is read of it.
--     of_member name d            an object of one member
--     report_of d                 the line that the printed report of a pod is turned into
--     IsReadAs d                  the text of the value reads as the value
--     ReadsAsJob, ReadsAsChange, ReadsAsReport, ReadAsEnds     what is printed of a part says the part again
use Rattle.std.specs.Prelude.{◌≡◌, ℕ, List, [], codes, Option, Some, None, Ok, option_and_then, unwrap_or}
use Rattle.serde_json.specs.Data.{Data, null, object, Items, no_items, item, Members, no_members, put}
use Rattle.serde_json.specs.Find.{as_array, as_str, get}
use Rattle.serde_json.specs.Written.{compact_text}
use Rattle.jc_json.specs.Line.{data_of}
use Rattle.jc_manifest.specs.Manifests.{key_of, manifest_refusal, spec_of}
use Rattle.jc_print.specs.PrintedSpecs.{change_data, spec_data}
use Rattle.jc_script.specs.EndMembers.{ends_said}
use Rattle.jc_script.specs.Phases.{report_in}
use Rattle.jc_script.specs.Updates.{change_in}
use Rattle.jc_types.specs.declared.actions.End.{End}
use Rattle.jc_types.specs.declared.actions.PhaseChange.{PhaseChange}
use Rattle.jc_types.specs.declared.actions.SpecChange.{SpecChange}
use Rattle.jc_types.specs.declared.objects.KeyNames.{KeyNames as Key}
use Rattle.jc_types.specs.declared.specifications.JobSpec.{JobSpec}
use Rattle.jc_lines.specs.ChangeTexts.{ends_data, phase_change_data}
use Rattle.jc_reading.specs.Manifested.{manifest_data}

-- ---- lines

-- An object of one member.
abbrev pub of_member : List ℕ → Data → Data
of_member name d = object (put name d no_members)

-- The members of a script's line that the printed report of a pod is turned into: the numbers of each kind by name.
abbrev pub put_named : Option (List ℕ) → Option Data → Members → Members
put_named None given ms = ms
put_named (Some name) None ms = ms
put_named (Some name) (Some d) ms = put name d ms

abbrev pub numbers_by_name : List ℕ → Items → Members → Members
numbers_by_name field no_items ms = ms
numbers_by_name field (item d ds) ms =
    numbers_by_name field ds (put_named (option_and_then as_str (get (codes "name") d)) (get field d) ms)

abbrev pub items_at : List ℕ → Data → Items
items_at name d = unwrap_or (option_and_then as_array (get name d)) no_items

abbrev pub with_numbers : Items → Members → Members
with_numbers containers ms =
    put (codes "exitCodes") (object (numbers_by_name (codes "exitCode") containers no_members))
    (put (codes "restartCounts") (object (numbers_by_name (codes "restartCount") containers no_members)) ms)

unfoldable pub report_of : Data → Data
report_of d =
    object (put (codes "conditions") (unwrap_or (get (codes "conditions") d) null)
    (with_numbers (items_at (codes "containers") d)
    (put (codes "phase") (unwrap_or (get (codes "phase") d) null) no_members)))

-- ---- what is read

abbrev pub IsReadAs : Data → Type 0
IsReadAs d = data_of (compact_text d) ≡ Some d

-- The manifest of that key and printed specification is accepted, and says both.
pub record ReadsAsJob (key : Key) (spec : JobSpec) : Type 0 where
  pub reads : IsReadAs (spec_data spec)
  pub accepted : manifest_refusal [] (manifest_data key (spec_data spec)) ≡ None
  pub names : key_of [] (manifest_data key (spec_data spec)) ≡ key
  pub says : spec_of [] (manifest_data key (spec_data spec)) ≡ spec

pub record ReadsAsChange (change : SpecChange) : Type 0 where
  pub reads : IsReadAs (change_data change)
  pub said : change_in (of_member (codes "spec") (change_data change)) ≡ Ok change

pub record ReadsAsReport (change : PhaseChange) : Type 0 where
  pub reads : IsReadAs (phase_change_data change)
  pub said : report_in (report_of (phase_change_data change)) ≡ Ok change

pub record ReadAsEnds (ends : List End) : Type 0 where
  pub reads : IsReadAs (ends_data ends)
  pub said : ends_said (of_member (codes "ends") (ends_data ends)) ≡ Ok ends
