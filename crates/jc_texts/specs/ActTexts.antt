-- The texts of acts, a line for each.
--     act_text act     what an event does
use Rattle.std.specs.Prelude.{ℕ, List, [], ◌++◌, Option, None, Some, codes, decimal}
use Rattle.std.specs.Fmt.{signed_decimal}
use Rattle.serde_json.specs.Written.{compact_text}
use Rattle.jc_log.specs.Acts.{Act}
use Rattle.jc_log.specs.Acts as does
use Rattle.jc_print.specs.PrintedSpecs.{change_data, spec_data}
use Rattle.jc_types.specs.declared.numbers.Version.{Version}
use Rattle.jc_texts.specs.ChangeTexts.{ends_data, phase_change_data}
use Rattle.jc_texts.specs.ReportWords.{fault_word, key_text, objects_word, version_text}

-- The version that an update needs, or `any`.
abbrev pub wanted_text : Option Version → List ℕ
wanted_text None = codes "any"
wanted_text (Some version) = version_text version

-- A controller and its worker, as `0 3`.
abbrev pub worker_text : ℕ → ℕ → List ℕ
worker_text controller worker = decimal controller ++ (codes " " ++ decimal worker)

-- What an event does. A command that a script does not have has no text.
abbrev pub act_text : Act → List ℕ
act_text (does.Create key spec) = codes "create " ++ (key_text key ++ (codes " " ++ compact_text (spec_data spec)))
act_text (does.Update key version change) =
    codes "update " ++ (key_text key
    ++ (codes " " ++ (wanted_text version ++ (codes " " ++ compact_text (change_data change)))))
act_text (does.Delete key) = codes "delete " ++ key_text key
act_text (does.Mark pod) = codes "mark " ++ decimal pod.0
act_text (does.Strip pod) = codes "strip " ++ decimal pod.0
act_text (does.Finish pod exit) = codes "finish " ++ (decimal pod.0 ++ (codes " " ++ signed_decimal exit))
act_text (does.Report pod change) =
    codes "report " ++ (decimal pod.0 ++ (codes " " ++ compact_text (phase_change_data change)))
act_text (does.Fate key ends) = codes "fate " ++ (key_text key ++ (codes " " ++ compact_text (ends_data ends)))
act_text (does.Clock add) = codes "clock " ++ decimal add
act_text (does.List controller kind) = codes "list " ++ (decimal controller ++ (codes " " ++ objects_word kind))
act_text (does.Deliver controller kind) = codes "deliver " ++ (decimal controller ++ (codes " " ++ objects_word kind))
act_text (does.Begin controller worker) = codes "begin " ++ worker_text controller worker
act_text (does.Step controller worker) = codes "step " ++ worker_text controller worker
act_text does.Node = codes "node"
act_text (does.Restart controller) = codes "restart " ++ decimal controller
act_text (does.PutFault controller worker fault) =
    codes "fault " ++ (worker_text controller worker ++ (codes " " ++ fault_word fault))
act_text does.Settle = codes "settled"
act_text does.Unknown = []
