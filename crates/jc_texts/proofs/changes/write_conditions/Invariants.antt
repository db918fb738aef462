-- So far the tokens of those before.
use Rattle.std.proofs.Common.{take}
use Rattle.jc_texts.specs.ChangeTexts.{pod_condition_data}
use Rattle.jc_print.specs.Tokens.{AddsTokens}
use Rattle.jc_print.proofs.Writing.{each_tokens}
use Rattle.jc_texts.proofs.changes.write_conditions.Given as goal

abbrev pub invariant-loop-condition : goal.invariant-loop-condition
invariant-loop-condition l =
    AddsTokens l.initial.writer l.writer (each_tokens pod_condition_data (take l.condition-index l.conditions))
