-- So far the tokens of those before.
use Rattle.std.proofs.Common.{take}
use Rattle.jc_texts.specs.ChangeTexts.{container_data}
use Rattle.jc_print.specs.Tokens.{AddsTokens}
use Rattle.jc_print.proofs.Writing.{each_tokens}
use Rattle.jc_texts.proofs.changes.write_containers.Given as goal

abbrev pub invariant-loop-change : goal.invariant-loop-change
invariant-loop-change l = AddsTokens l.initial.writer l.writer (each_tokens container_data (take l.change-index l.changes))
