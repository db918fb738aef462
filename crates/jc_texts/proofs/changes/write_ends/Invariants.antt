-- So far the tokens of those before.
use Rattle.std.proofs.Common.{take}
use Rattle.jc_texts.specs.ChangeTexts.{end_data}
use Rattle.jc_print.specs.Tokens.{AddsTokens}
use Rattle.jc_print.proofs.Writing.{each_tokens}
use Rattle.jc_texts.proofs.changes.write_ends.Given as goal

abbrev pub invariant-loop-end : goal.invariant-loop-end
invariant-loop-end l = AddsTokens l.initial.writer l.writer (each_tokens end_data (take l.end-index l.ends))
