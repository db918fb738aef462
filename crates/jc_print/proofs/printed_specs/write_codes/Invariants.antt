use Rattle.std.proofs.Common.{take}
use Rattle.serde_json.specs.Data.{number}
use Rattle.serde_json.specs.Find.{of_integer}
use Rattle.jc_print.specs.Tokens.{AddsTokens}
use Rattle.jc_print.proofs.Writing.{each_tokens}
use Rattle.jc_print.proofs.printed_specs.write_codes.Given as goal

abbrev pub invariant-loop-exit : goal.invariant-loop-exit
invariant-loop-exit l =
    AddsTokens l.initial.writer l.writer (each_tokens (λ z. number (of_integer z)) (take l.exit-index l.exits))
