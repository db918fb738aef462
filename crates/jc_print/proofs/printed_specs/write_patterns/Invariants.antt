use Rattle.std.proofs.Common.{take}
use Rattle.jc_print.specs.PrintedSpecs.{pattern_data}
use Rattle.jc_print.specs.Tokens.{AddsTokens}
use Rattle.jc_print.proofs.Writing.{each_tokens}
use Rattle.jc_print.proofs.printed_specs.write_patterns.Given as goal

abbrev pub invariant-loop-pattern : goal.invariant-loop-pattern
invariant-loop-pattern l = AddsTokens l.initial.writer l.writer (each_tokens pattern_data (take l.pattern-index l.patterns))
