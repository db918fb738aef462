use Rattle.std.proofs.Common.{take}
use Rattle.jc_print.specs.PrintedSpecs.{success_rule_data}
use Rattle.jc_print.specs.Tokens.{AddsTokens}
use Rattle.jc_print.proofs.Writing.{each_tokens}
use Rattle.jc_print.proofs.printed_specs.write_success_rules.Given as goal

abbrev pub invariant-loop-rule : goal.invariant-loop-rule
invariant-loop-rule l = AddsTokens l.initial.writer l.writer (each_tokens success_rule_data (take l.rule-index l.rules))
