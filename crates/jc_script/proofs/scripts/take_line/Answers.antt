use Rattle.std.proofs.Common.{◌∙◌, ap, sym, ◌+◌, length, nat_le}
use Rattle.jc_script.proofs.Reading.{taken_times, few_times, many_times, bad_line}
use Rattle.jc_script.proofs.scripts.take_line.Goals as goal
use Rattle.jc_script.specs.Scripts.{most_commands}

pub returns-in_ok-add_times-in-Ok-Some-clause-read : goal.returns-in_ok-add_times-in-Ok-Some-clause-read
returns-in_ok-add_times-in-Ok-Some-clause-read c =
    taken_times c.args.shape.now c.args.number c.args.commands.now c.add_times.new.commands c.in-Ok-Some.field-0
    c.in-Ok-Some.said c.args.line.now c.in-Ok-Some.ensures c.in-Ok-Some.field-0-is
    (ap (λ n. nat_le (n + c.in-Ok-Some.said.times) most_commands) (sym c.len.ensures) ∙ sym c.if-not-are_few.ensures)
    c.in_ok-add_times-in-Ok-Some.ensures

pub returns-in_ok-add_times-in-Ok-Some-clause-few_commands : goal.returns-in_ok-add_times-in-Ok-Some-clause-few_commands
returns-in_ok-add_times-in-Ok-Some-clause-few_commands c =
    few_times c.args.commands.now c.add_times.new.commands c.in-Ok-Some.said
    (ap (λ n. nat_le (n + c.in-Ok-Some.said.times) most_commands) (sym c.len.ensures) ∙ sym c.if-not-are_few.ensures)
    c.in_ok-add_times-in-Ok-Some.ensures

pub returns-then-not-are_few-clause-bad : goal.returns-then-not-are_few-clause-bad
returns-then-not-are_few-clause-bad c at cause e more =
    many_times c.args.shape.now c.args.number (length c.args.commands.now) c.in-Ok-Some.field-0 c.in-Ok-Some.said
    c.args.line.now c.in-Ok-Some.ensures c.in-Ok-Some.field-0-is
    (ap (λ n. nat_le (n + c.in-Ok-Some.said.times) most_commands) (sym c.len.ensures) ∙ sym c.if-not-are_few.ensures)
    more
    ∙ ap bad_line e
