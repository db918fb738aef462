use Rattle.std.proofs.Common.{◌≡◌, length, Some, ap, sym, ◌∙◌}
use Rattle.jc_runs.specs.Teams.{Team}
use Rattle.jc_runs.proofs.StrideFacts.{read_at}
use Rattle.jc_team.proofs.Begins.{begin_left, begin_put, begin_told}
use Rattle.jc_watch.proofs.RowFacts.{none_from as none_of}
use Rattle.jc_team.proofs.member.Member.begin.Goals as goal

pub returns-clause-reply : goal.returns-clause-reply
returns-clause-reply c = begin_told (record
    { con = c.self.inside.controller; registers = c.self.inside.registers.items; faults = c.self.inside.faults.items })
    c.args.self.now c.self.view_is c.args.worker c.args.now
    (read_at c.self.inside.registers.items c.args.worker c.index.result.now (length c.args.self.now.registers)
    c.requires.worker (ap (λ (t : Team). length t.registers) (sym c.self.view_is)) c.index.ensures
    ∙ ap (λ o. Some o) (none_of c.index.result.now (sym c.is_some.ensures ∙ c.if-is_some.false)))
    c.in_ok-told.told c.in_ok-told.ensures.reply

pub returns-clause-schedule : goal.returns-clause-schedule
returns-clause-schedule c = begin_left (record
    { con = c.self.inside.controller; registers = c.self.inside.registers.items; faults = c.self.inside.faults.items })
    c.args.self.now c.self.view_is c.args.worker c.args.now
    (read_at c.self.inside.registers.items c.args.worker c.index.result.now (length c.args.self.now.registers)
    c.requires.worker (ap (λ (t : Team). length t.registers) (sym c.self.view_is)) c.index.ensures
    ∙ ap (λ o. Some o) (none_of c.index.result.now (sym c.is_some.ensures ∙ c.if-is_some.false)))
    c.begin.new.controller.schedule c.in_ok-told.ensures.schedule

pub returns-clause-registers : goal.returns-clause-registers
returns-clause-registers c = begin_put (record
    { con = c.self.inside.controller; registers = c.self.inside.registers.items; faults = c.self.inside.faults.items })
    c.args.self.now c.self.view_is c.args.worker c.args.now
    (read_at c.self.inside.registers.items c.args.worker c.index.result.now (length c.args.self.now.registers)
    c.requires.worker (ap (λ (t : Team). length t.registers) (sym c.self.view_is)) c.index.ensures
    ∙ ap (λ o. Some o) (none_of c.index.result.now (sym c.is_some.ensures ∙ c.if-is_some.false))) c.in_ok-told.sync
    c.start.new.registers.items c.in_ok-told.ensures.sync c.start.ensures
