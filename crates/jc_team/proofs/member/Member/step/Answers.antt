use Rattle.std.proofs.Common.{◌≡◌, ◌<◌, true, length, set, slice_get, Some, None, refl, sym, ap, ◌∙◌, subst}
use Rattle.jc_queue.specs.Queued.{has_key}
use Rattle.jc_log.specs.Requests.{grown}
use Rattle.jc_sync.specs.Steps.{stepped}
use Rattle.jc_runs.specs.Teams.{Stride, Team, end_of_next, stride_at, stride_of}
use Rattle.jc_runs.proofs.ListFacts.{set_itself}
use Rattle.jc_runs.proofs.StrideFacts.{closed_register, read_at, stride_is}
use Rattle.jc_team.proofs.member.Member.step.Goals as goal
use Rattle.jc_team.proofs.member.Member.step.Goals.{After-self-3-1}

pub returns-in_default-clause-faults : goal.returns-in_default-clause-faults
returns-in_default-clause-faults c =
    let f = read_at c.self.inside.faults.items c.args.worker c.index-pending.result.now (length c.args.self.now.faults) c.requires.faulty (ap (λ (t : Team). length t.faults) (sym c.self.view_is)) c.index-pending.ensures in
    let e = read_at c.self.inside.registers.items c.args.worker c.index_mut.result.now (length c.args.self.now.registers) c.requires.worker (ap (λ (t : Team). length t.registers) (sym c.self.view_is)) c.index_mut.ensures.value in
    sym (set_itself c.self.inside.faults.items c.args.worker c.index-pending.result.now f)
    ∙ ap (λ (t : Team). set t.faults c.args.worker c.index-pending.result.now) c.self.view_is
    ∙ ap (λ (s : Stride). set c.args.self.now.faults c.args.worker s.fault)
    (sym (stride_is c.args.store.now c.args.now
    (record {
      con = c.self.inside.controller;
      registers = c.self.inside.registers.items;
      faults =
          c.self.inside.faults.items;
    }) c.args.self.now c.args.worker None c.index-pending.result.now c.self.view_is
    (e ∙ ap (λ o. Some o) c.in_default.is) f))

pub step-requires-clause-busy : goal.step-requires-clause-busy
step-requires-clause-busy c =
    let e = read_at c.self.inside.registers.items c.args.worker c.index_mut.result.now (length c.args.self.now.registers) c.requires.worker (ap (λ (t : Team). length t.registers) (sym c.self.view_is)) c.index_mut.ensures.value in
    subst (λ (t : Team). has_key c.in-Some.started.flight.basis.key t.con.schedule.queue.processing ≡ true) (sym c.self.view_is)
    (c.requires.busy c.in-Some.started (ap (λ (t : Team). slice_get t.registers c.args.worker) (sym c.self.view_is) ∙ e ∙ ap (λ o. Some o) c.in-Some.is))

stride : (c : After-self-3-1) → stride_of c.args.store.now c.args.now c.args.self.now c.args.worker ≡ stride_at c.args.store.now c.args.now c.index-pending.result.now c.self.inside.controller.schedule (Some c.in-Some.started)
stride c =
    stride_is c.args.store.now c.args.now (record {
      con = c.self.inside.controller;
      registers = c.self.inside.registers.items;
      faults = c.self.inside.faults.items;
    }) c.args.self.now c.args.worker (Some c.in-Some.started) c.index-pending.result.now c.self.view_is
    (read_at c.self.inside.registers.items c.args.worker c.index_mut.result.now (length c.args.self.now.registers)
    c.requires.worker (ap (λ (t : Team). length t.registers) (sym c.self.view_is)) c.index_mut.ensures.value
    ∙ ap (λ o. Some o) c.in-Some.is)
    (read_at c.self.inside.faults.items c.args.worker c.index-pending.result.now (length c.args.self.now.faults) c.requires.faulty (ap (λ (t : Team). length t.faults) (sym c.self.view_is)) c.index-pending.ensures)

pub returns-clause-reply : goal.returns-clause-reply
returns-clause-reply c = c.in_ok-taken.ensures.reply ∙ ap (λ (s : Stride). s.reply) (sym (stride c))

pub returns-clause-log : goal.returns-clause-log
returns-clause-log c = c.in_ok-taken.ensures.log ∙ ap (λ (s : Stride). grown c.args.store.now s.entry) (sym (stride c))

pub returns-clause-schedule : goal.returns-clause-schedule
returns-clause-schedule c = c.in_ok-taken.ensures.schedule ∙ ap (λ (s : Stride). s.schedule) (sym (stride c))

pub returns-clause-registers : goal.returns-clause-registers
returns-clause-registers c =
    c.close.ensures
    ∙ closed_register c.self.inside.registers.items c.args.worker c.in_ok-taken.taken.is_over
    (stepped c.args.now c.index-pending.result.now c.args.store.now c.in-Some.started).next c.step.new.self
    c.in_ok-taken.ensures.over c.in_ok-taken.ensures.goes
    ∙ ap (λ (s : Stride). set c.self.inside.registers.items c.args.worker s.register) (sym (stride c))
    ∙ ap (λ (t : Team). set t.registers c.args.worker (stride_of c.args.store.now c.args.now c.args.self.now c.args.worker).register) c.self.view_is

pub returns-clause-faults : goal.returns-clause-faults
returns-clause-faults c =
    ap (set c.self.inside.faults.items c.args.worker) (c.in_ok-taken.ensures.fault ∙ ap (λ (s : Stride). s.fault) (sym (stride c)))
    ∙ ap (λ (t : Team). set t.faults c.args.worker (stride_of c.args.store.now c.args.now c.args.self.now c.args.worker).fault) c.self.view_is
