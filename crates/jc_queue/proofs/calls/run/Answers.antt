use Rattle.std.proofs.Common.{arith, Global, Vec, ◌∷◌, ◌++◌, [], append-nil, ◌∙◌, sym, ap}
use Rattle.std.specs.Option.{option_to_list}
use Rattle.jc_types.specs.declared.objects.KeyNames.{KeyNames as Key}
use Rattle.jc_queue.proofs.CallFacts.{all_idle, stepped}
use Rattle.jc_queue.proofs.calls.run.Goals as goal
use Rattle.jc_queue.proofs.calls.run.Goals.{in-Some, in_default}

pub loop-call-preserved : goal.loop-call-preserved
loop-call-preserved c =
    let step = stepped c.args.queue.now.queue c.loop-call.queue.queue c.make.new.queue.queue c.args.calls.now c.loop-call.call-index c.call-item.result c.loop-call.keys.items c.match-branch-4.keys.items c.in_ok-key.field-0
    (omega (arith, c.loop-call-test.true)) c.call-item.is c.loop-call.invariant.0 c.loop-call.invariant.1 c.in_ok-key.ensures.state c.in_ok-key.ensures.key in
    elim c.match-branch-4.branch [
      | in-Some w ↦
          step (ap (λ (keys : Vec Key Global). keys.items) w.keys-is ∙ w.push_reserved.ensures.items ∙ ap (λ keys. keys ++ w.in-Some.key ∷ []) c.reserve.ensures.items
          ∙ ap (λ got. c.loop-call.keys.items ++ option_to_list got) (sym w.in-Some.is))
      | in_default w ↦
          step (ap (λ (keys : Vec Key Global). keys.items) w.keys-is ∙ c.reserve.ensures.items ∙ sym (append-nil c.loop-call.keys.items)
          ∙ ap (λ got. c.loop-call.keys.items ++ option_to_list got) (sym w.in_default.is))
    ]

pub returns-in_err-keys-clause-apart : goal.returns-in_err-keys-clause-apart
returns-in_err-keys-clause-apart c = all_idle c.args.queue.now.queue c.args.calls.now c.len.ensures.queue

pub returns-in_err-reserve-clause-apart : goal.returns-in_err-reserve-clause-apart
returns-in_err-reserve-clause-apart c = all_idle c.args.queue.now.queue c.args.calls.now c.len.ensures.queue

pub returns-in_err-key-clause-apart : goal.returns-in_err-key-clause-apart
returns-in_err-key-clause-apart c = all_idle c.args.queue.now.queue c.args.calls.now c.len.ensures.queue

pub returns-clause-apart : goal.returns-clause-apart
returns-clause-apart c = all_idle c.args.queue.now.queue c.args.calls.now c.len.ensures.queue
