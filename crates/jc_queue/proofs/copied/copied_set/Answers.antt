use Rattle.std.proofs.Common.{arith, ◌+◌, ◌++◌, ◌∷◌, [], take, sym, ap, ◌∙◌}
use Rattle.std.proofs.lemmas.List.{take_more}
use Rattle.jc_queue.proofs.BackFacts.{key-copied}
use Rattle.jc_queue.proofs.copied.copied_set.Goals as goal

pub loop-key-preserved : goal.loop-key-preserved
loop-key-preserved c =
    let keys = c.args.keys.now in
    let i = c.loop-key.key-index in
    let k = c.key-item.result in
    key-copied keys c.loop-key.set.keys c.insert.new.self.keys i (i + 1) k c.in_ok-copy.field-0 c.requires.once (omega (arith, c.loop-key-test.true)) c.key-item.is
    (take_more keys i k (omega (arith, c.loop-key-test.true)) ∙ ap (λ k. take i keys ++ k ∷ []) (sym c.key-item.is)) c.in_ok-copy.ensures c.loop-key.invariant c.in_ok-insert.ensures.keys
