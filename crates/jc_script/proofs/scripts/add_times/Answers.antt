use Rattle.std.proofs.Common.{◌≡◌, ◌+◌, ◌++◌, ◌∷◌, [], replicate, ap, ◌∙◌, arith}
use Rattle.std.proofs.lemmas.List.{append_assoc, replicate_more}
use Rattle.std.proofs.lemmas.Result.{on_ok_weaker}
use Rattle.jc_script.proofs.scripts.add_times.Goals as goal

-- The last one is the command itself.
pub returns : goal.returns
returns c =
    let times : c.loop.counter + 1 ≡ c.args.said.times = omega (arith, c.loop.auto.counter-end, c.loop-test.false, c.if-said-eq0.false) in
    let one = c.args.said.command in
    on_ok_weaker c.push-2.result
    (λ added.
    added
    ∙ ap (λ commands. commands ++ one ∷ []) c.loop.invariant
    ∙ append_assoc c.args.commands.now (replicate c.loop.counter one) (one ∷ [])
    ∙ ap (λ more. c.args.commands.now ++ more) (replicate_more c.loop.counter one ∙ ap (λ n. replicate n one) times))
    c.push-2.ensures.added
