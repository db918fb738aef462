-- Where as many are active as have the finalizer, none is marked.
use Rattle.std.proofs.Common.{ap, arith}
use Rattle.std.proofs.lemmas.Bool.{ltb-false}
use Rattle.jc_states.specs.Bases.{own_pods}
use Rattle.jc_states.specs.declared.tallies.Tally.{Tally}
use Rattle.jc_manage.proofs.NotedFacts.{marks-none}
use Rattle.jc_manage.proofs.let_goes.has_stray.Goals as goal

pub returns : goal.returns
returns c = λ h.
    let all = ap (λ (t : Tally). t.active) c.tally-tally.ensures in
    let tracked = ap (λ (t : Tally). t.active_tracked) c.tally-tally.ensures in
    marks-none (own_pods c.args.job.now c.args.pods.now) (omega (arith, all, tracked, ltb-false _ _ h))
