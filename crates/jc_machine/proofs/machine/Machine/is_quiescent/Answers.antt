use Rattle.std.proofs.Common.{true, false, is_some, refl, sym, ◌∙◌, true≢false}
use Rattle.jc_history.specs.Nodes.{fate, node_step}
use Rattle.jc_runs.specs.Seen.{deeds_seen, log_seen}
use Rattle.jc_machine.proofs.IdleFacts.{quiescent_by}
use Rattle.jc_machine.proofs.machine.Machine.is_quiescent.Goals as goal

pub returns-then-are_idle : goal.returns-then-are_idle
returns-then-are_idle c = quiescent_by c.args.self.now true c.node_has_step.result (λ t. c.are_idle.ensures.0 c.if-are_idle.true) (λ each. refl) c.node_has_step.ensures

pub returns-else-are_idle : goal.returns-else-are_idle
returns-else-are_idle c =
    let seen = c.args.self.now in
    c.if-are_idle.false ∙ quiescent_by seen false (is_some (node_step (log_seen seen) (fate (deeds_seen seen)))) (λ t. absurd (true≢false (sym t))) (λ each. sym c.if-are_idle.false ∙ c.are_idle.ensures.1 each) refl
