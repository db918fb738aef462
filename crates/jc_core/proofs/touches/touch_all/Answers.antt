use Rattle.std.proofs.Common.{◌≡◌, true, false, sym, subst}
use Rattle.jc_core.specs.Shared.{has_holders}
use Rattle.jc_core.proofs.ToldFacts.{restarted-free, wanting-free}
use Rattle.jc_core.proofs.touches.touch_all.Goals as goal

pub returns-then-tells_begin-clause-free : goal.returns-then-tells_begin-clause-free
returns-then-tells_begin-clause-free c = λ free. subst (λ s. has_holders s ≡ false) (sym c.change_all.ensures.slots) (wanting-free true c.in-Begin.controller c.in-Begin.worker c.args.slots.now.items free)

pub returns-in-Step-clause-free : goal.returns-in-Step-clause-free
returns-in-Step-clause-free c = λ free. subst (λ s. has_holders s ≡ false) (sym c.change_all-in-Step.ensures.slots) (wanting-free false c.in-Step.controller c.in-Step.worker c.args.slots.now.items free)

pub returns-in-Restart-clause-free : goal.returns-in-Restart-clause-free
returns-in-Restart-clause-free c = λ free. subst (λ s. has_holders s ≡ false) (sym c.change_all-in-Restart.ensures.slots) (restarted-free c.in-Restart.controller c.args.slots.now.items free)
