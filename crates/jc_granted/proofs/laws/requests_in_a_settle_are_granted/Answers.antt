-- The lemmas on syncs along a settle.
use Rattle.jc_granted.proofs.SettleGrants.{granted}
use Rattle.jc_granted.proofs.laws.requests_in_a_settle_are_granted.Goals as goal

pub returns : goal.returns
returns c =
    λ shape run past k w basis d it.
    granted c.allowed_updates_stay_valid.ensures shape it.some past run k w basis d it.legal it.valid it.settling it.controller it.worker it.begun it.alone
