pub mod Closing
pub mod Texts
pub mod Clocks
pub mod Starts
pub mod Admitted
mod Readings
mod IdleFacts
mod NodeCalls
mod SyncFacts
pub mod QuietSyncs
pub mod LongerFacts
-- Lemmas of the crates below, handed on to those above.
pub use Rattle.jc_lanes.proofs.LaneFacts
pub use Rattle.jc_lanes.proofs.LongerScripts
pub use Rattle.jc_order.proofs.PlayFacts
pub use Rattle.jc_bounds.proofs.OrderFacts
