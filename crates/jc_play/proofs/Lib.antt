pub mod FirstFacts
pub mod KindFacts
pub mod OnFacts
pub mod SystemFacts
pub mod GoFacts
pub mod PlayFacts
pub mod WholeFacts
pub mod TellFacts
pub mod ActorFacts
pub mod UnheldFacts
-- Lemmas of the crates below, handed on to those above.
pub use Rattle.jc_machine.proofs.Clocks
pub use Rattle.jc_machine.proofs.QuietSyncs
pub use Rattle.jc_machine.proofs.LaneFacts
pub use Rattle.jc_machine.proofs.LongerScripts
pub use Rattle.jc_machine.proofs.OrderFacts
pub use Rattle.jc_machine.proofs.Starts
