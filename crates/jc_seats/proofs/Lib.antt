pub mod Beginnings
pub mod HandFacts
pub mod LeaveFacts
pub mod OwnFacts
pub mod TurnFacts
pub mod UsedFacts
-- Lemmas of the crates below, handed on to those above.
pub use Rattle.jc_core.proofs.GoFacts
pub mod PlannedFacts
