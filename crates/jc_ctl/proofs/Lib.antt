mod AskedFacts
mod AuditFacts
mod DoneFacts
mod LeftFacts
mod PlayedFacts
-- Lemmas of the crates below, handed on to those above.
pub use Rattle.jc_single.proofs.ShapeFacts
