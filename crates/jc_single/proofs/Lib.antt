pub mod ShapeFacts
pub mod WholeFacts
pub mod RunFacts
pub mod EndFacts
pub mod WordFacts
pub mod ReapFacts
pub mod ExtendFacts
pub mod InTimeFacts
-- Lemmas of the crates below, handed on to those above.
pub use Rattle.jc_promise.proofs.DeedFacts
