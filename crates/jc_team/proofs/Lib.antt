pub mod Begins
pub mod Texts
-- Lemmas of the crates below, handed on to those above.
pub use Rattle.jc_queue.proofs.DueFacts
pub use Rattle.jc_control.proofs.LawFacts
pub use Rattle.jc_queue.proofs.OrderFacts
