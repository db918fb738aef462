pub mod EntryFacts
pub mod SawFacts
pub mod StandFacts
pub mod QueueFacts
pub mod LimitFacts
pub mod CountFacts
pub mod MadeFacts
-- The lemmas on what a deed is noted as, handed on to the crate above.
pub use Rattle.jc_history.proofs.LegalFacts
