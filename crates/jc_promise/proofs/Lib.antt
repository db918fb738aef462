pub mod DeedFacts
mod NumberFacts
mod QuietFacts
mod SampleFacts
mod WrongFacts
mod WrongSyncFacts
mod WrongCauseFacts
mod WrongRestFacts
mod WrongRoomFacts
-- Lemmas of the crates below, handed on to those above.
pub use Rattle.jc_runs.proofs.BackoffFacts
