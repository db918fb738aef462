pub mod SinceFacts
pub mod SlotFacts
pub mod ToldFacts
pub mod TouchFacts
mod PlaceFacts
-- Lemmas of the crates below, handed on to those above.
pub use Rattle.jc_play.proofs.SystemFacts
pub use Rattle.jc_play.proofs.GoFacts
pub use Rattle.jc_play.proofs.QuietSyncs
