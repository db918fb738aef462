pub mod LawFacts
pub mod RoomFacts
pub mod TurnFacts
-- The lemmas on caches, handed on to the crates above.
pub use Rattle.jc_cache.proofs.CacheFacts
