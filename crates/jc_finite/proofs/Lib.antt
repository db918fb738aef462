pub mod Strong
pub mod Within
pub mod SyncWithin
pub mod NodeWithin
pub mod TurnKinds
pub mod StartFacts
pub mod StoppedFacts
pub mod SuccessFacts
pub mod LastFacts
pub mod EndFacts
-- The lemma on successes, handed on to the crate above.
pub use Rattle.jc_remaining.proofs.SuccessCounts
