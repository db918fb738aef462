pub mod Sums
pub mod ServedFacts
pub mod AllowedFacts
pub mod SyncFacts
pub mod NodePods
pub mod NodeLeaves
pub mod StatusAlone
pub mod SyncLeaves
-- The lemmas on turns and on ends that count, handed on to the crate above.
pub use Rattle.jc_bearing.proofs.TrackFacts
pub use Rattle.jc_bearing.proofs.WholeFacts
pub use Rattle.jc_bounded.proofs.NodeTurns
pub use Rattle.jc_bounded.proofs.OnwardFacts
pub use Rattle.jc_retries.proofs.SuccessCounts
