pub mod Targets
pub mod Going
pub mod PartFacts
pub mod ValueFacts
pub mod NextFacts
pub mod NotedFacts
pub mod PlanBounds
pub mod PlanFacts
pub mod OrderFacts
pub mod BackoffFacts
pub mod LeftFacts
-- The lemmas on a plan's parts, handed on to the crates above.
pub use Rattle.jc_account.proofs.AccountFacts
pub use Rattle.jc_account.proofs.ListedFacts
pub use Rattle.jc_account.proofs.Owned
pub use Rattle.jc_account.proofs.RoomFacts
pub use Rattle.jc_manage.proofs.OneWay
pub use Rattle.jc_perindex.proofs.Raised
