pub mod Finite
-- Words of the crates below, handed on to the crate above: which policies restart, how pods end, and which
-- ends count.
pub use Rattle.jc_remaining.specs.Decisions
pub use Rattle.jc_remaining.specs.Making
pub use Rattle.jc_remaining.specs.Remaining
pub use Rattle.jc_remaining.specs.Retries
pub use Rattle.jc_restarts.specs.Restarts
