pub mod Remaining
-- Words of the crates below, handed on to the crate above: on states between turns and whole syncs, on how pods end and which
-- ends count, which policies restart, and what a sync plans.
pub use Rattle.jc_bearing.specs.Served
pub use Rattle.jc_bearing.specs.Whole
pub use Rattle.jc_bounded.specs.Faultless
pub use Rattle.jc_retries.specs.Making
pub use Rattle.jc_retries.specs.Nodes
pub use Rattle.jc_plan.specs.Decisions
pub use Rattle.jc_plan.specs.Plans
pub use Rattle.jc_retries.specs.Retries
