pub mod Retries
pub mod RetrySamples
-- Handed on: how the pods of a key end, and how many may be made for a Job whose pods succeed at last.
pub use Rattle.jc_making.specs.Nodes
pub use Rattle.jc_making.specs.Making
pub use Rattle.jc_making.specs.Grants
