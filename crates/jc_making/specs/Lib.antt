pub mod Making
pub mod Grants
pub mod Examples
-- How the pods of a key end.
pub use Rattle.jc_history.specs.Nodes
