pub mod Asked
pub mod Audited
pub mod Done
-- Words of the crates below, handed on to those above.
pub use Rattle.jc_single.specs.Played
pub use Rattle.jc_single.specs.RunAnswers
pub use Rattle.jc_single.specs.Headlines
pub use Rattle.jc_single.specs.declared.status.Status
pub use Rattle.jc_single.specs.ValidActions
pub use Rattle.jc_single.specs.Plays
