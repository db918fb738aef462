pub mod Commands
pub mod Fits
pub mod TextLines
pub mod Scripts
pub mod Updates
pub mod Verbs
-- Words of the crates below, handed on to those above.
pub use Rattle.jc_members.specs.declared.causes.Cause
pub use Rattle.jc_members.specs.LineCauses
pub use Rattle.jc_members.specs.EndMembers
pub use Rattle.jc_members.specs.Items
pub use Rattle.jc_members.specs.Members
pub use Rattle.jc_members.specs.Phases
