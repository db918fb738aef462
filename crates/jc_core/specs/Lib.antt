pub mod RegisterChanges
pub mod Shared
pub mod Since
-- Words of the crates below, handed on to those above.
pub use Rattle.jc_play.specs.ApplyFault
pub use Rattle.jc_play.specs.DiariesSeen
pub use Rattle.jc_play.specs.Places
pub use Rattle.jc_play.specs.Plays
pub use Rattle.jc_play.specs.Actors
pub use Rattle.jc_play.specs.Slots
pub use Rattle.jc_play.specs.Turns
pub use Rattle.jc_play.specs.declared.actors.Actor
pub use Rattle.jc_play.specs.declared.slots.Slot
