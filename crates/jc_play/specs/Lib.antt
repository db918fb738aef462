pub mod Actors
pub mod Slots
pub mod Turns
pub mod Ways
-- Words of the crates below, handed on to those above.
pub use Rattle.jc_machine.specs.Places
pub use Rattle.jc_machine.specs.Plays
pub use Rattle.jc_machine.specs.DiariesSeen
pub use Rattle.jc_machine.specs.declared.apply.ApplyFault
pub use Rattle.jc_machine.specs.SyncsSeen
pub use Rattle.jc_machine.specs.Longer
