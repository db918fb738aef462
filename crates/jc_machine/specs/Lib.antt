pub mod MachineKept
pub mod Calls
pub mod SystemCommands
pub mod FinishedPods
pub mod ShapeFits
pub mod DiariesSeen
pub mod Idle
pub mod SyncsSeen
pub mod Longer
-- Words of the crates below, handed on to those above.
pub use Rattle.jc_lanes.specs.Places
pub use Rattle.jc_order.specs.Plays
