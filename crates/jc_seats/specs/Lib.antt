pub mod Hands
pub mod Names
pub mod PlayerTurns
-- Words of the crates below, handed on to those above.
pub use Rattle.jc_core.specs.Turns
pub use Rattle.jc_core.specs.Actors
pub use Rattle.jc_core.specs.Plays
pub use Rattle.jc_core.specs.Shared
pub use Rattle.jc_core.specs.ApplyFault
pub use Rattle.jc_core.specs.declared.holding.Work
