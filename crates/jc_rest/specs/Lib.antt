pub mod LetGo
pub mod Both
pub mod Lost
pub mod Stuck
pub mod Orphans
-- Words of the crates below, handed on to those above.
pub use Rattle.jc_states.specs.Owners
