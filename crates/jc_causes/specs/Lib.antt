pub mod Causes
-- Words of the crates below, handed on to those above.
pub use Rattle.jc_states.specs.Conditions
