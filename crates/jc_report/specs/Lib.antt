pub mod Drafted
pub mod Sent
-- Words of the crates below, handed on to those above.
pub use Rattle.jc_lines.specs.Reports
pub use Rattle.jc_lines.specs.Told
pub use Rattle.jc_core.specs.Turns
