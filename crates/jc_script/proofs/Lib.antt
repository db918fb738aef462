pub mod FirstByte
pub mod FirstLine
pub mod FitFacts
pub mod Reading
pub mod Rows
-- Lemmas of the crates below, handed on to those above.
pub use Rattle.jc_members.proofs.Within
