mod Versions
-- Lemmas of the crates below, handed on to those above.
pub use Rattle.jc_table.proofs.RowFacts
