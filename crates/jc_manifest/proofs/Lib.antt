pub mod AcceptedFacts
pub mod CountFacts
pub mod Valid
-- The lemmas on sets of indexes in a text, handed on to the crates above.
pub use Rattle.jc_policies.proofs.IndexSetFacts
