pub mod IndexFacts
pub mod IndexSetFacts
pub mod Lists
pub mod NamedFacts
pub mod PolicyFacts
