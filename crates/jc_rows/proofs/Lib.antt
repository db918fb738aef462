pub mod CountFacts
pub mod Lists
pub mod NameFacts
pub mod RowFacts
