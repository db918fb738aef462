pub mod Filled
pub mod NotedFacts
pub mod Placed
pub mod Raised
pub mod Sets
