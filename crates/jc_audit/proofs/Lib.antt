pub mod LastFacts
pub mod WalkFacts
pub mod BackFacts
pub mod ReportFacts
pub mod LastPlace
pub mod OnlyFacts
pub mod TakeFacts
pub mod TailFacts
pub mod AuditFacts
pub mod UniqueFacts
mod ValidFacts
