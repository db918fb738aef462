pub mod SameFacts
pub mod DoneFacts
pub mod BringFacts
pub mod FateFacts
pub mod WholeFacts
pub mod LateFacts
