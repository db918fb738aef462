pub mod TrackFacts
pub mod WriteKinds
pub mod BearFacts
pub mod DoneFacts
pub mod WholeFacts
pub mod AtMostFacts
pub mod ReportFacts
