pub mod CompactFacts
pub mod CutFacts
pub mod ReadFacts
pub mod VerbFacts
pub mod Found
pub mod AgainHead
pub mod AgainTemplate
pub mod AgainFailures
pub mod AgainSuccess
pub mod AgainSpec
pub mod AllowedFacts
pub mod AllowedSets
pub mod AllowedWhole
pub mod ToldFacts
mod FoundFacts
mod ItemFacts
mod KeyFacts
mod NumberFacts
mod RangeFacts
pub mod ValidFacts
mod ContentFacts
mod SpelledFacts
mod TextFacts
mod AsciiFacts
mod MemberFacts
mod ChangeAgain
mod EndsAgain
mod RisingFacts
mod NamedFacts
mod ReportAgain
mod SpelledMembers
mod AllowedEnds
mod AllowedReports
mod JobTexts
mod TurnedFacts
mod PartsAgain
mod ProperScripts
