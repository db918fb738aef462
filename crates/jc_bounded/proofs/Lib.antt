pub mod OnwardFacts
pub mod FaultFacts
pub mod NodeTurns
pub mod SyncTurns
pub mod FoldFacts
pub mod CompletionFacts
