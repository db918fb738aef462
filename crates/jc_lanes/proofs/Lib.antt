pub mod LaneFacts
pub mod LongerScripts
pub mod LongerLanes
