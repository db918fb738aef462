pub mod Places
pub mod LongerScripts
