pub mod Backoffs
pub mod Creations
pub mod SeenPods
pub mod LetGoes
pub mod Planned
pub mod Ranks
