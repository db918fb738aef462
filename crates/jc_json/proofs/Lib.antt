pub mod Items
pub mod NodeFacts
pub mod Lines
pub mod Reading
pub mod TrailFacts
pub mod Views
pub mod Written
