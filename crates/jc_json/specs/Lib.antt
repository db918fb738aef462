pub mod Exact
pub mod Field
pub mod Given
pub mod Line
pub mod Place
pub mod Trails
pub mod View
