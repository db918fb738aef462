pub mod LineCauses
pub mod EndMembers
pub mod Items
pub mod Members
pub mod Named
pub mod Phases
