pub mod GrantFacts
pub mod ApartFacts
pub mod SawFacts
pub mod DoingFacts
pub mod UnderWay
pub mod StepGrants
pub mod SettleGrants
