pub mod Costs
pub mod NameText
pub mod Cycles
pub mod Times
