pub mod Keys
pub mod TrafficText
pub mod FlowsText
pub mod PacedFlows
pub mod Offering
pub mod Conforming
