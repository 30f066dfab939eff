pub mod GateLaws
pub mod PortLaws
pub mod NetworkLaws
