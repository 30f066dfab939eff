pub mod Following
pub mod Traced
pub mod Hindmost
