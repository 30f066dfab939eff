pub mod Timing
pub mod Name
