pub mod Segments
pub mod Logs
pub mod Leading
pub mod Queues
pub mod Offering
pub mod Sending
pub mod Standing
