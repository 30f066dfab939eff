pub mod Access
pub mod Arriving
pub mod Bounding
pub mod Closer
pub mod InStep
pub mod Reached
