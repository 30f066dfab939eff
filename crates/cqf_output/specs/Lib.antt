pub mod Stops
pub mod Edge
pub mod Kinds
pub mod Writer
