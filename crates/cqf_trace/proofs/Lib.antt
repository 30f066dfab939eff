pub mod Leaving
pub mod ByTwo
mod Segments
pub mod Held
mod Rows
mod Gathered
mod Reported
