pub mod Longer
pub mod Heads
pub mod Steps
pub mod Wire
pub mod More
pub mod Counts
pub mod Written
pub mod Staying
pub mod Chosen
pub mod Waiting
pub mod Coming
pub mod Fitting
pub mod Kept
mod Begun
