mod Parts
mod Lines
mod Entries
mod Objects
pub mod Listing
pub mod Leaving
