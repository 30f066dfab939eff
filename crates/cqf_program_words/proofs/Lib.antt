pub mod WordLemmas
mod LinkLemmas
pub mod Growing
pub mod Ranges
mod Reading
