pub mod Seen
mod Apart
mod MacLemmas
pub mod After
