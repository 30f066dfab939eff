pub mod Loose
pub mod Background
pub mod Exact
pub mod Timely
pub mod Exists
pub mod Unique
pub mod Lagging
