pub mod Arrays
pub mod HeldEnds
mod LinkEnds
pub mod FirstNamed
pub mod Refusals
pub mod Ordered
pub mod Accepted
pub mod Nodes
pub mod Distinct
pub mod Repeats
pub mod Written
pub mod Passed
pub mod Fronts
pub mod Copies
mod Alike
