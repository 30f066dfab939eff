pub mod Branches
pub mod Trees
pub mod Indices
pub mod Granted
pub mod FewLinks
pub mod ActiveCycles
pub mod Sound
pub mod Growth
pub mod Orderly
pub mod Verdicts
pub mod Closed
mod Pairs
mod StreamRows
mod Backgrounds
pub mod Ends
pub mod Numbers
