pub mod Order
pub mod Strict
mod Early
mod Changed
mod Tallied
mod Apart
mod Placed
mod Listed
pub mod OneMore
mod Written
mod Within
mod Found
mod Named
mod Known
mod InRounds
mod Going
mod OfDrops
mod Pushing
mod Laid
mod Writing
mod OfBook
mod OfHops
