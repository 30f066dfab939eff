pub mod AskedTexts
mod Closed
mod Room
mod ReadInput
pub mod BookOf
mod Commands
pub mod ExactParts
pub mod InTime
