pub mod Output
pub mod Legs
pub mod Text
pub mod Gathered
pub mod Known
pub mod Reading
pub mod Prepared
pub mod Rounds
