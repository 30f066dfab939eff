pub mod Output
pub mod Telling
