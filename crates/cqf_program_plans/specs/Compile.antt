pub mod Output
pub mod Written
pub mod Gated
