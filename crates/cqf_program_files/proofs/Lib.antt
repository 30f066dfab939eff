pub mod Firsts
pub mod Putting
pub mod Scripts
