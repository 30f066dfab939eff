-- one folder for each command
pub mod Hops
pub mod Summary
