-- one folder for each command
pub mod Check
pub mod Report
pub mod Run
pub mod Line
pub mod Deliveries
