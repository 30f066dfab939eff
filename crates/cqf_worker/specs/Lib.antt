pub mod Wires
pub mod Laying
pub mod Closing
pub mod Faults
pub mod Noting
pub mod Running
pub mod Reporting
pub mod Account
pub mod Failing
-- definitions used by the contracts of inner functions
pub mod Conducting
