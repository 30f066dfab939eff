pub mod Output
pub mod Laws
pub mod Checked
pub mod Checking
pub mod Counting
pub mod RefusedCalls
pub mod RefusedInLog
