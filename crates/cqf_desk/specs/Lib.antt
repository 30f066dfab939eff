pub mod Closing
pub mod Desk
pub mod Following
-- properties of the internal functions
pub mod Again
pub mod Faults
