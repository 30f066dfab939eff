pub mod Keys
pub mod Faults
pub mod Mac
pub mod Interface
pub mod Values
pub mod Streams
pub mod Links
pub mod Laws
