pub mod Sealing
pub mod Seated
pub mod Traced
